use Rattle.nr_ldpcenc.proofs.Common.{◌≡◌, ◌+◌, ◌*◌, ap, ◌∙◌, arith, mod-eq_of_lt, bit, is_set}
use Rattle.nr_ldpcenc.proofs.DoubledSumFacts.{twice_more}
use Rattle.nr_ldpcenc.proofs.doubled_columns.put_column.Goals as goal

pub returns-clause-twice : goal.returns-clause-twice
returns-clause-twice g c =
    twice_more g.row.Z g.row.W c.args.j _ _ _ c.requires.below c.requires.most c.requires.twice c.put_doubled.ensures.doubled
    c.put_doubled.ensures.others

pub returns-clause-column : goal.returns-clause-column
returns-clause-column g c = λ t lt.
    let there : 768 * c.args.j + t ≡ 64 * (12 * c.args.j) + t = omega arith in
    ap (is_set c.put_doubled.new.words) there ∙ c.put_doubled.ensures.doubled t (omega (arith, lt))
    ∙ ap (bit c.args.lane.now) (mod-eq_of_lt lt)

pub returns-clause-before : goal.returns-clause-before
returns-clause-before g c = λ t lt. c.put_doubled.ensures.others.before t (omega (arith, lt))
