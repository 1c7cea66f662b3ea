use Rattle.nr_interleave.proofs.{Common.◌+◌, Common.◌*◌, OctetFacts.only-comes, OctetFacts.then-gets}
use Rattle.nr_interleave.proofs.octets.column_word.Goals as goal

pub returns : goal.returns
returns g c =
    let rows = then-gets (then-gets c.exchanged-fours.ensures c.exchanged-pairs.ensures) c.exchanged-columns.ensures in
    let gets = then-gets (then-gets (then-gets rows c.together-quarters.ensures) c.together-halves.ensures) c.together.ensures in
    λ k r column row. only-comes (k * g.row.QM + r) (8 * r + k) gets (c.requires.columns k r column row)
