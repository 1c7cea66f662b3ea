use Rattle.nr_lifting.proofs.Names.{ap, arith, count_of, get_or_read, sym, ◌&&◌, ◌==◌, ◌∙◌, no_block}
use Rattle.nr_lifting.proofs.CountViewFacts.{count_in, counts_within, planes_fit}
use Rattle.nr_lifting.proofs.lanes.bit_sliced_counts.BitSlicedCounts.ones.Goals as goal

pub index-requires : goal.index-requires
index-requires g c = omega (arith, counts_within c.self.invariant c.self.view_is c.args.i c.requires.block)

pub ones-requires : goal.ones-requires
ones-requires g c = omega (arith, c.self.invariant.thin, planes_fit g.row.P g.row.W c.self.invariant.thin c.self.invariant.words)

pub returns-clause-ones : goal.returns-clause-ones
returns-clause-ones g c =
    let within = counts_within c.self.invariant c.self.view_is c.args.i c.requires.block in
    rw (← c.self.view_is) (λ t below.
    c.ones.ensures.bits t ∙ ap (λ m. (m == 1) && (count_of c.index.result.now t == 1)) (c.self.invariant.mask.set t below)
    ∙ ap (λ g. count_of g t == 1)
    (get_or_read c.self.inside.blocks.items c.args.i c.index.result.now within c.index.ensures no_block)
    ∙ ap (λ n. n == 1) (sym (count_in c.self.inside.size c.self.invariant.some c.self.inside.blocks.items c.args.i t below)))

pub returns-clause-clear : goal.returns-clause-clear
returns-clause-clear g c = rw (← c.self.view_is) (c.ones.ensures.clear c.self.inside.size c.self.invariant.mask.clear)
