use Rattle.nr_lifting.proofs.Names.{ap, arith, count_of, nat_tests, true, ◌+◌}
use Rattle.nr_lifting.proofs.CountViewFacts.{count_in, counts_within, counts_read, lowered_counts, planes_fit}
use Rattle.nr_lifting.proofs.lanes.bit_sliced_counts.BitSlicedCounts.lower_each.Goals as goal

pub index_mut-requires : goal.index_mut-requires
index_mut-requires g c = omega (arith, counts_within c.self.invariant c.self.view_is c.args.i c.requires.block)

-- The first count of block i is not 0, since none is and a block has at least one.
pub lower_each-requires : goal.lower_each-requires
lower_each-requires g c =
    let z = c.self.inside.size in
    let enough = rw (← c.self.view_is) at c.requires.enough in
    let read = counts_read c.self.invariant c.self.view_is c.args.i c.requires.block c.index_mut.ensures.value in
    omega (
      arith,
      planes_fit g.row.P g.row.W c.self.invariant.thin c.self.invariant.words,
      enough 0 c.self.invariant.some,
      count_in z c.self.invariant.some c.self.inside.blocks.items c.args.i 0 c.self.invariant.some,
      ap (λ b. count_of b 0) read,
    )

-- One more is subtracted from all counts of block i, of which none was 0, and no other block changes.
pub returns-clause-falls : goal.returns-clause-falls
returns-clause-falls g c =
    let z = c.self.inside.size in
    let block = c.index_mut.result.now in
    let enough = rw (← c.self.view_is) at c.requires.enough in
    let read = counts_read c.self.invariant c.self.view_is c.args.i c.requires.block c.index_mut.ensures.value in
    rw (← c.self.view_is) (λ h t below.
    let falls = lowered_counts z c.self.invariant.some c.self.inside.blocks.items c.args.i
    (record { planes = block.planes; less = block.less + 1 }) (λ _. true)
    (counts_within c.self.invariant c.self.view_is c.args.i c.requires.block)
    (λ u within. omega (
      arith,
      enough u within,
      count_in z c.self.invariant.some c.self.inside.blocks.items c.args.i u within,
      ap (λ b. count_of b u) read,
    )) h t below in
    rw c.lower_each.ensures (grind (arith, nat_tests, falls)))
