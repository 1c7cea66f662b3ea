use Rattle.nr_lifting.proofs.Names.{ap, arith, count_of, is_set, refl}
use Rattle.nr_lifting.proofs.CountViewFacts.{count_in, counts_within, counts_read, lane_digit, lowered_counts, planes_fit}
use Rattle.nr_lifting.proofs.lanes.bit_sliced_counts.BitSlicedCounts.lower.Goals as goal

pub index_mut-requires : goal.index_mut-requires
index_mut-requires g c = omega (arith, counts_within c.self.invariant c.self.view_is c.args.i c.requires.block)

-- The planes are those of block i, and none of the counts that the lane marks is 0.
pub lower_words-requires : goal.lower_words-requires
lower_words-requires g c =
    let z = c.self.inside.size in
    let enough = rw (← c.self.view_is) at c.requires.enough in
    let read = counts_read c.self.invariant c.self.view_is c.args.i c.requires.block c.index_mut.ensures.value in (
      omega (arith, planes_fit g.row.P g.row.W c.self.invariant.thin c.self.invariant.words),
      (
        omega (arith, c.self.invariant.words),
        (
          c.self.invariant.short,
          λ t below.
              omega (
                arith,
                enough t below,
                lane_digit z c.args.lane.now (is_set c.args.lane.now) (λ u _. refl) t below,
                count_in z c.self.invariant.some c.self.inside.blocks.items c.args.i t below,
                ap (λ b. count_of b t) read,
              ),
        ),
      ),
    )

-- The counts of block i fall by one if the lane marks them, and no other block changes.
pub returns-clause-falls : goal.returns-clause-falls
returns-clause-falls g c =
    let z = c.self.inside.size in
    let enough = rw (← c.self.view_is) at c.requires.enough in
    let read = counts_read c.self.invariant c.self.view_is c.args.i c.requires.block c.index_mut.ensures.value in
    rw (← c.self.view_is) (lowered_counts z c.self.invariant.some c.self.inside.blocks.items c.args.i _ (is_set c.args.lane.now)
    (counts_within c.self.invariant c.self.view_is c.args.i c.requires.block) (λ t below.
    omega (
      arith,
      c.lower_words.ensures t below,
      lane_digit z c.args.lane.now (is_set c.args.lane.now) (λ u _. refl) t below,
      enough t below,
      count_in z c.self.invariant.some c.self.inside.blocks.items c.args.i t below,
      ap (λ b. count_of b t) read,
    )))
