use Rattle.nr_peel.proofs.Common.{IsClear, ◌+◌, ◌*◌, ◌/◌, ◌≤◌, cols_of, div_below, mod_below, mul-le-mul_right}
use Rattle.nr_peel.proofs.Common.{◌≡◌, ℕ, ◌==◌, ◌&&◌, ◌||◌, length, refl, sym, ◌∙◌, arith, eqb-true, bit}
use Rattle.nr_peel.proofs.Common.{lifted_checks, GivesPositions, BlockBits}
use Rattle.nr_peel.proofs.GivenLaneFacts.{none_given, one_marks, one_given, rows_few}
use Rattle.nr_peel.proofs.bit_parallel.lanes.Lanes.give_one.Goals.{After-one_marked-lane, After-mark_column}
use Rattle.nr_peel.proofs.bit_parallel.lanes.Lanes.give_one.Given as given
use Rattle.nr_peel.proofs.bit_parallel.lanes.Lanes.give_one.Goals as goal

-- what is heard, after it is known what became of the bits
gives : (g : given.Over) (c : After-mark_column g) (bits : BlockBits)
    → ((p : ℕ) → bit bits.items p ≡ (bit c.args.self.now.bits.items p || ((c.args.pos == p) && c.args.value)))
    → length bits.items ≡ length c.args.self.now.bits.items → bits.lanes ≡ c.args.self.now.bits.lanes
    → GivesPositions (lifted_checks c.args.lifted.now) (λ p. c.args.pos == p) (λ p. c.args.value) c.args.self.now
    (record { known = c.union_with.new.self; bits = bits; seen = c.mark_column.new.self })
gives g c bits are long lanes =
    let marks =
    λ (p : ℕ). one_marks c.args.lifted.now.plan.z c.args.pos p c.one_marked-lane.result c.one_marked-lane.ensures.marks in
    one_given (lifted_checks c.args.lifted.now) c.args.pos c.args.value c.args.self.now
    (rows_few c.args.lifted.now.plan.graph) c.requires.lanes _ (sym c.get.ensures ∙ c.if-not-get.true)
    (λ p. grind (arith, c.union_with.ensures.joined p, marks p))
    are c.mark_column.ensures (assumption)

pub returns-then-value : goal.returns-then-value
returns-then-value g c =
    let marks =
    λ (p : ℕ). one_marks c.args.lifted.now.plan.z c.args.pos p c.one_marked-lane.result c.one_marked-lane.ensures.marks in
    gives g (goal.at.returns-then-value g c).After-mark_column c.union_with-then-value.new.self
    (λ p. grind (arith, c.union_with-then-value.ensures.joined p, marks p, c.if-value.true)) c.union_with-then-value.ensures.long
    c.union_with-then-value.ensures.lanes

pub returns-else-value : goal.returns-else-value
returns-else-value g c = gives g (goal.at.returns-else-value g c).After-mark_column c.args.self.now.bits
    (λ p. grind (arith, c.if-value.false)) refl refl

-- a position that was known
pub returns-else-not-get : goal.returns-else-not-get
returns-else-not-get g c = none_given (lifted_checks c.args.lifted.now) _ _ _ c.requires.lanes
    (λ p same. rw (← (eqb-true c.args.pos p same)) (sym c.get.ensures ∙ c.if-not-get.false))

-- ---- what the calls require

-- the position's column and its row exist
inside : (g : given.Over) (c : After-one_marked-lane g)
    → ((c.args.pos / c.args.lifted.now.plan.z + 1) * c.args.lifted.now.plan.z ≤ (lifted_checks c.args.lifted.now).size)
    × IsClear c.one_marked-lane.result c.args.lifted.now.plan.z
inside g c =
    let z = c.args.lifted.now.plan.z in
    let some = c.args.lifted.now.plan.sound.size_some in (
      mul-le-mul_right z (omega (arith, div_below c.args.pos z (cols_of c.args.lifted.now.plan.graph) some c.requires.inside)),
      λ t past. c.one_marked-lane.ensures.clear t (omega (arith, past, mod_below c.args.pos z some)),
    )

pub union_with-requires : goal.union_with-requires
union_with-requires g c = grind (arith, inside g (goal.at.union_with-requires g c).After-one_marked-lane)

pub mark_column-requires : goal.mark_column-requires
mark_column-requires g c = grind (
  arith,
  div_below c.args.pos c.args.lifted.now.plan.z (cols_of c.args.lifted.now.plan.graph) c.args.lifted.now.plan.sound.size_some
      c.requires.inside,
)

pub union_with-requires-then-value : goal.union_with-requires-then-value
union_with-requires-then-value g c = grind (arith, inside g (goal.at.union_with-requires-then-value g c).After-one_marked-lane)
