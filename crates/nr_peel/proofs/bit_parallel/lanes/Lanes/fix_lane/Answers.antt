use Rattle.nr_peel.proofs.Common.{◌<◌, ◌≡◌, ◌%◌, ◌&&◌, ◌||◌, ◌∙◌, ℕ, true, length, refl, sym, ap}
use Rattle.nr_peel.proofs.Common.{arith, not-true, and_parts, bit, is_set, unrotate, value_in, marked-same, marks_of, missing_at}
use Rattle.nr_peel.proofs.{Common.rotated_step, Common.TakesLane, Common.BlockBits, Common.has_seen, SweepStepFacts.adds_nothing}
use Rattle.nr_peel.proofs.LaneMarkFacts.{lacking, taken_none, taken_seen, marks_none, turned_marks}
use Rattle.nr_peel.proofs.StepFacts.{steps_same}
use Rattle.nr_peel.proofs.bit_parallel.lanes.Lanes.fix_lane.Goals.{After-fix, After-missing-lane}
use Rattle.nr_peel.proofs.bit_parallel.lanes.Lanes.fix_lane.Given as given
use Rattle.nr_peel.proofs.bit_parallel.lanes.Lanes.fix_lane.Goals as goal

-- the lane of missing positions
lane_is : (g : given.Over) (c : After-missing-lane g) → (t : ℕ)
    → is_set c.missing-lane.result t ≡ missing_at c.args.lifted.now c.args.entry.now c.args.rows.now.ones c.args.self.now t
lane_is g c =
    let l = c.args.lifted.now in
    lacking l.plan.z c.args.entry.now.col (value_in l.plan.set c.args.entry.now) l.plan.sound.size_some c.args.rows.now.ones
    c.missing-lane.result (has_seen c.args.self.now.seen c.args.i c.args.k)
    (bit c.args.self.now.known.items) c.requires.clear c.missing-lane.ensures.bits c.requires.seen

pub add_lane-requires : goal.add_lane-requires
add_lane-requires g c =
    let rows = marked-same (is_set c.missing-lane.result)
    (missing_at c.args.lifted.now c.args.entry.now c.args.rows.now.ones c.args.self.now) c.args.lifted.now.plan.z
    (λ t _. lane_is g (goal.at.add_lane-requires g c).After-missing-lane t) in
    let clear = c.missing-lane.ensures.clear c.args.lifted.now.plan.z c.requires.clear in
    let turn = c.rotation-rotation.ensures in
    (omega arith, (turn.size, (c.requires.short, (turn.small, (clear, λ kept. omega (arith, rows, c.requires.room kept))))))

-- none of its rows is known
pub fix-requires : goal.fix-requires
fix-requires g c =
    let apart = λ (t : ℕ) (set : is_set c.missing-lane.result t ≡ true).
    not-true _ (and_parts _ _ (sym (c.missing-lane.ensures.bits t) ∙ set)).1 in
    rw (c.mark_column.ensures.still.lanes, c.mark_column.ensures.still.starts, c.from-col.ensures)
    (omega arith, (omega arith, (c.requires.block, (c.requires.entry, (c.requires.column, apart)))))

pub union_rotated-requires : goal.union_rotated-requires
union_rotated-requires g c =
    let clear = c.missing-lane.ensures.clear c.args.lifted.now.plan.z c.requires.clear in
    rw (c.requires.same, c.from-col.ensures)
    (omega arith, (omega arith, (c.requires.known, (c.turned_back-back.ensures.small, clear))))

pub union_rotated-requires-then-not-is_blank-2 : goal.union_rotated-requires-then-not-is_blank-2
union_rotated-requires-then-not-is_blank-2 g c =
    let z = c.args.lifted.now.plan.z in
    let clear = c.common-set.ensures.clear z (c.missing-lane.ensures.clear z c.requires.clear) in
    rw (c.requires.same_bits, c.from-col.ensures)
    (omega arith, (omega arith, (c.requires.bits, (c.turned_back-back.ensures.small, clear))))

-- the missing positions became known, whatever bits they have
taken : (g : given.Over) (c : After-fix g) (bits : BlockBits)
    → ((t : ℕ) → is_set c.missing-lane.result t
    ≡ missing_at c.args.lifted.now c.args.entry.now c.args.rows.now.ones c.args.self.now t)
    → ((p : ℕ) → bit bits.items p
    ≡ (bit c.args.self.now.bits.items p
    || marks_of c.args.lifted.now.plan.z c.args.entry.now.col (value_in c.args.lifted.now.plan.set c.args.entry.now)
    (λ t. missing_at c.args.lifted.now c.args.entry.now c.args.rows.now.ones c.args.self.now t
    && is_set c.args.rows.now.sums t) p))
    → length bits.items ≡ length c.args.self.now.bits.items → bits.lanes ≡ c.args.self.now.bits.lanes
    → TakesLane {W = g.row.W} {D = g.row.D} c.args.lifted.now c.args.i c.args.k c.args.entry.now c.args.rows.now.ones
    c.args.rows.now.sums
    c.args.self.now (record { known = c.union_rotated.new.self; bits = bits; seen = c.fix.new.self }) c.args.order.now
    c.add_lane.new.self
taken g c bits lane joined long lanes =
    let l = c.args.lifted.now in
    let e = c.args.entry.now in
    let a = c.args.self.now in
    let z = l.plan.z in
    let v = value_in l.plan.set e in
    let u = missing_at l e c.args.rows.now.ones a in
    let step = rotated_step z e.row e.col (v % z) in
    let turned = turned_marks z e.col v l.plan.sound.size_some c.missing-lane.result u lane in
    let known =
    simp turned at (rw (c.requires.same, c.from-col.ensures, c.turned_back-back.ensures.value, c.rotation-rotation.ensures.value)
    at c.union_rotated.ensures.joined) in
    let same = steps_same step step (is_set c.missing-lane.result) u z (λ t _ _. refl) (λ t _. lane t) in
    let small : c.args.i < 64 = omega (arith, c.requires.block) in
    let marks = rw c.from-col.ensures at c.mark_column.ensures in
    let f = rw c.from-col.ensures at c.fix.ensures in
    record {
      known = known;
      seen = taken_seen z c.args.i c.args.k e.col u (λ p. u (unrotate z v (p % z))) c.missing-lane.result a.known.items _ a.seen
          c.mark_column.new.self c.fix.new.self small known lane
          marks f.seen f.long f.looked;
      bits = joined;
      adds = rw (c.rotation-rotation.ensures.value, same) at c.add_lane.ensures;
      known_long = c.union_rotated.ensures.long;
      bits_long = long;
      known_lanes = c.union_rotated.ensures.lanes;
      bits_lanes = lanes;
    }

-- some of the missing positions are ones, which their bits become
pub returns-then-not-is_blank-2 : goal.returns-then-not-is_blank-2
returns-then-not-is_blank-2 g c =
    let l = c.args.lifted.now in
    let e = c.args.entry.now in
    let at = goal.at.returns-then-not-is_blank-2 g c in
    let lane = lane_is g at.After-missing-lane in
    let set = turned_marks l.plan.z e.col (value_in l.plan.set e) l.plan.sound.size_some c.common-set.result
    (λ t. missing_at l e c.args.rows.now.ones c.args.self.now t && is_set c.args.rows.now.sums t)
    (λ t. c.common-set.ensures.bits t ∙ ap (λ b. b && is_set c.args.rows.now.sums t) (lane t)) in
    let bits =
    simp set at (rw (c.requires.same_bits, c.from-col.ensures, c.turned_back-back.ensures.value, c.rotation-rotation.ensures.value)
    at c.union_rotated-then-not-is_blank-2.ensures.joined) in
    taken g at.After-fix c.union_rotated-then-not-is_blank-2.new.self lane bits c.union_rotated-then-not-is_blank-2.ensures.long
    c.union_rotated-then-not-is_blank-2.ensures.lanes

-- all missing positions are zeros, so the bits stay as they are
pub returns-else-not-is_blank-2 : goal.returns-else-not-is_blank-2
returns-else-not-is_blank-2 g c =
    let l = c.args.lifted.now in
    let e = c.args.entry.now in
    let at = goal.at.returns-else-not-is_blank-2 g c in
    let lane = lane_is g at.After-missing-lane in
    let none = λ (t : ℕ). ap (λ b. b && is_set c.args.rows.now.sums t) (sym (lane t)) ∙ sym (c.common-set.ensures.bits t)
    ∙ c.is_blank-then-not-is_blank.ensures.0 c.if-not-is_blank-2.false t in
    taken g at.After-fix c.args.self.now.bits lane
    (λ p. marks_none l.plan.z e.col (value_in l.plan.set e) l.plan.sound.size_some
    (λ t. missing_at l e c.args.rows.now.ones c.args.self.now t && is_set c.args.rows.now.sums t) _ p none) refl refl

-- no row misses this entry's position, so nothing changes
pub returns-else-not-is_blank : goal.returns-else-not-is_blank
returns-else-not-is_blank g c =
    let l = c.args.lifted.now in
    let a = c.args.self.now in
    let lane = lane_is g (goal.at.returns-else-not-is_blank g c).After-missing-lane in
    let none = λ (t : ℕ). sym (lane t) ∙ c.is_blank.ensures.0 c.if-not-is_blank.false t in
    let seen =
    taken_none l.plan.z c.args.i c.args.k (missing_at l c.args.entry.now c.args.rows.now.ones a) a.known.items a.seen none in
    let e = c.args.entry.now in
    let adds = adds_nothing (rotated_step l.plan.z e.row e.col (value_in l.plan.set e % l.plan.z))
    (missing_at l e c.args.rows.now.ones a) l.plan.z c.args.order.now none in
    let v = value_in l.plan.set e in
    let u = missing_at l e c.args.rows.now.ones a in
    let unset = λ (t : ℕ). ap (λ b. b && is_set c.args.rows.now.sums t) (none t) in
    record {
      known = λ p. marks_none l.plan.z e.col v l.plan.sound.size_some u _ p none;
      seen = seen;
      bits = λ p. marks_none l.plan.z e.col v l.plan.sound.size_some (λ t. u t && is_set c.args.rows.now.sums t) _ p unset;
      adds = adds;
      known_long = refl;
      bits_long = refl;
      known_lanes = refl;
      bits_lanes = refl;
    }
