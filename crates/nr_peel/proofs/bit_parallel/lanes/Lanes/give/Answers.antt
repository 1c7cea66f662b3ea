use Rattle.nr_peel.proofs.Common.{◌≤◌, mul-le-mul_right, ◌≡◌, ◌==◌, eqb-true, mod_below, lane_marks, lifted_checks}
use Rattle.nr_peel.proofs.Common.{◌+◌, ◌*◌, ◌^◌, ◌<◌, ◌%◌, true, refl, arith, ℕ, bit, cols_of, news, is_set}
use Rattle.nr_peel.proofs.GivenLaneFacts.{in_column, lane_new, rows_few, given_all, given_next, given_skip}
use Rattle.nr_peel.proofs.{LaneMarkFacts.column_marked, MarkedFacts.marked_full}
use Rattle.nr_peel.proofs.bit_parallel.lanes.Lanes.give.Goals.{After-lacking-lane, In-loop-j, else-not-is_blank, then-not-is_blank}
use Rattle.nr_peel.proofs.bit_parallel.lanes.Lanes.give.Given as given
use Rattle.nr_peel.proofs.bit_parallel.lanes.Lanes.give.Goals as goal

-- the lane of a column's positions that are given and aren't known
new_marks : (g : given.Over) (c : After-lacking-lane g) → (p : ℕ)
    → lane_marks c.args.lifted.now.plan.z c.loop-j.j (is_set c.lacking-lane.result) p
    ≡ in_column c.args.lifted.now.plan.z (news (bit c.args.heard.now.items) c.args.self.now) c.loop-j.j p
new_marks g c =
    lane_new _ _ c.args.lifted.now.plan.sound.size_some _ _ _ _ c.loop-j.invariant _ _ c.read_lane-given.ensures.bits
    (rw (c.loop-j.invariant.alike.known_lanes, c.requires.lanes.known_lanes) at c.lacking-lane.ensures.bits)

-- the next column is given
pub loop-j-preserved : goal.loop-j-preserved
loop-j-preserved g c =
    let z = c.args.lifted.now.plan.z in
    let some = c.args.lifted.now.plan.sound.size_some in
    let inv = c.loop-j.invariant in
    let was = c.requires.lanes in
    let marks = new_marks g (goal.at.loop-j-preserved g c).After-lacking-lane in
    elim c.if-not-is_blank.branch [
      | then-not-is_blank w ↦
          let count = w.lane_count.ensures.marked z (rw (inv.alike.known_lanes, was.known_lanes) at c.lacking-lane.ensures.clear) in
          let full = λ (all : (w.lane_count.result == z) ≡ true).
          marked_full (is_set c.lacking-lane.result) z (omega (arith, count, eqb-true w.lane_count.result z all)) in
          let joined = rw (inv.alike.known_lanes, was.known_lanes) at w.union_with.ensures.joined in
          let marked = column_marked z c.loop-j.j (w.lane_count.result == z) (λ p. is_set c.lacking-lane.result (p % z))
          c.loop-j.self.known.items w.union_with.new.self.items c.loop-j.self.seen w.mark_column.new.self joined
          w.mark_column.ensures (λ all p _. full all (p % z) (mod_below p z some)) in
          rw w.self-is (given_next _ _ some _ _ _ _ inv _ c.lacking-lane.result w.common-bits.result w.read_lane.result marks
          w.common-bits.ensures.bits w.read_lane.ensures.bits joined
          (rw (inv.alike.bits_lanes, was.bits_lanes) at w.union_with-then-not-is_blank.ensures.joined) w.mark_column.ensures.still
          marked (assumption))
      | else-not-is_blank w ↦
          rw w.self-is (given_skip _ _ some _ _ _ _ inv c.lacking-lane.result marks (c.is_blank.ensures.0 w.if-not-is_blank.false))
    ]

pub returns : goal.returns
returns g c =
    let l = c.args.lifted.now in
    let last : c.loop-j.j ≡ cols_of l.plan.graph = omega (arith, c.cols-j-end.ensures) in
    given_all (lifted_checks l) l.plan.z (cols_of l.plan.graph) _ _ _ _ l.plan.sound.size_some refl
    (rows_few l.plan.graph) refl c.requires.long c.requires.lanes (rw last at c.loop-j.invariant)

-- ---- what the calls require

-- a column is a block of the lists, which is not far in
here : (g : given.Over) (c : In-loop-j g)
    → (c.loop-j.j < 68) × (((c.loop-j.j + 1) * c.args.lifted.now.plan.z ≤ (lifted_checks c.args.lifted.now).size)
    × (c.loop-j.j * c.args.lifted.now.plan.z < 2 ^ 32))
here g c =
    let z = c.args.lifted.now.plan.z in
    let few : c.loop-j.j < 68 = grind (arith, c.cols-j-end.ensures) in
    let near : c.loop-j.j * z ≤ 68 * z = mul-le-mul_right z (omega (arith, few)) in
    (few, (mul-le-mul_right z (omega (arith, c.cols-j-end.ensures)), omega (arith, near)))

pub read_lane-given-requires : goal.read_lane-given-requires
read_lane-given-requires g c = grind (arith, here g c)

pub lacking-lane-requires : goal.lacking-lane-requires
lacking-lane-requires g c =
    grind (arith, here g (goal.at.lacking-lane-requires g c).In-loop-j)

pub read_lane-requires : goal.read_lane-requires
read_lane-requires g c = grind (arith, here g (goal.at.read_lane-requires g c).In-loop-j)

pub union_with-requires : goal.union_with-requires
union_with-requires g c =
    grind (arith, here g (goal.at.union_with-requires g c).In-loop-j)

pub mark_column-requires : goal.mark_column-requires
mark_column-requires g c = (omega arith, (here g (goal.at.mark_column-requires g c).In-loop-j).0)

pub union_with-requires-then-not-is_blank : goal.union_with-requires-then-not-is_blank
union_with-requires-then-not-is_blank g c =
    let was = c.requires.lanes in
    let is = c.loop-j.invariant.alike in
    let clear = c.common-bits.ensures.clear _ (rw (is.known_lanes, was.known_lanes) at c.lacking-lane.ensures.clear) in
    rw (is.bits_lanes, was.bits_lanes, is.bits_long, was.bits_long)
    (omega arith, (omega arith, ((here g (goal.at.union_with-requires-then-not-is_blank g c).In-loop-j).1.0, clear)))
