use Rattle.nr_peel.proofs.Common.{◌≤◌, ◌+◌, ◌*◌, ap, ◌∙◌, arith, cols_of, mul-le-mul_right, range_with_len}
use Rattle.nr_peel.proofs.{Common.length-range_with_len, Common.count_by-le-length, StartFacts.size_most}
use Rattle.nr_peel.proofs.UnknownFacts.{gained_column, is_gained}
use Rattle.nr_peel.proofs.bit_parallel.lanes.Lanes.gained.Goals as goal

pub loop-j-preserved : goal.loop-j-preserved
loop-j-preserved g c =
    let known_lanes = c.requires.lanes.known_lanes in
    ap (λ m. m + c.lane_count-gained.result) c.loop-j.invariant
    ∙ gained_column _ _ _ _ _ _ _ _ (rw known_lanes at c.lane-known.ensures.bits) c.read_lane-lane.ensures.bits
    c.without.ensures.bits (c.lane_count-gained.ensures.marked _
    (c.without.ensures.clear _ (rw known_lanes at c.lane-known.ensures.clear)))

-- at most the positions of the columns before, and a lane's
pub overflow_add-gained : goal.overflow_add-gained
overflow_add-gained g c =
    let z = c.args.lifted.now.plan.z in
    let before : c.loop-j.j ≤ cols_of c.args.lifted.now.plan.graph = omega (arith, c.cols-j-end.ensures) in
    let most =
    count_by-le-length (is_gained c.args.self.now.known.items c.args.given.now.items) (range_with_len 0 (c.loop-j.j * z)) in
    omega (arith, length-range_with_len 0 (c.loop-j.j * z), mul-le-mul_right z before, size_most c.args.lifted.now)

pub read_lane-lane-requires : goal.read_lane-lane-requires
read_lane-lane-requires g c =
    let l = c.args.lifted.now in
    let near : c.loop-j.j * l.plan.z ≤ 68 * l.plan.z = mul-le-mul_right l.plan.z (grind (arith, c.cols-j-end.ensures)) in
    (omega arith, (l.plan.sound.size_most, (c.requires.lanes.short, omega (arith, near, l.plan.sound.size_most))))
