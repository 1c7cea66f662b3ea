use Rattle.nr_peel.proofs.Common.{◌≡◌, ◌+◌, ◌-◌, ◌*◌, ◌≤◌, length, sym, ap, ◌∙◌, arith}
use Rattle.nr_peel.proofs.Common.{mul-le-mul_right, info_cols_of, is_set, marked-le, left_of}
use Rattle.nr_peel.proofs.{FillerFacts.fillers_fit, StartFacts.size_most}
use Rattle.nr_peel.proofs.LeftPositionFacts.{info_rotations, left_and_known, left_column, left_end}
use Rattle.nr_peel.proofs.bit_parallel.lanes.Lanes.left.Goals.{After-lane_count, In-loop-j}
use Rattle.nr_peel.proofs.bit_parallel.lanes.Lanes.left.Given as given
use Rattle.nr_peel.proofs.bit_parallel.lanes.Lanes.left.Goals as goal

-- column j is within what is known
fits : (g : given.Over) (c : In-loop-j g) → (c.loop-j.j + 1) * c.args.lifted.now.plan.z ≤ length c.args.self.now.known.items
fits g c = grind (arith, mul-le-mul_right, info_rotations, fillers_fit)

-- what is left of it is counted
more : (g : given.Over) (c : After-lane_count g)
    → (c.loop-j.j + 1) * c.args.lifted.now.plan.z ≤ length c.args.self.now.known.items
    → c.loop-j.left + (c.args.lifted.now.plan.z - c.lane_count.result)
    ≡ left_of ((c.loop-j.j + 1) * c.args.lifted.now.plan.z) c.args.self.now.known.items
more g c within =
    let z = c.args.lifted.now.plan.z in
    let read = rw c.requires.lanes.known_lanes at c.lane.ensures.bits in
    let clear = rw c.requires.lanes.known_lanes at c.lane.ensures.clear in
    ap (λ m. m + (z - c.lane_count.result)) c.loop-j.invariant
    ∙ left_column c.args.self.now.known.items z c.loop-j.j c.lane_count.result c.lane.result within read
    (c.lane_count.ensures.marked z clear)

pub lane-requires : goal.lane-requires
lane-requires g c =
    let within = fits g (goal.at.lane-requires g c).In-loop-j in
    rw c.requires.lanes.known_lanes (omega arith, (omega arith, (within, c.args.lifted.now.plan.sound.size_some)))

pub loop-j-preserved : goal.loop-j-preserved
loop-j-preserved g c =
    let at = goal.at.loop-j-preserved g c in
    more g at.After-lane_count (fits g at.In-loop-j)

pub overflow_add-left : goal.overflow_add-left
overflow_add-left g c =
    let at = goal.at.overflow_add-left g c in
    let within = fits g at.In-loop-j in
    omega (arith, more g at.After-lane_count within, left_and_known _ _ within, size_most c.args.lifted.now)

pub overflow_sub-left : goal.overflow_sub-left
overflow_sub-left g c =
    let z = c.args.lifted.now.plan.z in
    omega (
      arith,
      c.lane_count.ensures.marked z (rw c.requires.lanes.known_lanes at c.lane.ensures.clear),
      marked-le (is_set c.lane.result) z,
    )

pub returns : goal.returns
returns g c =
    let p = c.args.lifted.now.plan in
    let last : c.loop-j.j ≡ info_cols_of p.graph = omega (arith, info_rotations _ _ _ p.sound.size_some p.sound.columns) in
    let fits : p.k ≤ length c.args.self.now.known.items =
    omega (arith, c.requires.lanes.known_long, fillers_fit c.args.lifted.now) in
    c.loop-j.invariant ∙ ap (λ m. left_of m c.args.self.now.known.items) (ap (λ m. m * p.z) last ∙ sym p.sound.columns)
    ∙ left_end _ p.kdash p.k p.sound.held fits c.requires.fillers
