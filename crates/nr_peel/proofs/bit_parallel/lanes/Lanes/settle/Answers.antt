use Rattle.nr_peel.proofs.Common.{◌≡◌, ◌+◌, ◌*◌, ◌<◌, ◌≤◌, ◌==◌, ℕ, true, cond, arith, slice_index}
use Rattle.nr_peel.proofs.Common.{mul-le-mul_right, eqb-true, is_set, lifted_checks, cases_Bool}
use Rattle.nr_peel.proofs.{GivenLaneFacts.rows_few, MarkedFacts.marked_full, SettleFacts.settled}
use Rattle.nr_peel.proofs.bit_parallel.lanes.Lanes.settle.Goals as goal

-- a lane with as many marks as rows marks all of them
pub lower-requires : goal.lower-requires
lower-requires g c =
    let z = c.args.lifted.now.plan.z in
    let block : (c.args.i + 1) * z ≤ (lifted_checks c.args.lifted.now).rows * z =
    mul-le-mul_right z (omega (arith, c.requires.block)) in
    let whole = λ (full : (c.lane_count.result == z) ≡ true).
    marked_full (is_set c.args.ones.now) z
    (omega (arith, c.lane_count.ensures.marked z c.requires.clear, eqb-true c.lane_count.result z full)) in
    let enough : (t : ℕ) → t < z
    → cond (is_set c.args.ones.now t) 1 0 ≤ slice_index c.args.counts.now.items (c.args.i * z + t) =
    λ t below. grind (arith, cases_Bool (is_set c.args.ones.now t), c.requires.one t below) in
    grind (arith, block, whole, enough)

pub returns : goal.returns
returns g c =
    settled c.args.counts.now c.args.ones.now c.requires.block (rows_few c.args.lifted.now.plan.graph) c.requires.lanes
    c.requires.own c.requires.counted c.requires.one c.requires.whole c.mark_caught_up.new.self c.mark_caught_up.ensures.others
    c.mark_caught_up.ensures.behind c.lower.new.self
    (rw c.requires.same at c.lower.ensures.falls) c.lower.ensures.long c.lower.ensures.lanes
    (omega (arith, c.lower.ensures.operations, c.lower.ensures.due)) c.lower.ensures.operations
