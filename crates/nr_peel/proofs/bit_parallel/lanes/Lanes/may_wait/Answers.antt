use Rattle.nr_peel.proofs.Common.{◌+◌, ◌*◌, ◌≤◌, arith, cols_of, columns-are, mul-le-mul_right}
use Rattle.nr_peel.proofs.WaitingFacts.{waits_from}
use Rattle.nr_peel.proofs.bit_parallel.lanes.Lanes.may_wait.Goals as goal

-- the base graph has the column
pub lane-requires : goal.lane-requires
lane-requires g c =
    let p = c.args.lifted.now.plan in
    let lanes = c.requires.lanes in
    let column : c.info_cols.result + c.args.i + 1 ≤ cols_of p.graph =
    omega (arith, c.info_cols.ensures, columns-are p.graph, c.requires.block) in
    let inside : (c.info_cols.result + c.args.i + 1) * p.z ≤ cols_of p.graph * p.z = mul-le-mul_right p.z column in (
      omega (arith, lanes.words),
      (
        omega (arith, lanes.words),
        (
          rw lanes.known_lanes (omega (arith, inside, lanes.known_long)),
          rw lanes.known_lanes p.sound.size_some,
        ),
      ),
    )

pub returns-then-not-has_begun : goal.returns-then-not-has_begun
returns-then-not-has_begun g c = λ blank.
    waits_from c.args.lifted.now c.args.self.now.known.items c.args.i c.lane.result (omega (arith, c.if-i-lt4.false))
    (rw (c.requires.lanes.known_lanes, c.info_cols.ensures) at c.lane.ensures.bits) (c.is_blank.ensures.0 blank)
