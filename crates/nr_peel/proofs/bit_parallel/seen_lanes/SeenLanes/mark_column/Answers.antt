use Rattle.nr_peel.proofs.Common.{arith, refl, slice_index}
use Rattle.nr_peel.proofs.SeenLaneFacts.{behind_marked, stale_marked, whole_marked}
use Rattle.nr_peel.proofs.bit_parallel.seen_lanes.SeenLanes.mark_column.Goals as goal

pub returns : goal.returns
returns g c =
    let s = c.args.self.now in
    let j = c.args.j in
    record {
      still = record { lanes = refl; starts = refl; holders = refl; all = refl };
      stale = λ i h below. stale_marked s.stale j i h (omega arith) below;
      whole = λ h. whole_marked s.whole j h c.args.whole (omega arith);
      behind = λ i _. behind_marked s.behind (slice_index s.holders j) i;
    }
