use Rattle.nr_peel.proofs.Common.{◌≡◌, ◌<◌, ℕ, take, bit, IsClear, is_set, parity, positions}
use Rattle.nr_peel.proofs.bit_parallel.lanes.row_sum.Given as goal

-- the entries so far are summed
abbrev pub invariant-loop-entry : goal.invariant-loop-entry
invariant-loop-entry g l = record {
  sums : (t : ℕ) → t < l.lifted.plan.z
      → is_set l.sum t ≡ parity (bit l.bits.items) (take l.entry-index (positions l.lifted.plan.set l.lifted.plan.z t l.row));
  clear : IsClear l.sum l.lifted.plan.z;
}
