use Rattle.nr_peel.proofs.Common.{◌≡◌, ◌-◌, ◌≤◌, not, filter, range_with_len, bit, any_known}
use Rattle.nr_peel.proofs.any_sweep.AnySweep.unknown.Given as goal

abbrev pub decreases-loop-at : goal.decreases-loop-at
decreases-loop-at l = l.size - l.at

-- the positions so far that aren't known
abbrev pub invariant-loop-at : goal.invariant-loop-at
invariant-loop-at l = record {
  below : l.at ≤ l.size;
  listed : l.unknown.items ≡ filter (λ p. not (bit (any_known l.self) p)) (range_with_len 0 l.at);
}
