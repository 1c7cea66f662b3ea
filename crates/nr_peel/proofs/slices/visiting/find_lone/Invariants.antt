use Rattle.nr_peel.proofs.Common.{◌≡◌, ◌<◌, ℕ, not, nat_lt, length, take, count_by, row_in, slice}
use Rattle.nr_peel.proofs.slices.visiting.find_lone.Given as goal

-- outside which sets each row's positions so far have one, and several
abbrev pub invariant-loop-n : goal.invariant-loop-n
invariant-loop-n l = record {
  some : (j t : ℕ) → j < 64 → t < l.lifted.plan.z → slice l.some j t
      ≡ nat_lt 0 (count_by (λ p. not (slice l.known j p)) (take l.n (row_in l.lifted l.row t)));
  more : (j t : ℕ) → j < 64 → t < l.lifted.plan.z → slice l.more j t
      ≡ nat_lt 1 (count_by (λ p. not (slice l.known j p)) (take l.n (row_in l.lifted l.row t)));
  some_long : length l.some ≡ length l.initial.some;
  more_long : length l.more ≡ length l.initial.more;
}
