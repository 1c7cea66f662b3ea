use Rattle.std.proofs.Common.{◌≡◌, ◌<◌, ◌≤◌, ℕ, length, slice_index}
use Rattle.nr_drawing.specs.Drawing.{AreRounds, IsAmong}
use Rattle.nr_calls.proofs.batch.open_rounds.Given as goal

-- the open rounds so far
abbrev pub invariant-loop-j : goal.invariant-loop-j
invariant-loop-j l = record {
  rounds : AreRounds l.listed.items;
  below : (i : ℕ) → i < length l.listed.items → slice_index l.listed.items i < l.j;
  among : (k : ℕ) → k < l.j → slice_index l.delivered k ≡ 0 → IsAmong l.listed.items k;
  few : length l.listed.items ≤ l.j;
}
