-- The places of the words so far are marked.
use Rattle.nr_files.proofs.Common.{◌≡◌, ℕ, ◌+◌, ◌*◌, ◌||◌, length, min, bit}
use Rattle.nr_files.proofs.MarkRangeFacts.{between}
use Rattle.nr_files.proofs.marks.mark.Given as goal

abbrev pub invariant-loop-i : goal.invariant-loop-i
invariant-loop-i l = record {
  long : length l.marks.items ≡ length l.fn.marks.items;
  marked : (m : ℕ) → bit l.marks.items m ≡ (bit l.fn.marks.items m || between l.from (l.from + min (64 * l.i) l.count) m);
}
