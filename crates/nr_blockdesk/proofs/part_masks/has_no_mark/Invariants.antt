-- No mark so far is set.
use Rattle.nr_blockdesk.proofs.Common.{◌≡◌, ℕ, ◌*◌, ◌<◌, false, bit}
use Rattle.nr_blockdesk.proofs.part_masks.has_no_mark.Given as goal

abbrev pub invariant-loop-i : goal.invariant-loop-i
invariant-loop-i l = (p : ℕ) → p < 64 * l.i → bit l.marks.heard.items p ≡ false
