-- The octets so far are written, and those after them are unchanged; the generator draws the rest.
use Rattle.nr_drawing.proofs.Common.{bit, get_or, length, marks_drawn, places_drawn, if◌then◌else◌, ℕ, ◌+◌, ◌-◌}
use Rattle.nr_drawing.proofs.Common.{◌<◌, ◌≡◌, ◌≤◌}
use Rattle.nr_drawing.proofs.overwrite.Given as goal

abbrev pub invariant-loop-i : goal.invariant-loop-i
invariant-loop-i l = record {
  long : length l.octets ≡ length l.fn.octets;
  before : (m : ℕ) → m < l.i
      → get_or l.octets m 0
      ≡ (if bit (places_drawn l.seed l.threshold (length l.fn.octets)) m then l.octet else get_or l.fn.octets m 0);
  behind : (m : ℕ) → l.i ≤ m → get_or l.octets m 0 ≡ get_or l.fn.octets m 0;
  told : (k : ℕ) → bit (places_drawn l.seed l.threshold (length l.fn.octets)) (l.i + k)
      ≡ bit (marks_drawn l.threshold (length l.fn.octets - l.i) l.generator) k;
}
