use Rattle.nr_blockdesk.proofs.Common.{◌≡◌, ◌<◌, ◌||◌, ℕ, length, slice, is_brought, AreCursors, given_count}
use Rattle.nr_blockdesk.proofs.Common.{place_count}
use Rattle.nr_blockdesk.proofs.slices.hear_slices.Given as goal

-- the places so far are told; the cursors have given their positions
abbrev pub invariant-loop-m : goal.invariant-loop-m
invariant-loop-m l = record {
  told : (j p : ℕ) → j < 64 → slice l.known j p
      ≡ (slice l.initial.known j p || is_brought l.buffer l.rv l.qm (length l.arrived) (slice l.arrived j) l.m p);
  long : length l.known ≡ length l.initial.known;
  cursors : AreCursors l.buffer l.rv l.qm l.cursors;
  places : place_count l.qm l.cursors ≡ length l.arrived;
  given : given_count l.qm l.cursors ≡ l.m;
}
