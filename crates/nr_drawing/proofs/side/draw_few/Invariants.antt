use Rattle.nr_drawing.proofs.Common.{bit_at, get_or, length, nat_lt, pcg32, seeded, slice_index, if◌then◌else◌, ℕ, ◌+◌}
use Rattle.nr_drawing.proofs.Common.{◌<◌, ◌==◌, ◌≡◌, ◌≤◌}
use Rattle.nr_drawing.proofs.side.draw_few.Given as goal

-- the generators that are listed so far have drawn
abbrev pub invariant-loop-i : goal.invariant-loop-i
invariant-loop-i l = record {
  drawn : (k : ℕ) → k < l.i → (bit_at l.word (slice_index l.listed k) == 1)
      ≡ nat_lt (pcg32 (get_or l.initial.generators (slice_index l.listed k) (seeded 0))).0 l.threshold;
  clear : (k : ℕ) → l.i ≤ k → k < length l.listed → bit_at l.word (slice_index l.listed k) ≡ 0;
  counted : (k : ℕ) → k < l.i → slice_index l.counts (slice_index l.listed k)
      ≡ slice_index l.initial.counts (slice_index l.listed k) + (if bit_at l.word (slice_index l.listed k) == 1 then 1 else 0);
  uncounted : (k : ℕ) → l.i ≤ k → k < length l.listed
      → slice_index l.counts (slice_index l.listed k) ≡ slice_index l.initial.counts (slice_index l.listed k);
  most : (j : ℕ) → slice_index l.counts j ≤ slice_index l.initial.counts j + 1;
  next : (k : ℕ) → k < l.i → get_or l.generators (slice_index l.listed k) (seeded 0)
      ≡ (pcg32 (get_or l.initial.generators (slice_index l.listed k) (seeded 0))).1;
  long : length l.generators ≡ length l.initial.generators;
  later : (k : ℕ) → l.i ≤ k → k < length l.listed → get_or l.generators (slice_index l.listed k) (seeded 0)
      ≡ get_or l.initial.generators (slice_index l.listed k) (seeded 0);
}
