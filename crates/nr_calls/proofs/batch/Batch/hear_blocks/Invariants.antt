use Rattle.std.proofs.Common.{◌≡◌, ◌<◌, ◌≤◌, ◌==◌, not, false, ℕ, [], List, length, map, slice_index, take}
use Rattle.std.specs.List.{sum}
use Rattle.std.specs.Prelude.{slice_index_or}
use Rattle.nr_bitvec.specs.Bit.{bit}
use Rattle.nr_drawing.specs.Drawing.{IsAmong, places_drawn, seeded}
use Rattle.nr_blockdesk.specs.Explains.{Reception}
use Rattle.nr_calls.specs.inside.Batches.{AreBetween, AreWhole, HearsBelow, PassesBy, words_in}
use Rattle.nr_calls.proofs.DrawnPartFacts.{GoesOn}
use Rattle.nr_calls.proofs.batch.Batch.hear_blocks.Given as goal

-- the code blocks below r have heard their parts, and the generators go on after these
abbrev pub invariant-loop-r : goal.invariant-loop-r
invariant-loop-r l = record {
  whole : AreWhole l.link (words_in l.self);
  still : l.self.delivered ≡ l.fn.self.delivered;
  all : length l.generators.items ≡ 64;
  next : (seeds : List ℕ) → l.fn.generators.items ≡ map seeded seeds → (j : ℕ) → IsAmong l.listed j
      → GoesOn (slice_index seeds j) l.threshold (sum (take l.r l.shares.items)) l.generators.items j;
  later : (s : ℕ) → l.r ≤ s → slice_index_or (words_in l.self) s [] ≡ slice_index_or (words_in l.fn.self) s [];
  hears : (seeds : List ℕ) → l.fn.generators.items ≡ map seeded seeds
      → (j : ℕ) (list : List Reception) → IsAmong l.listed j → slice_index l.fn.self.delivered j ≡ 0
      → AreBetween l.link list j (words_in l.fn.self)
      → HearsBelow l.link list (l.tx, places_drawn (slice_index seeds j) l.threshold l.tx.g) j l.r (not (bit l.going j))
      l.fn.self l.self;
  passes : (j : ℕ) → j < 64 → (slice_index l.fn.self.delivered j == 0) ≡ false → PassesBy l.r j l.fn.self l.self;
}
