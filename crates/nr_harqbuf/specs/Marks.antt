-- What is heard of a code block, as marks: at which positions of its codeword something is heard, and the bits there.
use Rattle.std.specs.Prelude.{◌≡◌, ℕ, ◌+◌, ◌-◌, ◌<◌, ◌==◌, ◌&&◌, ◌||◌, Bool, nat_le, nat_lt}
use Rattle.std.specs.Prelude.{if◌then◌else◌, List, ◌++◌, length, map, Option, Some, None, All}
use Rattle.std.specs.{Bool.beq, Int.bit_at, List.list_any, List.range_with_len}
use Rattle.nr_bitvec.specs.{Bit.bit, Marks.Marks, Marks.marked_bit}
use Rattle.nr_harqbuf.specs.Record.{HeardBits, Hearing, heard_as, first_at, is_heard, differs, record_of}

-- the marks say that a position was heard with this bit
abbrev pub says : Marks → ℕ → Bool → Bool
says m p b = bit m.at p && beq (bit m.bits p) b

-- two words, marks and bits, say so about the `count` positions from position `at` on
abbrev pub word_says : ℕ → ℕ → ℕ → ℕ → ℕ → Bool → Bool
word_says at count now bits p b =
    nat_le at p && nat_lt p (at + count) && (bit_at now (p - at) == 1) && beq (bit_at bits (p - at) == 1) b

-- the bit that two such words have for a position, if they mark it
abbrev pub word_bit : ℕ → ℕ → ℕ → ℕ → ℕ → Option Bool
word_bit at count now bits p =
    if nat_le at p && nat_lt p (at + count) && (bit_at now (p - at) == 1) then Some (bit_at bits (p - at) == 1) else None

-- the marks say what was heard, so no position was heard with both bits
abbrev pub AreMarks : List Hearing → Marks → Type 0
AreMarks hs m = (p : ℕ) (b : Bool) → heard_as hs p b ≡ says m p b

-- the first bit at a position: that of the record, or else that of the marks
abbrev pub first_merged : HeardBits → Marks → ℕ → Option Bool
first_merged s m p = if is_heard (first_at s p) then first_at s p else marked_bit m p

-- a position of the record is marked with the other bit
abbrev pub differs_at : HeardBits → Marks → ℕ → Bool
differs_at s m p = bit m.at p && differs (first_at s p) (bit m.bits p)

-- the record after all that the marks say
unfoldable pub merge_of : HeardBits → Marks → HeardBits
merge_of s m = record {
  first = map (first_merged s m) (range_with_len 0 (length s.first));
  clash = s.clash || list_any (differs_at s m) (range_with_len 0 (length s.first));
}

-- a record with all that the marks of further hearings say is the record of the longer list
abbrev pub RecordMerges : Type 0
RecordMerges = (n : ℕ) (hs more : List Hearing) (m : Marks) → All (λ h. h.0 < n) more → AreMarks more m
    → merge_of (record_of n hs) m ≡ record_of n (hs ++ more)

-- the bit of each marked position, position by position
abbrev pub marked_bits : Marks → List (Option Bool)
marked_bits m = map (marked_bit m) (range_with_len 0 (length m.at))

-- the record whose first bits are the marked ones
abbrev pub record_by : Marks → Bool → HeardBits
record_by m clash = record { first = marked_bits m; clash = clash }

-- marks keep a record: one mark at each position that was heard, with its first bit
pub record IsKeptBy (s : HeardBits) (m : Marks) : Type 0 where
  pub long : length m.at ≡ length s.first
  pub marks : (p : ℕ) → bit m.at p ≡ is_heard (first_at s p)
  pub bits : (p : ℕ) (b : Bool) → first_at s p ≡ Some b → bit m.bits p ≡ b

-- such marks make the record again
abbrev pub KeptAgain : Type 0
KeptAgain = (s : HeardBits) (m : Marks) → IsKeptBy s m → record_by m s.clash ≡ s
