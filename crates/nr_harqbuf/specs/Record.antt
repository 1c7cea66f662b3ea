-- What was heard of a code block: the first bit heard at each position, and whether some position was heard with both bits.
use Rattle.std.specs.Prelude.{◌≡◌, ℕ, ◌<◌, ◌==◌, ◌&&◌, ◌||◌, ◌↔◌, Bool, true, false, not}
use Rattle.std.specs.Prelude.{if◌then◌else◌, List, [], ◌∷◌, ◌++◌, map, find, All, slice_index_or, slice_set, Option}
use Rattle.std.specs.{Prelude.Some, Prelude.None, Prelude.option_map, Bool.beq, List.list_all, List.list_any, List.range_with_len}

-- a position, and the bit heard there
abbrev pub Hearing : Type 0
Hearing = ℕ × Bool

-- the bit that a position was heard with first
unfoldable pub first_heard : List Hearing → ℕ → Option Bool
first_heard hs p = option_map (λ h. h.1) (find (λ h. h.0 == p) hs)

-- a position was heard with this bit
unfoldable pub heard_as : List Hearing → ℕ → Bool → Bool
heard_as hs p b = list_any (λ h. (h.0 == p) && beq h.1 b) hs

-- some position was heard with both bits
unfoldable pub clashes : List Hearing → Bool
clashes hs = list_any (λ h. heard_as hs h.0 (not h.1)) hs

-- what contracts see of a `Store`: for each position its first bit, and whether some position had both
pub record HeardBits : Type 0 where
  pub first : List (Option Bool)
  pub clash : Bool

-- the record of what was heard, at n positions
abbrev pub record_of : ℕ → List Hearing → HeardBits
record_of n hs = record { first = map (first_heard hs) (range_with_len 0 n); clash = clashes hs }

-- the first bit at a position, if one was heard
abbrev pub first_at : HeardBits → ℕ → Option Bool
first_at s p = slice_index_or s.first p None

-- a bit was heard, and it is the other one
abbrev pub differs : Option Bool → Bool → Bool
differs None b = false
differs (Some a) b = not (beq a b)

-- a bit was heard
abbrev pub is_heard : Option Bool → Bool
is_heard None = false
is_heard (Some a) = true

-- the record after one more hearing: the first bit of a position stays
unfoldable pub with_hearing : HeardBits → Hearing → HeardBits
with_hearing s h = record {
  first = (if is_heard (first_at s h.0) then s.first else slice_set s.first h.0 (Some h.1));
  clash = s.clash || differs (first_at s h.0) h.1;
}

-- a word has every first bit
abbrev pub HasFirsts : HeardBits → (ℕ → Bool) → Type 0
HasFirsts s w = (p : ℕ) (b : Bool) → first_at s p ≡ Some b → w p ≡ b

-- a record with one more hearing is the record of the longer list
abbrev pub RecordContinues : Type 0
RecordContinues = (n : ℕ) (hs : List Hearing) (h : Hearing) → h.0 < n
    → with_hearing (record_of n hs) h ≡ record_of n (hs ++ h ∷ [])

-- A word agrees with all that was heard exactly if no position was heard with both bits and the word has every first bit. So the
-- record says which words agree.
abbrev pub FitsByRecord : Type 0
FitsByRecord = (w : ℕ → Bool) (n : ℕ) (hs : List Hearing) → All (λ h. h.0 < n) hs
    → (list_all (λ h. beq (w h.0) h.1) hs ≡ true) ↔ ((clashes hs ≡ false) × HasFirsts (record_of n hs) w)
