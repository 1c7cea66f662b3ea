-- A range of a list, put after another list word by word.
use Rattle.nr_bitvec.proofs.Common.{rules, ◌≡◌, ℕ, ◌+◌, ◌<◌, ◌≤◌, ◌==◌, Bool, List, ◌++◌, length}
use Rattle.nr_bitvec.proofs.Common.{take, drop, arith, length-take, length-drop, get_or-take, get_or-drop, drop-drop, bit_at, bit}
use Rattle.nr_bitvec.proofs.{Common.low_first, PlaceFacts.same_from_bits}
use Rattle.nr_bitvec.proofs.PackedListFacts.{length-low_first, bit-low_first}
use Rattle.std.proofs.Common.{append_assoc, take-add}

-- the first bits of the window at a place
pub range-word : (xs : List Bool) (at n word : ℕ) → n ≤ 64 → at + n ≤ length xs
    → ((j : ℕ) → j < 64 → (bit_at word j == 1) ≡ bit xs (at + j)) → low_first n word ≡ take n (drop at xs)
range-word xs at n word few inside reads =
    grind (arith, same_from_bits, length-low_first, length-take, length-drop, bit-low_first, get_or-take, get_or-drop)

-- one more part of a list
pub taken-more : (old items new ys part : List Bool) (m n : ℕ) → items ≡ old ++ take m ys → new ≡ items ++ part
    → part ≡ take n (drop m ys) → new ≡ old ++ take (m + n) ys
taken-more old items new ys part m n taken pushed here = grind (arith, append_assoc, take-add)

-- one more word
pub range-more : (old items new xs : List Bool) (at m n word : ℕ) → n ≤ 64 → at + m + n ≤ length xs
    → ((j : ℕ) → j < 64 → (bit_at word j == 1) ≡ bit xs (at + m + j))
    → items ≡ old ++ take m (drop at xs) → new ≡ items ++ low_first n word → new ≡ old ++ take (m + n) (drop at xs)
range-more old items new xs at m n word few inside reads taken pushed = search (rules, taken-more, range-word, drop-drop)
