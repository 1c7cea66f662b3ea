-- The code blocks that a transmission schedules, as marks, one for each code block (TS 38.212, 5.4.2.1).
use Rattle.std.specs.Prelude.{ℕ, ◌+◌, ◌*◌, Bool, List, [], ◌∷◌, drop, map, take}
use Rattle.std.specs.{Int.from_bool, List.range_with_len}

-- the number that bits write, the first of them lowest
unfoldable pub mask_word_of : List Bool → ℕ
mask_word_of [] = 0
mask_word_of (b ∷ bits) = from_bool b + 2 * mask_word_of bits

-- the words of 384 marks: mark r is bit r mod 64 of word r div 64
abbrev pub mask_words : List Bool → List ℕ
mask_words marks = map (λ w. mask_word_of (take 64 (drop (64 * w) marks))) (range_with_len 0 6)
