-- Bits packed into words of 64 places, place 0 the lowest bit of the first word. TS 38.212 has no rule for this; it
-- is a choice of this crate.
use Rattle.std.specs.Prelude.{◌≡◌, ℕ, ◌-◌, ◌*◌, ◌/◌, ◌%◌, ◌^◌, ◌≤◌, ◌==◌, min, Bool, List}
use Rattle.std.specs.{Prelude.map, Prelude.slice_index_or, Int.bit_at, List.range_with_len}
use Rattle.nr_bitvec.specs.BitList.{BitList}

-- place t of packed words, 0 or 1, and 0 past the end
abbrev pub place : List ℕ → ℕ → ℕ
place ws t = bit_at (slice_index_or ws (t / 64) 0) (t % 64)

-- no place is set from place n on
abbrev pub IsClear : List ℕ → ℕ → Type 0
IsClear ws n = (t : ℕ) → n ≤ t → place ws t ≡ 0

-- the first n places, as truth values
abbrev pub bits_of_words : ℕ → List ℕ → List Bool
bits_of_words n ws = map (λ t. place ws t == 1) (range_with_len 0 n)

-- the list of n bits in words, which have memory for `capacity` of them
abbrev pub bit_list : ℕ → List ℕ → ℕ → BitList
bit_list n ws capacity = record { items = bits_of_words n ws; room = 64 * min capacity (2 ^ 18) - n }
