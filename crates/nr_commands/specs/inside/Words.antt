-- Definitions that only the proofs need.
use Rattle.std.specs.Prelude.{ℕ, ◌/◌, ◌%◌, zero, suc, Bool, List, [], ◌∷◌, drop}
use Rattle.std.specs.Char.{digit_char}
use Rattle.nr_bitvec.specs.BitList.{low_first, number_of}

-- the first n digits of bits; bits that are missing are zero
unfoldable pub first_digits : ℕ → List Bool → List ℕ
first_digits zero bits = []
first_digits (suc n) bits = digit_char (number_of 4 bits) ∷ first_digits n (drop 4 bits)

-- the character of the digit whose bits are the lowest four of a number, the lowest first
unfoldable pub turned_char : ℕ → ℕ
turned_char value = digit_char (number_of 4 (low_first 4 value))

-- the two digits whose bits are those of an octet, the lowest first
abbrev pub turned_digits : ℕ → List ℕ
turned_digits octet = turned_char (octet % 16) ∷ turned_char (octet / 16) ∷ []
