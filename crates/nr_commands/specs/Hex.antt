-- Bits and octets in hexadecimal digits.
use Rattle.std.specs.{Prelude.ℕ, Prelude.Bool, Prelude.List, Prelude.[], Prelude.◌∷◌, Char.digit_char}
use Rattle.nr_bitvec.specs.BitList.{number_of}

-- bits in lower-case hexadecimal digits, the first bit most significant, the last digit filled with zero bits
unfoldable pub hex : List Bool → List ℕ
hex [] = []
hex (a ∷ b ∷ c ∷ d ∷ bits) = digit_char (number_of 4 (a ∷ b ∷ c ∷ d ∷ [])) ∷ hex bits
hex bits = digit_char (number_of 4 bits) ∷ []
