-- Cyclic redundancy checks (TS 38.212, 5.1). A polynomial with coefficients 0 and 1 is the number whose bit i is the
-- coefficient of D^i. So the sum of two polynomials is their `bit_xor`. A list of bits is the polynomial whose highest coefficient
-- is the first bit.
use Rattle.std.specs.Prelude.{◌≡◌, ℕ, ◌+◌, ◌*◌, ◌^◌, ◌<◌, ◌++◌, ◌==◌, zero, suc, Bool, List, []}
use Rattle.std.specs.Prelude.{◌∷◌, length, bit_xor, nat_lt, sum_by, if◌then◌else◌}
use Rattle.std.specs.Int.{bit_at}
use Rattle.nr_crcattach.specs.declared.{Poly.Poly, Poly.TheVariants.A24, Poly.TheVariants.B24, Poly.TheVariants.C16}

-- the polynomial that is the sum of these powers of D
abbrev pub sum_of_powers : List ℕ → ℕ
sum_of_powers powers = sum_by (λ i. 2 ^ i) powers

-- the number L of parity bits
abbrev pub degree : Poly → ℕ
degree A24 = 24
degree B24 = 24
degree C16 = 16

-- the generator polynomials gCRC24A, gCRC24B and gCRC16
abbrev pub generator : Poly → ℕ
generator A24 = sum_of_powers (24 ∷ 23 ∷ 18 ∷ 17 ∷ 14 ∷ 11 ∷ 10 ∷ 7 ∷ 6 ∷ 5 ∷ 4 ∷ 3 ∷ 1 ∷ 0 ∷ [])
generator B24 = sum_of_powers (24 ∷ 23 ∷ 6 ∷ 5 ∷ 1 ∷ 0 ∷ [])
generator C16 = sum_of_powers (16 ∷ 12 ∷ 5 ∷ 0 ∷ [])

-- a remainder times D: the generator is subtracted if the degree reaches L
unfoldable pub times_d : Poly → ℕ → ℕ
times_d p r = if nat_lt (2 * r) (2 ^ degree p) then 2 * r else bit_xor (2 * r) (generator p)

-- the remainder of D^n
unfoldable pub rho : Poly → ℕ → ℕ
rho p zero = 1
rho p (suc n) = times_d p (rho p n)

-- the remainder of the list's polynomial times D^s: the sum of the remainders of the powers at its ones
unfoldable pub residue : Poly → ℕ → List Bool → ℕ
residue p s [] = 0
residue p s (bit ∷ bits) = bit_xor (if bit then rho p (length bits + s) else 0) (residue p s bits)

-- the parity bits as one number: the remainder of the list's polynomial times D^L
abbrev pub crc_of : Poly → List Bool → ℕ
crc_of p bits = residue p (degree p) bits

-- the list's polynomial leaves remainder 0
abbrev pub IsDivided : Poly → List Bool → Type 0
IsDivided p bits = residue p 0 bits ≡ 0

-- the n lowest bits of a number, highest first
unfoldable pub high_first : ℕ → ℕ → List Bool
high_first zero v = []
high_first (suc n) v = (bit_at v n == 1) ∷ high_first n v

-- a sum times D is the sum of both times D
abbrev pub TimesDIsAdditive : Type 0
TimesDIsAdditive = (p : Poly) (a b : ℕ) → a < 2 ^ degree p → b < 2 ^ degree p
    → times_d p (bit_xor a b) ≡ bit_xor (times_d p a) (times_d p b)

-- one more power of D is the remainder times D
abbrev pub PowersMultiply : Type 0
PowersMultiply = (p : Poly) (s : ℕ) (bits : List Bool) → residue p (suc s) bits ≡ times_d p (residue p s bits)

-- the remainder of two lists joined is the sum of both, the first's raised by as many powers as the second has bits
abbrev pub JoinedListsAdd : Type 0
JoinedListsAdd = (p : Poly) (s : ℕ) (xs ys : List Bool)
    → residue p s (xs ++ ys) ≡ bit_xor (residue p (length ys + s) xs) (residue p s ys)
