-- A list of bits, and the octets that hold one. The first bit is the most significant (TS 38.212, 6.2.1 and 7.2.1:
-- a_0).
use Rattle.std.specs.Prelude.{◌≡◌, ℕ, ◌+◌, ◌^◌, ◌<◌, suc, zero, ◌==◌, Bool, true, false, List, []}
use Rattle.std.specs.Prelude.{◌∷◌, ◌++◌, if◌then◌else◌, map, flat_map, All}
use Rattle.std.specs.{Bool.beq, Cmp.Lexicographic.pointwise, Int.bit_at, List.range_with_len, Ordering.on}

-- what contracts see of a `Bits`: its bits, and how many more it has memory for, up to 2 ^ 24 bits in all
pub record BitList : Type 0 where
  pub items : List Bool
  pub room : ℕ

-- whether two lists have the same bits
abbrev pub same_bits : BitList → BitList → Bool
same_bits = on (λ b. b.items) (pointwise beq)

-- every list of n bits
unfoldable pub bit_lists : ℕ → List (List Bool)
bit_lists zero = [] ∷ []
bit_lists (suc n) = map (λ bits. false ∷ bits) (bit_lists n) ++ map (λ bits. true ∷ bits) (bit_lists n)

-- the first n bits of a word, the lowest first
unfoldable pub low_first : ℕ → ℕ → List Bool
low_first n word = map (λ j. bit_at word j == 1) (range_with_len 0 n)

-- the eight bits of an octet, the most significant first
unfoldable pub octet_bits : ℕ → List Bool
octet_bits o = (bit_at o 7 == 1) ∷ (bit_at o 6 == 1) ∷ (bit_at o 5 == 1) ∷ (bit_at o 4 == 1) ∷ (bit_at o 3 == 1)
    ∷ (bit_at o 2 == 1) ∷ (bit_at o 1 == 1) ∷ (bit_at o 0 == 1) ∷ []

-- the bits of octets, in order
abbrev pub bits_of : List ℕ → List Bool
bits_of octets = flat_map octet_bits octets

-- the number that n bits write, the first one most significant; bits that are missing are zero
abbrev pub number_of : ℕ → List Bool → ℕ
number_of zero bits = 0
number_of (suc n) [] = 0
number_of (suc n) (b ∷ bits) = (if b then 2 ^ n else 0) + number_of n bits

-- the octets of a list of bits, eight bits an octet, the last octet filled with zero bits
unfoldable pub octets_of : List Bool → List ℕ
octets_of [] = []
octets_of (a ∷ b ∷ c ∷ d ∷ e ∷ f ∷ g ∷ h ∷ bits) =
    number_of 8 (a ∷ b ∷ c ∷ d ∷ e ∷ f ∷ g ∷ h ∷ []) ∷ octets_of bits
octets_of bits = number_of 8 bits ∷ []

-- octets, written as bits and read again, are the same octets
abbrev pub OctetsRoundTrip : Type 0
OctetsRoundTrip = (octets : List ℕ) → All (λ o. o < 2 ^ 8) octets → octets_of (bits_of octets) ≡ octets
