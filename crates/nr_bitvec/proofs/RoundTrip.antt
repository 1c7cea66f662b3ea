-- Octets, written as bits and read again.
use Rattle.nr_bitvec.proofs.Common.{◌≡◌, ℕ, ◌+◌, ◌*◌, ◌%◌, ◌^◌, ◌<◌, ◌==◌, suc, zero}
use Rattle.nr_bitvec.proofs.Common.{if◌then◌else◌, [], ◌∷◌, refl, ap, sym, ◌∙◌, arith, mod-eq_of_lt, bit_at-lt}
use Rattle.nr_bitvec.proofs.Common.{bit_at, octet_bits, bits_of, number_of, octets_of}
use Rattle.nr_bitvec.specs.BitList.{OctetsRoundTrip}
use Rattle.std.proofs.lemmas.Nat.{mod-pow-add}

-- a binary digit's weight
digit : (d w : ℕ) → d < 2 → (if d == 1 then w else 0) ≡ d * w
digit zero w h = omega arith
digit (suc zero) w h = omega arith
digit (suc (suc d)) w h = absurd (omega (arith, h))

-- the weight of bit k of a number, and the bits below it
weight : (o k : ℕ) → o % 2 ^ (1 + k) ≡ (if bit_at o k == 1 then 2 ^ k else 0) + o % 2 ^ k
weight o k = mod-pow-add o 1 k ∙ ap (λ n. n + o % 2 ^ k) (sym (digit (bit_at o k) (2 ^ k) (bit_at-lt o k)))

-- the bits of an octet write it
pub number_of-octet_bits : (o : ℕ) → o < 2 ^ 8 → number_of 8 (octet_bits o) ≡ o
unfolding octet_bits
number_of-octet_bits o h =
    let whole : o % 2 ^ 8 ≡ o = mod-eq_of_lt h in
    omega (arith, whole, weight o 7, weight o 6, weight o 5, weight o 4, weight o 3, weight o 2, weight o 1, weight o 0)

-- the law, octet by octet
pub octets-round_trip : OctetsRoundTrip
unfolding octet_bits octets_of
octets-round_trip [] all = refl
octets-round_trip (o ∷ octets) all =
    let first : number_of 8 (octet_bits o) ≡ o = number_of-octet_bits o (all 0 0 (omega arith)) in
    let rest : octets_of (bits_of octets) ≡ octets = octets-round_trip octets (λ k d h. all (suc k) d (omega (arith, h))) in
    ap (λ n. n ∷ octets_of (bits_of octets)) first ∙ ap (λ ns. o ∷ ns) rest
