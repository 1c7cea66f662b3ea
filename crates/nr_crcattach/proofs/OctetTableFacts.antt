-- The tables of the code.
use Rattle.nr_crcattach.proofs.Common.{◌≡◌, ℕ, ◌+◌, ◌-◌, ◌*◌, ◌^◌, ◌<◌, zero, suc, inl, inr, List, []}
use Rattle.nr_crcattach.proofs.Common.{◌∷◌, ◌++◌, length, get_or, bit_xor, refl, sym, ◌∙◌, ap, arith, length-append}
use Rattle.nr_crcattach.proofs.Common.{cases_lt, xor_self, low_first, Poly, A24, B24, C16, degree, times_d, rho, residue}
use Rattle.nr_crcattach.proofs.Common.{high_first, flip, octet_residues, octet_tables}
use Rattle.nr_crcattach.specs.declared.tables.{a24.TheConstants.A24_RESIDUES, b24.TheConstants.B24_RESIDUES}
use Rattle.nr_crcattach.{specs.declared.tables.c16.TheConstants.C16_RESIDUES, proofs.OctetStepFacts.residue-xor}
use Rattle.nr_crcattach.proofs.FlipFacts.{flip-xor, high_first-flip}
use Rattle.std.{proofs.Common.map, specs.List.range_with_len, proofs.lemmas.List.FromFn.fill_by_all}
use Rattle.std.proofs.lemmas.List.{get_or_append_left, get_or-append_right, get_or-map, length-map}
use lib.Bits.{xor_shifted}

-- ---- a table by doubling

-- these values, followed by the same values with the term added
with_top : ℕ → List ℕ → List ℕ
with_top power values = values ++ map (bit_xor power) values

-- a function's values at the numbers of n bits, by those at the powers of two
doubled : (ℕ → ℕ) → ℕ → List ℕ
doubled f zero = 0 ∷ []
doubled f (suc n) = with_top (f (2 ^ n)) (doubled f n)

-- A function whose value at a sum is the sum of both values.
module _ (f : ℕ → ℕ) (sums : (a b : ℕ) → f (bit_xor a b) ≡ bit_xor (f a) (f b)) where
  length-doubled : (n : ℕ) → length (doubled f n) ≡ 2 ^ n
  unfolding doubled with_top
  length-doubled zero = refl
  length-doubled (suc n) = grind (arith, length-append, length-map, length-doubled n)

  get_or-doubled : (n k : ℕ) → k < 2 ^ n → get_or (doubled f n) k 0 ≡ f k
  unfolding doubled with_top
  get_or-doubled zero zero within = sym (sums 0 0 ∙ xor_self (f 0))
  get_or-doubled zero (suc k) within = absurd (omega arith)
  get_or-doubled (suc n) k within =
      let lower : List ℕ = doubled f n in
      let upper : List ℕ = map (bit_xor (f (2 ^ n))) lower in
      let long : length lower ≡ 2 ^ n = length-doubled n in
      elim (cases_lt k (2 ^ n)) [
        | inl below ↦ get_or_append_left lower upper 0 k (omega (arith, long)) ∙ get_or-doubled n k below
        | inr up ↦
            let small : k - 2 ^ n < 2 ^ n = omega arith in
            let one : 2 ^ n ≡ 1 * 2 ^ n = omega arith in
            let whole : bit_xor (2 ^ n) (k - 2 ^ n) ≡ k = ap (λ (high : ℕ). bit_xor high (k - 2 ^ n)) one
            ∙ xor_shifted 1 n (k - 2 ^ n) small ∙ omega arith in
            get_or-append_right lower upper (2 ^ n) k 0 long up
            ∙ get_or-map (bit_xor (f (2 ^ n))) lower (k - 2 ^ n) 0 0 (omega (arith, long))
            ∙ ap (bit_xor (f (2 ^ n))) (get_or-doubled n (k - 2 ^ n) small) ∙ sym (sums (2 ^ n) (k - 2 ^ n)) ∙ ap f whole
      ]

-- an octet's remainder in the other order
entry : Poly → ℕ → ℕ → ℕ
entry p s octet = flip (degree p) (residue p (s + degree p) (low_first 8 octet))

entry-xor : (p : Poly) (s a b : ℕ) → entry p s (bit_xor a b) ≡ bit_xor (entry p s a) (entry p s b)
unfolding entry
entry-xor p s a b =
    let bits : (v : ℕ) → residue p (s + degree p) (low_first 8 v) ≡ residue p (s + degree p) (high_first 8 (flip 8 v)) =
    λ v. ap (residue p (s + degree p)) (sym (high_first-flip 8 v)) in
    ap (flip (degree p)) (bits (bit_xor a b) ∙ ap (λ v. residue p (s + degree p) (high_first 8 v)) (flip-xor 8 a b)
    ∙ residue-xor p (s + degree p) 8 (flip 8 a) (flip 8 b))
    ∙ flip-xor (degree p) (residue p (s + degree p) (high_first 8 (flip 8 a)))
    (residue p (s + degree p) (high_first 8 (flip 8 b)))
    ∙ sym (cc (bits a, bits b))

-- they are a table
doubled-residues : (p : Poly) (s : ℕ) → doubled (entry p s) 8 ≡ octet_residues p s
unfolding octet_residues entry
doubled-residues p s =
    fill_by_all (entry p s) (doubled (entry p s) 8) 256 0 (length-doubled (entry p s) (entry-xor p s) 8)
    (get_or-doubled (entry p s) (entry-xor p s) 8)

-- two functions that agree give one list
map-same : {f g : ℕ → List ℕ} → ((k : ℕ) → f k ≡ g k) → (ks : List ℕ) → map f ks ≡ map g ks
map-same same [] = refl
map-same {f} {g} same (k ∷ ks) = ap (λ x. x ∷ map f ks) (same k) ∙ ap (λ xs. g k ∷ xs) (map-same same ks)

-- all eight of them
doubled_tables : Poly → List (List ℕ)
doubled_tables p = map (λ k. doubled (entry p (8 * k)) 8) (range_with_len 0 8)

tables-doubled : (p : Poly) → doubled_tables p ≡ octet_tables p
unfolding doubled_tables octet_tables
tables-doubled p = map-same (λ k. doubled-residues p (8 * k)) (range_with_len 0 8)

-- ---- the code's tables

-- the tables of CRC24A
pub a24-residues : A24_RESIDUES ≡ octet_tables A24
unfolding times_d rho residue low_first flip entry doubled with_top doubled_tables
a24-residues = (let same : A24_RESIDUES ≡ doubled_tables A24 = refl in same) ∙ tables-doubled A24

-- the tables of CRC24B
pub b24-residues : B24_RESIDUES ≡ octet_tables B24
unfolding times_d rho residue low_first flip entry doubled with_top doubled_tables
b24-residues = (let same : B24_RESIDUES ≡ doubled_tables B24 = refl in same) ∙ tables-doubled B24

-- the tables of CRC16
pub c16-residues : C16_RESIDUES ≡ octet_tables C16
unfolding times_d rho residue low_first flip entry doubled with_top doubled_tables
c16-residues = (let same : C16_RESIDUES ≡ doubled_tables C16 = refl in same) ∙ tables-doubled C16
