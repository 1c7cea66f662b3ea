-- Remainders: times D, the powers of D, and the residue of a list.
use Rattle.nr_crcattach.proofs.Common.{nat_tests, ◌≡◌, ℕ, ◌+◌, ◌*◌, ◌^◌, ◌%◌, ◌<◌, ◌≤◌, zero, suc}
use Rattle.nr_crcattach.proofs.Common.{Bool, true, false, List, [], ◌∷◌, ◌++◌, length, refl, sym, ◌∙◌, ap, inl, inr}
use Rattle.nr_crcattach.proofs.Common.{arith, bit_xor, length-append, cases_lt, pow_below, pow_pos, xor_comm, xor_lt, pow-succ'}
use Rattle.nr_crcattach.proofs.Common.{xor_assoc, xor_self, xor_zero_r, Poly, degree, generator, times_d, rho, residue}
use Rattle.nr_crcattach.proofs.GeneratorFacts.{degree-positive, generator-above, generator-below, generator-odd}
use Rattle.nr_crcattach.proofs.PolynomialSumFacts.{pow_next, double-xor, xor_top, xor_tops, xor_pairs, xor_odd}
use Rattle.std.proofs.lemmas.Bool.{cond_below, cond_above}

-- times D if the degree stays below that of the generator
pub times_d-low : (p : Poly) (r : ℕ) → 2 * r < 2 ^ degree p → times_d p r ≡ 2 * r
unfolding times_d
times_d-low p r low = sym (cond_below (2 * r) (2 ^ degree p) (2 * r) (bit_xor (2 * r) (generator p)) low)

-- times D if the degree reaches that of the generator
pub times_d-high : (p : Poly) (r : ℕ) → 2 ^ degree p ≤ 2 * r → times_d p r ≡ bit_xor (2 * r) (generator p)
unfolding times_d
times_d-high p r high = sym (cond_above (2 * r) (2 ^ degree p) (2 * r) (bit_xor (2 * r) (generator p)) _ high refl)

-- a remainder times D is a remainder
pub times_d-lt : (p : Poly) (r : ℕ) → r < 2 ^ degree p → times_d p r < 2 ^ degree p
times_d-lt p r small =
    grind (arith, nat_tests, cases_lt, times_d-low, times_d-high, xor_tops, pow_next, generator-above, generator-below)

-- nothing times D is nothing
pub times_d-zero : (p : Poly) → times_d p 0 ≡ 0
times_d-zero p = times_d-low p 0 (pow_pos (degree p))

-- a sum times D is the sum of both times D
pub times_d-xor : (p : Poly) (a b : ℕ) → a < 2 ^ degree p → b < 2 ^ degree p
    → times_d p (bit_xor a b) ≡ bit_xor (times_d p a) (times_d p b)
times_d-xor p a b small small' =
    let double : 2 * bit_xor a b ≡ bit_xor (2 * a) (2 * b) = double-xor a b in
    let below : 2 * a < 2 ^ (degree p + 1) = omega (arith, pow_next (degree p)) in
    let below' : 2 * b < 2 ^ (degree p + 1) = omega (arith, pow_next (degree p)) in
    elim (cases_lt (2 * a) (2 ^ degree p)) [
      | inl low ↦
          let left : times_d p a ≡ 2 * a = times_d-low p a low in
          elim (cases_lt (2 * b) (2 ^ degree p)) [
            | inl low' ↦
                let right : times_d p b ≡ 2 * b = times_d-low p b low' in
                let sum : times_d p (bit_xor a b) ≡ 2 * bit_xor a b =
                times_d-low p (bit_xor a b) (omega (arith, xor_lt (degree p) (2 * a) (2 * b) low low')) in
                cc
            | inr high' ↦
                let right : times_d p b ≡ bit_xor (2 * b) (generator p) = times_d-high p b high' in
                let sum : times_d p (bit_xor a b) ≡ bit_xor (2 * bit_xor a b) (generator p) =
                times_d-high p (bit_xor a b) (omega (arith, xor_top (degree p) (2 * a) (2 * b) low high' below')) in
                cc (xor_assoc (2 * a) (2 * b) (generator p))
          ]
      | inr high ↦
          let left : times_d p a ≡ bit_xor (2 * a) (generator p) = times_d-high p a high in
          elim (cases_lt (2 * b) (2 ^ degree p)) [
            | inl low' ↦
                let right : times_d p b ≡ 2 * b = times_d-low p b low' in
                let sum : times_d p (bit_xor a b) ≡ bit_xor (2 * bit_xor a b) (generator p) =
                times_d-high p (bit_xor a b)
                (omega (arith, xor_comm (2 * a) (2 * b), xor_top (degree p) (2 * b) (2 * a) low' high below)) in
                cc (
                  xor_comm (2 * b) (2 * a),
                  xor_assoc (2 * b) (2 * a) (generator p),
                  xor_comm (2 * b) (bit_xor (2 * a) (generator p)),
                )
            | inr high' ↦
                let right : times_d p b ≡ bit_xor (2 * b) (generator p) = times_d-high p b high' in
                let sum : times_d p (bit_xor a b) ≡ 2 * bit_xor a b =
                times_d-low p (bit_xor a b) (omega (arith, xor_tops (degree p) (2 * a) (2 * b) high below high' below')) in
                let paired : bit_xor (bit_xor (2 * a) (generator p)) (bit_xor (2 * b) (generator p))
                ≡ bit_xor (bit_xor (2 * a) (2 * b)) (bit_xor (generator p) (generator p)) =
                xor_pairs (2 * a) (generator p) (2 * b) (generator p) in
                cc (xor_self (generator p), xor_zero_r (bit_xor (2 * a) (2 * b)))
          ]
    ]

-- a remainder that leaves 0 when it is multiplied by D is 0, since the generator is odd
pub times_d-zero_only : (p : Poly) (r : ℕ) → times_d p r ≡ 0 → r ≡ 0
times_d-zero_only p r none =
    elim (cases_lt (2 * r) (2 ^ degree p)) [
      | inl low ↦ omega (arith, times_d-low p r low)
      | inr high ↦
          let sum : bit_xor (2 * r) (generator p) ≡ 0 = sym (times_d-high p r high) ∙ none in
          let odd : bit_xor (2 * r) (generator p) % 2 ≡ 1 = xor_odd r (generator p) (generator-odd p) in
          omega arith
    ]

-- the remainder of a power of D is a remainder
pub rho-lt : (p : Poly) (n : ℕ) → rho p n < 2 ^ degree p
unfolding rho
rho-lt p zero = pow_below 0 (degree p) (degree-positive p)
rho-lt p (suc n) = times_d-lt p (rho p n) (rho-lt p n)

-- below the generator's degree a power of D is its own remainder
pub rho-pow : (p : Poly) (n : ℕ) → n < degree p → rho p n ≡ 2 ^ n
unfolding rho
rho-pow p zero below = refl
rho-pow p (suc n) below = grind (arith, rho-pow p n (omega arith), pow-succ', pow_below, times_d-low)

-- the residue of a list is a remainder
pub residue-lt : (p : Poly) (s : ℕ) (bits : List Bool) → residue p s bits < 2 ^ degree p
unfolding residue
residue-lt p s [] = pow_pos (degree p)
residue-lt p s (false ∷ bits) = residue-lt p s bits
residue-lt p s (true ∷ bits) = grind (arith, nat_tests, xor_lt, rho-lt, residue-lt p s bits)

-- the residue of two lists joined: the second raises the powers of the first
pub residue-append : (p : Poly) (s : ℕ) (xs ys : List Bool)
    → residue p s (xs ++ ys) ≡ bit_xor (residue p (length ys + s) xs) (residue p s ys)
unfolding residue
residue-append p s [] ys = refl
residue-append p s (false ∷ xs) ys = residue-append p s xs ys
residue-append p s (true ∷ xs) ys =
    let raised : rho p (length (xs ++ ys) + s) ≡ rho p (length xs + (length ys + s)) =
    let later : length (xs ++ ys) + s ≡ length xs + (length ys + s) = omega (arith, length-append xs ys) in ap (rho p) later in
    let rest : residue p s (xs ++ ys) ≡ bit_xor (residue p (length ys + s) xs) (residue p s ys) = residue-append p s xs ys in
    cc (xor_assoc (rho p (length xs + (length ys + s))) (residue p (length ys + s) xs) (residue p s ys))

-- one more power of D is the residue times D
pub residue-suc : (p : Poly) (s : ℕ) (bits : List Bool) → residue p (suc s) bits ≡ times_d p (residue p s bits)
unfolding residue rho
residue-suc p s [] = sym (times_d-zero p)
residue-suc p s (false ∷ bits) = residue-suc p s bits
residue-suc p s (true ∷ bits) =
    let raised : rho p (length bits + suc s) ≡ times_d p (rho p (length bits + s)) =
    let next : length bits + suc s ≡ suc (length bits + s) = omega arith in ap (rho p) next in
    let rest : residue p (suc s) bits ≡ times_d p (residue p s bits) = residue-suc p s bits in
    cc (times_d-xor p (rho p (length bits + s)) (residue p s bits) (rho-lt p (length bits + s)) (residue-lt p s bits))
