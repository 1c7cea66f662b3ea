-- One more bit enters the shift register, at its top.
use Rattle.nr_crcattach.proofs.Common.{◌≡◌, ℕ, ◌+◌, ◌-◌, ◌^◌, ◌<◌, suc, Bool, true, false, List, []}
use Rattle.nr_crcattach.proofs.Common.{◌∷◌, ◌++◌, sym, ◌∙◌, ap, arith, bit_xor, pow_below, pow_pos, xor_zero_r}
use Rattle.nr_crcattach.proofs.Common.{Poly, degree, times_d, rho, residue}
use Rattle.nr_crcattach.proofs.GeneratorFacts.{degree-positive}
use Rattle.nr_crcattach.proofs.ResidueFacts.{times_d-zero, times_d-xor, residue-lt, residue-append, residue-suc, rho-pow}

-- the remainder of D^L is D^(L - 1) times D
rho-degree : (p : Poly) → rho p (degree p) ≡ times_d p (2 ^ (degree p - 1))
unfolding rho
rho-degree p =
    let back : degree p ≡ suc (degree p - 1) = omega (arith, degree-positive p) in
    ap (rho p) back ∙ ap (times_d p) (rho-pow p (degree p - 1) (omega (arith, degree-positive p)))

-- the bit that enters, as a number at the register's top
abbrev pub entering : ℕ → Bool → ℕ
entering l true = 2 ^ (l - 1)
entering l false = 0

-- the bit that enters is a remainder
pub entering-lt : (l : ℕ) (bit : Bool) → 0 < l → entering l bit < 2 ^ l
entering-lt l true positive = pow_below (l - 1) l (omega arith)
entering-lt l false positive = pow_pos l

-- the residue of one bit
residue-one : (p : Poly) (bit : Bool) → residue p (degree p) (bit ∷ []) ≡ times_d p (entering (degree p) bit)
unfolding residue
residue-one p true =
    let power : 0 + degree p ≡ degree p = omega arith in
    xor_zero_r (rho p (0 + degree p)) ∙ ap (rho p) power ∙ rho-degree p
residue-one p false = sym (times_d-zero p)

-- one more bit at the end: it is added to the register's top, and all is multiplied by D
pub residue-next : (p : Poly) (bits : List Bool) (bit : Bool)
    → residue p (degree p) (bits ++ bit ∷ []) ≡ times_d p (bit_xor (residue p (degree p) bits) (entering (degree p) bit))
residue-next p bits bit =
    grind (arith, residue-append, residue-suc, residue-one, times_d-xor, residue-lt, entering-lt, degree-positive)
