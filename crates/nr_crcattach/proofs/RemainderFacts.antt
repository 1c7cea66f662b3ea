-- A list followed by its parity bits leaves remainder 0.
use Rattle.std.proofs.lemmas.Bool.Decides.{nat_tests}
use Rattle.std.proofs.Common.{◌≡◌, ℕ, ◌+◌, ◌*◌, ◌/◌, ◌%◌, ◌^◌, ◌<◌, ◌≤◌, ◌==◌}
use Rattle.std.proofs.Common.{if◌then◌else◌, zero, suc, Bool, List, length, refl, sym, ◌∙◌}
use Rattle.std.proofs.Common.{ap, arith, bit_xor, length-append}
use Rattle.std.specs.Int.{bit_at}
use Rattle.std.proofs.lemmas.Bool.{cond_below, cond_above}
use Rattle.std.proofs.lemmas.Nat.{mod-pow-add, mod_below, pow-add, pow_pos, shl_below}
use Rattle.std.proofs.lemmas.Nat.Bits.{bit_at-lt}
use Rattle.std.proofs.Math.Nat.{mod-eq_of_lt, zero-mul}
use lib.Bits.{xor_self, xor_shifted}
use Rattle.nr_crcattach.specs.declared.Poly.{Poly}
use Rattle.nr_crcattach.specs.declared.Poly.TheVariants.{A24, C16}
use Rattle.nr_crcattach.specs.Crc.{degree, rho, residue, high_first, crc_of, IsDivided}
use Rattle.nr_crcattach.specs.Attachment.{attached, attached_length, block_poly, length_poly, with_check}
use Rattle.nr_crcattach.proofs.ResidueFacts.{times_d-zero, times_d-zero_only, residue-lt, residue-append, residue-suc, rho-pow}

-- n bits
pub length-high_first : (n v : ℕ) → length (high_first n v) ≡ n
unfolding high_first
length-high_first zero v = refl
length-high_first (suc n) v = ap suc (length-high_first n v)

-- parity bits lengthen a list by their number
pub length-with_check : (p : Poly) (bits : List Bool) → length (with_check p bits) ≡ length bits + degree p
length-with_check p bits = grind (arith, length-append, length-high_first)

-- the generator of a transport block of more than 3824 bits
block_poly-long : (block : List Bool) → 3824 < length block → block_poly block ≡ A24
block_poly-long block long = sym (cond_below 3824 (length block) A24 C16 long)

-- the generator of any other
block_poly-short : (block : List Bool) → length block ≤ 3824 → block_poly block ≡ C16
block_poly-short block short = sym (cond_above 3824 (length block) A24 C16 C16 short refl)

-- a transport block of more than 3824 bits has 24 bits more
pub length-attached_long : (block : List Bool) → 3824 < length block → length (attached block) ≡ length block + 24
length-attached_long block long = grind (arith, length-with_check, block_poly-long)

-- any other has 16 bits more
pub length-attached_short : (block : List Bool) → length block ≤ 3824 → length (attached block) ≡ length block + 16
length-attached_short block short = grind (arith, length-with_check, block_poly-short)

-- a transport block has as many bits with its parity bits as attached_length says
pub length-attached : (block : List Bool) → length (attached block) ≡ attached_length (length block)
length-attached block = length-with_check (length_poly (length block)) block

-- a bit above n lower bits
top_bit : (bit n low : ℕ) → bit < 2 → low < 2 ^ n → bit_xor (if bit == 1 then 2 ^ n else 0) low ≡ bit * 2 ^ n + low
top_bit zero n low is_bit below = omega arith
top_bit (suc zero) n low is_bit below = ap (λ (high : ℕ). bit_xor high low) (let one : 2 ^ n ≡ 1 * 2 ^ n = omega arith in one)
    ∙ xor_shifted 1 n low below
top_bit (suc (suc bit)) n low is_bit below = absurd (omega arith)

-- the n lowest bits of a number, raised by no more powers of D than the generator's degree allows, are their own
-- remainder
pub residue-high_first : (p : Poly) (s n v : ℕ) → n + s ≤ degree p → residue p s (high_first n v) ≡ (v % 2 ^ n) * 2 ^ s
unfolding residue high_first
residue-high_first p s zero v short = let none : v % 2 ^ 0 ≡ 0 = omega arith in
    sym (ap (λ m. m * 2 ^ s) none ∙ zero-mul (2 ^ s))
residue-high_first p s (suc n) v short =
    let power : length (high_first n v) + s ≡ n + s = ap (λ m. m + s) (length-high_first n v) in
    let alone : rho p (length (high_first n v) + s) ≡ 2 ^ (n + s) = ap (rho p) power ∙ rho-pow p (n + s) (omega arith) in
    let rest : residue p s (high_first n v) ≡ (v % 2 ^ n) * 2 ^ s = residue-high_first p s n v (omega arith) in
    let split : v % 2 ^ (1 + n) ≡ (v / 2 ^ n % 2 ^ 1) * 2 ^ n + v % 2 ^ n = mod-pow-add v 1 n in
    let next : 1 + n ≡ suc n = omega arith in
    let below : (v % 2 ^ n) * 2 ^ s < 2 ^ (n + s) = shl_below (v % 2 ^ n) n s (mod_below v (2 ^ n) (pow_pos n)) in
    let whole : bit_at v n * 2 ^ (n + s) + (v % 2 ^ n) * 2 ^ s ≡ (v % 2 ^ (1 + n)) * 2 ^ s =
    let power_is : 2 ^ (n + s) ≡ 2 ^ n * 2 ^ s = pow-add 2 n s in rw (power_is, split) (omega arith) in
    ap (λ r. bit_xor (if bit_at v n == 1 then r else 0) (residue p s (high_first n v))) alone
    ∙ ap (bit_xor (if bit_at v n == 1 then 2 ^ (n + s) else 0)) rest
    ∙ top_bit (bit_at v n) (n + s) ((v % 2 ^ n) * 2 ^ s) (bit_at-lt v n) below
    ∙ whole ∙ ap (λ k. (v % 2 ^ k) * 2 ^ s) next

-- a remainder's bits are their own remainder
pub residue-own : (p : Poly) (v : ℕ) → v < 2 ^ degree p → residue p 0 (high_first (degree p) v) ≡ v
residue-own p v below = grind (arith, nat_tests, mod-eq_of_lt, residue-high_first)

-- a list followed by its parity bits is divided by their generator
pub IsDivided-with_check : (p : Poly) (bits : List Bool) → IsDivided p (with_check p bits)
IsDivided-with_check p bits =
    let l = degree p in
    let check = crc_of p bits in
    let length_is : length (high_first l check) + 0 ≡ l = omega (arith, length-high_first l check) in
    let own : residue p 0 (high_first l check) ≡ check = residue-own p check (residue-lt p l bits) in
    residue-append p 0 bits (high_first l check)
    ∙ ap (λ s. bit_xor (residue p s bits) (residue p 0 (high_first l check))) length_is
    ∙ ap (bit_xor check) own
    ∙ xor_self check

-- a power of D times a list leaves remainder 0 only if the list does
pub residue-zero_only : (p : Poly) (s : ℕ) (bits : List Bool) → residue p s bits ≡ 0 → residue p 0 bits ≡ 0
residue-zero_only p zero bits none = none
residue-zero_only p (suc s) bits none = grind (
  arith,
  residue-zero_only p s bits (times_d-zero_only p (residue p s bits) (sym (residue-suc p s bits) ∙ none)),
  times_d-zero_only,
  residue-suc,
)

-- and if the list does, it does
pub residue-zero : (p : Poly) (s : ℕ) (bits : List Bool) → residue p 0 bits ≡ 0 → residue p s bits ≡ 0
residue-zero p zero bits none = none
residue-zero p (suc s) bits none = grind (arith, residue-suc, residue-zero p s bits none, times_d-zero)
