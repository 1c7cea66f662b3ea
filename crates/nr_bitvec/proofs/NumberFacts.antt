-- Digits as numbers, the greater of two numbers, and remainders.
use Rattle.nr_bitvec.proofs.Common.{◌≡◌, ℕ, ◌+◌, ◌-◌, ◌%◌, ◌<◌, ◌≤◌, ◌==◌, ◌&&◌, ◌||◌}
use Rattle.nr_bitvec.proofs.Common.{Bool, true, false, min, max, ◌∙◌, arith, mod-eq_of_lt, nat_tests, from_bool}
use Rattle.std.{proofs.Common.cond, proofs.Common.nat_cmp, proofs.Math.Nat.mod-eq-sub-mod, specs.Ordering.ord_max}

-- ---- digits

pub cond_one : (b : Bool) → (cond b 1 0 == 1) ≡ b
cond_one b = grind arith

pub cond-most : (b : Bool) → cond {A = ℕ} b 1 0 ≤ 1
cond-most b = grind arith

pub from_bool-most : (b : Bool) → from_bool b ≤ 1
from_bool-most true = omega arith
from_bool-most false = omega arith

pub max-one : (a b : ℕ) → a < 2 → b < 2 → (max a b == 1) ≡ ((a == 1) || (b == 1))
max-one a b low low-too = grind (arith, nat_tests)

pub min-one : (a b : ℕ) → a < 2 → b < 2 → (min a b == 1) ≡ ((a == 1) && (b == 1))
min-one a b low low-too = grind (arith, nat_tests)

-- ---- numbers

-- the remainder if the quotient is one
pub mod_once : (n m : ℕ) → m ≤ n → n < m + m → n % m ≡ n - m
mod_once n m high low = mod-eq-sub-mod high ∙ mod-eq_of_lt (omega (arith, high, low))

-- the greater of two numbers, as code says it
pub ord_max-nat : (a b : ℕ) → ord_max nat_cmp a b ≡ max a b
ord_max-nat a b = grind (arith, nat_tests)
