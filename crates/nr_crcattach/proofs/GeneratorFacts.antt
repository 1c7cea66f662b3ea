-- The three generators of the standard.
use Rattle.nr_crcattach.proofs.Common.{◌≡◌, ◌+◌, ◌%◌, ◌<◌, ◌≤◌, ◌^◌, refl, lit≤, Poly, A24, B24, C16}
use Rattle.nr_crcattach.proofs.Common.{degree, generator}
use Rattle.std.proofs.Common.{lit<}

-- there is a parity bit
pub degree-positive : (p : Poly) → 0 < degree p
degree-positive A24 = lit< tt
degree-positive B24 = lit< tt
degree-positive C16 = lit< tt

-- there are at most 24 parity bits
pub degree-le : (p : Poly) → degree p ≤ 24
degree-le A24 = lit≤ tt
degree-le B24 = lit≤ tt
degree-le C16 = lit≤ tt

-- a remainder has at most 24 coefficients
pub remainders-le : (p : Poly) → 2 ^ degree p ≤ 2 ^ 24
remainders-le A24 = lit≤ tt
remainders-le B24 = lit≤ tt
remainders-le C16 = lit≤ tt

-- the generator reaches its degree
pub generator-above : (p : Poly) → 2 ^ degree p ≤ generator p
generator-above A24 = lit≤ tt
generator-above B24 = lit≤ tt
generator-above C16 = lit≤ tt

-- the generator has no higher power
pub generator-below : (p : Poly) → generator p < 2 ^ (degree p + 1)
generator-below A24 = lit< tt
generator-below B24 = lit< tt
generator-below C16 = lit< tt

-- the coefficient of D^0 is 1
pub generator-odd : (p : Poly) → generator p % 2 ≡ 1
generator-odd A24 = refl
generator-odd B24 = refl
generator-odd C16 = refl
