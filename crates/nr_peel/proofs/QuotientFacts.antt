-- A quotient by a product. The quotient of a short number by a lifting size is the high half of its product with a
-- reciprocal.
use Rattle.nr_peel.proofs.Common.{◌≡◌, ℕ, ◌+◌, ◌*◌, ◌/◌, ◌%◌, ◌<◌, ◌≤◌, arith, mul-le-mul_left}
use Rattle.nr_peel.proofs.Common.{mul-le-mul_right, div-add-mod', mod_below}

-- Let d = z m + e and v = q z + r. Then the product of v and m + 1 is at least q d, and below (q + 1) d.
low : (z m e q r d v : ℕ) → m * z + e ≡ d → q * z + r ≡ v → e < z → q * d ≤ v * (m + 1)
low z m e q r d v whole parts small = rw (← whole, ← parts) (grind (arith, mul-le-mul_left))

high : (z m e q r d v : ℕ) → m * z + e ≡ d → q * z + r ≡ v → r < z → v < m → v * (m + 1) < (q + 1) * d
high z m e q r d v whole parts below short = rw (← whole, ← parts) (grind (arith, mul-le-mul_right))

pub quotient : (v z : ℕ) → 0 < z → z ≤ 384 → v < 65536 → v * (4294967296 / z + 1) / 4294967296 ≡ v / z
quotient v z some few short =
    let m = 4294967296 / z in
    let whole = div-add-mod' 4294967296 z in
    let small = mod_below 4294967296 z some in
    let parts = div-add-mod' v z in
    let most : z * m ≤ 384 * m = mul-le-mul_right m few in
    let bottom = low z m (4294967296 % z) (v / z) (v % z) 4294967296 v whole parts small in
    let top = high z m (4294967296 % z) (v / z) (v % z) 4294967296 v whole parts (mod_below v z some)
    (omega (arith, whole, small, few, most, short)) in
    omega (arith, bottom, top)

pub ruleset quotient_facts = (quotient, div-add-mod')
