-- Sums of polynomials, as numbers: `bit_xor`.
use Rattle.nr_crcattach.proofs.Common.{◌≡◌, ℕ, ◌+◌, ◌-◌, ◌*◌, ◌^◌, ◌%◌, ◌<◌, ◌≤◌, ap, arith}
use Rattle.nr_crcattach.proofs.Common.{bit_xor, xor_comm, xor_lt, pow-succ', xor_assoc}
use Rattle.std.proofs.{Common.add-one, lemmas.Nat.xor_mod, lemmas.Nat.xor_block}

-- 2 ^ (l + 1) is twice 2 ^ l
pub pow_next : (l : ℕ) → 2 ^ (l + 1) ≡ 2 * 2 ^ l
pow_next l = omega (arith, pow-succ' 2 l, add-one l, ap (λ n. 2 ^ n) (add-one l))

-- twice a sum is the sum of the doubles
pub double-xor : (a b : ℕ) → 2 * bit_xor a b ≡ bit_xor (2 * a) (2 * b)
double-xor a b =
    let e : bit_xor (a * 2 ^ 1 + 0) (b * 2 ^ 1 + 0) ≡ bit_xor a b * 2 ^ 1 + 0 = xor_block 1 a b 0 0 (omega arith) (omega arith) in
    let u : a * 2 ^ 1 + 0 ≡ 2 * a = omega arith in
    let v : b * 2 ^ 1 + 0 ≡ 2 * b = omega arith in
    let w : bit_xor a b * 2 ^ 1 + 0 ≡ 2 * bit_xor a b = omega arith in
    cc

-- the top coefficient of one stays
pub xor_top : (l u v : ℕ) → u < 2 ^ l → 2 ^ l ≤ v → v < 2 ^ (l + 1) → 2 ^ l ≤ bit_xor u v
xor_top l u v small high below =
    let rest : v - 2 ^ l < 2 ^ l = omega (arith, pow_next l) in
    let e : bit_xor (0 * 2 ^ l + u) (1 * 2 ^ l + (v - 2 ^ l)) ≡ 1 * 2 ^ l + bit_xor u (v - 2 ^ l) =
    xor_block l 0 1 u (v - 2 ^ l) small rest in
    let a : 0 * 2 ^ l + u ≡ u = omega arith in
    let b : 1 * 2 ^ l + (v - 2 ^ l) ≡ v = omega arith in
    let f : bit_xor u v ≡ 1 * 2 ^ l + bit_xor u (v - 2 ^ l) = cc in
    omega arith

-- the top coefficients of two cancel
pub xor_tops : (l u v : ℕ) → 2 ^ l ≤ u → u < 2 ^ (l + 1) → 2 ^ l ≤ v → v < 2 ^ (l + 1) → bit_xor u v < 2 ^ l
xor_tops l u v high below high' below' =
    let rest : u - 2 ^ l < 2 ^ l = omega (arith, pow_next l) in
    let rest' : v - 2 ^ l < 2 ^ l = omega (arith, pow_next l) in
    let e : bit_xor (1 * 2 ^ l + (u - 2 ^ l)) (1 * 2 ^ l + (v - 2 ^ l)) ≡ 0 * 2 ^ l + bit_xor (u - 2 ^ l) (v - 2 ^ l) =
    xor_block l 1 1 (u - 2 ^ l) (v - 2 ^ l) rest rest' in
    let a : 1 * 2 ^ l + (u - 2 ^ l) ≡ u = omega arith in
    let b : 1 * 2 ^ l + (v - 2 ^ l) ≡ v = omega arith in
    let f : bit_xor u v ≡ 0 * 2 ^ l + bit_xor (u - 2 ^ l) (v - 2 ^ l) = cc in
    omega (arith, xor_lt l (u - 2 ^ l) (v - 2 ^ l) rest rest')

-- four terms of a sum, paired otherwise
pub xor_pairs : (a b c d : ℕ) → bit_xor (bit_xor a b) (bit_xor c d) ≡ bit_xor (bit_xor a c) (bit_xor b d)
xor_pairs a b c d =
    let left : bit_xor (bit_xor a b) (bit_xor c d) ≡ bit_xor a (bit_xor b (bit_xor c d)) = xor_assoc a b (bit_xor c d) in
    let right : bit_xor (bit_xor a c) (bit_xor b d) ≡ bit_xor a (bit_xor c (bit_xor b d)) = xor_assoc a c (bit_xor b d) in
    let turn : bit_xor b c ≡ bit_xor c b = xor_comm b c in
    let inner : bit_xor (bit_xor b c) d ≡ bit_xor b (bit_xor c d) = xor_assoc b c d in
    let inner' : bit_xor (bit_xor c b) d ≡ bit_xor c (bit_xor b d) = xor_assoc c b d in
    cc

-- an odd number added to an even one is odd
pub xor_odd : (r g : ℕ) → g % 2 ≡ 1 → bit_xor (2 * r) g % 2 ≡ 1
xor_odd r g odd =
    let parts : bit_xor (2 * r) g % 2 ^ 1 ≡ bit_xor ((2 * r) % 2 ^ 1) (g % 2 ^ 1) = xor_mod (2 * r) g 1 in
    let even : (2 * r) % 2 ^ 1 ≡ 0 = omega arith in
    cc
