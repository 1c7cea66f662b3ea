-- The bits of a number, the highest first.
use Rattle.nr_crcattach.proofs.Common.{zero, suc, ◌∷◌, ◌++◌, refl, sym, ◌∙◌, ap, arith, bit_at, shr-shr, high_first}
use Rattle.nr_crcattach.proofs.Common.{nat_tests, ◌≡◌, ℕ, ◌+◌, ◌*◌, ◌/◌, ◌%◌, ◌^◌, ◌≤◌, ◌==◌}
use Rattle.std.proofs.lemmas.Nat.Bits.{bit_at_cat_low}

-- the higher bits are before the lower ones
pub high_first-split : (j k v : ℕ) → high_first (j + k) v ≡ high_first j (v / 2 ^ k) ++ high_first k v
unfolding high_first
high_first-split zero k v = ap (λ n. high_first n v) (omega arith)
high_first-split (suc j) k v =
    let next : suc j + k ≡ suc (j + k) = omega arith in
    let turned : k + j ≡ j + k = omega arith in
    let same : bit_at (v / 2 ^ k) j ≡ bit_at v (j + k) = ap (λ q. q % 2) (shr-shr v k j ∙ ap (λ n. v / 2 ^ n) turned) in
    ap (λ n. high_first n v) next
    ∙ ap (λ bits. (bit_at v (j + k) == 1) ∷ bits) (high_first-split j k v)
    ∙ ap (λ b. ((b == 1) ∷ high_first j (v / 2 ^ k)) ++ high_first k v) (sym same)

-- higher bits are left out
pub high_first-low : (k n a w : ℕ) → k ≤ n → high_first k (a * 2 ^ n + w) ≡ high_first k w
unfolding high_first
high_first-low zero n a w short = refl
high_first-low (suc k) n a w short = grind (arith, nat_tests, bit_at_cat_low, high_first-low k n a w (omega arith))
