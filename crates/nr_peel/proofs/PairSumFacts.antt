-- Sums of rows' numbers of positions.
use Rattle.nr_peel.proofs.Common.{◌≡◌, ℕ, ◌+◌, ◌*◌, ◌<◌, ◌≤◌, ◌==◌, cond, List, refl, arith, zero}
use Rattle.nr_peel.proofs.Common.{suc, slice_index, Checks, sum_below, row_length, nat_tests, all_pairs, spent_pairs}

pub sum_below-le : (f g : ℕ → ℕ) (n : ℕ) → ((k : ℕ) → k < n → f k ≤ g k) → sum_below f n ≤ sum_below g n
sum_below-le f g zero h = omega arith
sum_below-le f g (suc n) h = omega (arith, sum_below-le f g n (λ k lt. h k (omega arith)), h n (omega arith))

pub sum_below-same : (f g : ℕ → ℕ) (n : ℕ) → ((k : ℕ) → k < n → f k ≡ g k) → sum_below f n ≡ sum_below g n
sum_below-same f g n h =
    omega (arith, sum_below-le f g n (λ k lt. omega (arith, h k lt)), sum_below-le g f n (λ k lt. omega (arith, h k lt)))

pub sum_below-plus : (f g h : ℕ → ℕ) (n : ℕ) → ((k : ℕ) → k < n → f k + g k ≡ h k)
    → sum_below f n + sum_below g n ≡ sum_below h n
sum_below-plus f g h zero e = refl
sum_below-plus f g h (suc n) e = omega (arith, sum_below-plus f g h n (λ k lt. e k (omega arith)), e n (omega arith))

pub spent_le : (c : Checks) (counts : List ℕ) → spent_pairs c counts ≤ all_pairs c
unfolding spent_pairs all_pairs
spent_le c counts = sum_below-le (λ k. cond (slice_index counts k == 0) (row_length c k) 0) (row_length c) (c.rows * c.lanes)
    (λ k lt. grind arith)

-- counters that fall
pub spent_more : (c : Checks) (old new : List ℕ) → ((k : ℕ) → slice_index new k ≤ slice_index old k)
    → spent_pairs c old ≤ spent_pairs c new
unfolding spent_pairs
spent_more c old new fall = sum_below-le (λ k. cond (slice_index old k == 0) (row_length c k) 0)
    (λ k. cond (slice_index new k == 0) (row_length c k) 0) (c.rows * c.lanes) (λ k lt. grind (arith, nat_tests, fall k))
