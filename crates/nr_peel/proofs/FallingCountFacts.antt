-- How the sum of all rows' counts falls when those of a lane of a row block do.
use Rattle.nr_peel.proofs.Common.{◌≡◌, ℕ, zero, suc, ◌+◌, ◌*◌, ◌<◌, ◌==◌, ◌&&◌, nat_lt, Bool, cond}
use Rattle.nr_peel.proofs.Common.{List, length, arith, slice_index, sum, mod_below, div-add-mod', marked_count, sum_below}
use Rattle.nr_peel.proofs.{CountedPairFacts.sum-below, CountedPairFacts.sum_flat, PairSumFacts.sum_below-plus}

-- if each count falls by some number, their sum falls by the sum of these
sums_fall : (rows z : ℕ) (old new : List ℕ) (h : ℕ → ℕ → ℕ) → 0 < z → length old ≡ rows * z
    → length new ≡ rows * z
    → ((i t : ℕ) → t < z → slice_index new (i * z + t) + h i t ≡ slice_index old (i * z + t))
    → sum_below (λ i. sum_below (h i) z) rows + sum new ≡ sum old
sums_fall rows z old new h some long_old long_new falls =
    grind (arith, sum_flat, sum-below, sum_below-plus, div-add-mod', mod_below)

-- the marks of a lane, if a test passes
pub sum_where : (b : Bool) (u : ℕ → Bool) (n : ℕ) → sum_below (λ t. cond (b && u t) 1 0) n ≡ cond b (marked_count u n) 0
sum_where b u zero = grind arith
sum_where b u (suc n) = grind (arith, sum_where b u n)

block_sum : (i z rows : ℕ) (u : ℕ → Bool)
    → sum_below (λ h. sum_below (λ t. cond ((i == h) && u t) 1 0) z) rows ≡ cond (nat_lt i rows) (marked_count u z) 0
block_sum i z zero u = grind arith
block_sum i z (suc h) u = grind (arith, block_sum i z h u, sum_where (i == h) u z)

-- the sum falls by the marks of the lane
pub lane_falls : (rows z i : ℕ) (old new : List ℕ) (u : ℕ → Bool) → 0 < z → i < rows → length old ≡ rows * z
    → length new ≡ rows * z
    → ((h t : ℕ) → t < z → slice_index new (h * z + t) + cond ((i == h) && u t) 1 0 ≡ slice_index old (h * z + t))
    → marked_count u z + sum new ≡ sum old
lane_falls rows z i old new u some ir long_old long_new falls =
    grind (arith, sums_fall rows z old new (λ h t. cond ((i == h) && u t) 1 0) some long_old long_new falls, block_sum i z rows u)
