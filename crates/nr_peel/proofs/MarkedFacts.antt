-- How many of the first numbers are marked.
use Rattle.nr_peel.proofs.Common.{◌≡◌, ℕ, zero, suc, ◌+◌, ◌-◌, ◌<◌, ◌≤◌, Bool, true, false, not, cond}
use Rattle.nr_peel.proofs.Common.{refl, ap, arith, marked_count, marked-append, marked-le, mul-le-mul_right, Within}
use Rattle.std.proofs.lemmas.Bool.{not-false}

-- what shows that a count of marks fits its type, for functions to name
pub ruleset marked_bounds = (marked-le, mul-le-mul_right)

-- ---- none and all

pub no_marks : (u : ℕ → Bool) (n : ℕ) → ((t : ℕ) → t < n → u t ≡ false) → marked_count u n ≡ 0
no_marks u zero none = refl
no_marks u (suc n) none = grind (arith, no_marks u n (λ t below. none t (omega (arith, below))), none n (omega arith))

-- nothing is marked if nothing is counted
pub marked_zero : (u : ℕ → Bool) (n : ℕ) → marked_count u n ≡ 0 → (t : ℕ) → t < n → u t ≡ false
marked_zero u zero none t below = absurd (omega (arith, below))
marked_zero u (suc n) none t below = grind (arith, marked_zero u n)

-- what is marked and what isn't are all
pub marked_others : (u : ℕ → Bool) (n : ℕ) → marked_count (λ t. not (u t)) n + marked_count u n ≡ n
marked_others u zero = refl
marked_others u (suc n) = grind (arith, marked_others u n)

pub marked_all : (u : ℕ → Bool) (n : ℕ) → ((t : ℕ) → t < n → u t ≡ true) → marked_count u n ≡ n
marked_all u n all = omega (arith, marked_others u n, no_marks (λ t. not (u t)) n (λ t below. ap not (all t below)))

pub marked_full : (u : ℕ → Bool) (n : ℕ) → n ≤ marked_count u n → (t : ℕ) → t < n → u t ≡ true
marked_full u n full t below = not-false (u t) (marked_zero (λ t. not (u t)) n (omega (arith, marked_others u n, full)) t below)

-- ---- more and fewer

pub marked_within : (u : ℕ → Bool) (m n : ℕ) → m ≤ n → marked_count u m ≤ marked_count u n
marked_within u m n le = grind (arith, marked-append u m (n - m))

pub marked_two : (u v w : ℕ → Bool) (n : ℕ) → ((k : ℕ) → k < n → cond (u k) 1 0 + cond (v k) 1 0 ≤ cond (w k) 1 0)
    → marked_count u n + marked_count v n ≤ marked_count w n
marked_two u v w zero h = omega arith
marked_two u v w (suc n) h = omega (arith, marked_two u v w n (λ k l. h k (omega (arith, l))), h n (omega arith))

pub marked_le : (u v : ℕ → Bool) (n : ℕ) → ((k : ℕ) → k < n → cond (u k) 1 0 ≤ cond (v k) 1 0)
    → marked_count u n ≤ marked_count v n
marked_le u v n h = omega (arith, marked_two u (λ k. false) v n (λ k l. omega (arith, h k l)))

-- marks of two disjoint sets
pub marked_apart : (u v w : ℕ → Bool) (n : ℕ) → ((t : ℕ) → t < n → cond (w t) 1 0 ≡ cond (u t) 1 0 + cond (v t) 1 0)
    → marked_count w n ≡ marked_count u n + marked_count v n
marked_apart u v w zero is = refl
marked_apart u v w (suc n) is = omega (arith, marked_apart u v w n (λ t h. is t (omega (arith, h))), is n (omega arith))

-- a larger set has no fewer, and more if it has a new one
pub marked_more : (S T : ℕ → Bool) → Within S T → (n : ℕ) → marked_count S n ≤ marked_count T n
marked_more S T within n = marked_le S T n (λ k _. grind (arith, within k))

pub marked_grows : (S T : ℕ → Bool) → Within S T → (n p : ℕ) → p < n → S p ≡ false → T p ≡ true
    → marked_count S n < marked_count T n
marked_grows S T within zero p below out there = absurd (omega (arith, below))
marked_grows S T within (suc n) p below out there = grind (arith, marked_grows S T within n p, marked_more S T within n, within n)

-- a larger set with no more has no other
pub marked_back : (S T : ℕ → Bool) → Within S T → (n p : ℕ) → p < n → marked_count T n ≤ marked_count S n
    → T p ≡ true → S p ≡ true
marked_back S T within n p below le there = grind (arith, marked_grows S T within n p below)
