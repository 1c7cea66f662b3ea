-- Pairs of a step and a position of its row.
use Rattle.nr_peel.proofs.Common.{ℕ, zero, suc, ◌*◌, ◌<◌, Bool, List, length, refl, arith, Checks, Fix, true, false, told}
use Rattle.nr_peel.proofs.Common.{◌≡◌, ◌+◌, [], ◌++◌, length-append, marked_count, steps_below, ◌≤◌, step_pairs}
use Rattle.std.proofs.lemmas.List.Sums.{sum_by-append}

pub step_pairs-none : (c : Checks) → step_pairs c [] ≡ 0
unfolding step_pairs
step_pairs-none c = refl

pub step_pairs-append : (c : Checks) (xs ys : List Fix) → step_pairs c (xs ++ ys) ≡ step_pairs c xs + step_pairs c ys
unfolding step_pairs
step_pairs-append c xs ys = sum_by-append (λ (s : Fix). length (c.row s.row s.lane)) xs ys

-- steps of rows that have d positions each
pub step_pairs-alike : (c : Checks) (step : ℕ → Fix) (u : ℕ → Bool) (d n : ℕ)
    → ((t : ℕ) → t < n → length (c.row (step t).row (step t).lane) ≡ d)
    → step_pairs c (steps_below step u n) ≡ marked_count u n * d
unfolding step_pairs
step_pairs-alike c step u d zero h = omega arith
step_pairs-alike c step u d (suc n) h =
    grind (arith, step_pairs-append, step_pairs-alike c step u d n (λ t lt. h t (omega (arith, lt))), h n (omega arith))

pub step_pairs-join : (c : Checks) (xs ys zs : List Fix) (d : ℕ) → zs ≡ xs ++ ys → step_pairs c xs ≡ length xs * d
    → step_pairs c ys ≡ length ys * d → step_pairs c zs ≡ length zs * d
step_pairs-join c xs ys zs d e one two = grind (arith, length-append, step_pairs-append)

-- what is kept of steps has no more pairs
pub told_pairs : (c : Checks) (kept : Bool) (xs : List Fix) → step_pairs c (told kept xs) ≤ step_pairs c xs
told_pairs c true xs = omega arith
told_pairs c false xs = omega (arith, step_pairs-none c)
