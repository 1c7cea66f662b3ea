-- The search for the least lifting size.
use Rattle.std.proofs.Common.{Bool, IsSome, List, Some, [], arith, cond, false, find, is_some, nat_le, nat_lt, refl, true, ℕ}
use Rattle.std.proofs.Common.{◌&&◌, ◌*◌, ◌<◌, ◌∷◌, ◌≡◌, ◌≤◌, ◌⊎◌}
use Rattle.std.proofs.{Math.Nat.mul-le-mul_right, lemmas.Bool.leb-false, lemmas.Bool.Decides.nat_tests}
use Rattle.nr_lifting.proofs.SetIndexFacts.{all_listed}
use Rattle.nr_lifting.specs.Sizes.{climbs, is_in, least_size, set_index, sizes}

-- what a search finds passes the test
find-passes : (test : ℕ → Bool) (xs : List ℕ) (z : ℕ) → find test xs ≡ Some z → test z ≡ true
find-passes test [] z found = cc
find-passes test (x ∷ xs) z found = grind (arith, find-passes test xs z)

-- what a search finds is in the list
find-listed : (test : ℕ → Bool) (xs : List ℕ) (z : ℕ) → find test xs ≡ Some z → is_in z xs ≡ true
find-listed test [] z found = cc
find-listed test (x ∷ xs) z found = grind (arith, nat_tests, find-listed test xs z)

-- a number of a list is its first one or is among the later ones
listed-cases : (z x : ℕ) (xs : List ℕ) → is_in z (x ∷ xs) ≡ true → (x ≡ z) ⊎ (is_in z xs ≡ true)
listed-cases z x xs listed = grind (arith, nat_tests)

-- a search finds something if a number of the list passes
find-some : (test : ℕ → Bool) (xs : List ℕ) (z : ℕ) → is_in z xs ≡ true → test z ≡ true → IsSome (find test xs)
find-some test [] z listed passes = cc
find-some test (x ∷ xs) z listed passes = grind (arith, listed-cases, find-some test xs z)

-- if each size is at most twice the one before it, twice the one found for `need` is below `need`
find-half : (kb need before : ℕ) (xs : List ℕ) (z : ℕ) → 4 ≤ kb → climbs before xs ≡ true → kb * before < need
    → find (λ size. nat_le need (kb * size)) xs ≡ Some z → 2 * z < need
unfolding climbs
find-half kb need before [] z wide climb low found = cc
find-half kb need before (x ∷ xs) z wide climb low found =
    go x xs (nat_le need (kb * x)) refl climb (λ next low. find-half kb need x xs z wide next low) found
  where
    step : (x : ℕ) (more : Bool) → (nat_lt before x && nat_le x (2 * before) && more) ≡ true
        → (x ≤ 2 * before) × (more ≡ true)
    step x more climb = grind (arith, nat_tests)

    go : (x : ℕ) (xs : List ℕ) (b : Bool) → nat_le need (kb * x) ≡ b
        → (nat_lt before x && nat_le x (2 * before) && climbs x xs) ≡ true
        → (climbs x xs ≡ true → kb * x < need → find (λ size. nat_le need (kb * size)) xs ≡ Some z → 2 * z < need)
        → cond b (Some x) (find (λ size. nat_le need (kb * size)) xs) ≡ Some z → 2 * z < need
    go x xs true is climb later found =
        let same : x ≡ z = cc in
        let next = step x (climbs x xs) climb in
        let wider : 4 * before ≤ kb * before = mul-le-mul_right before wide in
        omega arith
    go x xs false is climb later found = later (step x (climbs x xs) climb).1 (leb-false need (kb * x) is) found

-- the least size holds what it is asked to hold
pub least_size-holds : (kb need z : ℕ) → least_size kb need ≡ Some z → need ≤ kb * z
unfolding least_size
least_size-holds kb need z found = grind (arith, nat_tests, find-passes)

-- the least size is a lifting size
pub least_size-listed : (kb need z : ℕ) → least_size kb need ≡ Some z → is_in z sizes ≡ true
unfolding least_size
least_size-listed kb need z found = find-listed (λ size. nat_le need (kb * size)) sizes z found

-- there is a size if the largest one, 384, is enough
pub least_size-some : (kb need : ℕ) → need ≤ kb * 384 → IsSome (least_size kb need)
unfolding least_size
least_size-some kb need enough = grind (arith, nat_tests, find-some)

-- twice the least size is below what it is asked to hold, as each size is at most twice the next smaller one
pub least_size-half : (kb need z : ℕ) → 4 ≤ kb → kb < need → least_size kb need ≡ Some z → 2 * z < need
unfolding least_size climbs
least_size-half kb need z wide low found = find-half kb need 1 sizes z wide refl (omega arith) found

-- each lifting size has a set index
pub set_index-some : (z : ℕ) → is_in z sizes ≡ true → IsSome (set_index z)
unfolding set_index
set_index-some z listed = all_listed (λ size. is_some (set_index size)) sizes z refl listed

-- no lifting size is above 384
pub listed-most : (z : ℕ) → is_in z sizes ≡ true → z ≤ 384
listed-most z listed = grind (arith, nat_tests, all_listed)
