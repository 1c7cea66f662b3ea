-- The check of a stopping set, member by member.
use Rattle.nr_peel.proofs.Common.{nat_tests, ◌≡◌, ◌≢◌, ℕ, ◌+◌, ◌*◌, ◌/◌, ◌%◌, ◌<◌, ◌≤◌}
use Rattle.nr_peel.proofs.Common.{nat_lt, Bool, false, List, length, get_or, refl, sym, ◌∙◌, arith, slice_index, cases_eq}
use Rattle.nr_peel.proofs.Common.{cases_lt, false_from_ne_true, ltb-true, true≢false, div-mul-add, mod-mul-add, Checks, AreSound}
use Rattle.nr_peel.proofs.Common.{stands, IsFixOrder, IsRising, IsStoppingSet, Fix}
use Rattle.nr_peel.proofs.LeftPositionFacts.{place_of, stands_at, stops_out}
use Rattle.nr_peel.proofs.{FixOrderFacts.steps_stay, RowPositionFacts.count_none, RowPositionFacts.count_where}
use Rattle.std.{specs.Prelude.Result, specs.Prelude.Ok, specs.Prelude.Err, proofs.lemmas.Nat.mul-add-lt, specs.Ordering.nat_cmp}
use Rattle.std.{specs.List.Sorted.IsBinarySearchResult, specs.Result.is_ok, proofs.lemmas.List.Sorted.searched}

never_falls : (xs : List ℕ) → IsRising xs → (i j : ℕ) → i ≤ j → j < length xs → get_or xs i 0 ≤ get_or xs j 0
never_falls xs rising i j le lt = grind (arith, nat_tests, cases_eq i j, rising i j)

-- a search in a rising list finds its members
pub search_is : (xs : List ℕ) (x : ℕ) (r : Result ℕ ℕ) → IsBinarySearchResult (λ y. nat_cmp y x) xs r → IsRising xs
    → is_ok r ≡ stands x xs
search_is xs x (Ok i) h rising = let s = searched xs x (Ok i) h (never_falls xs rising) in sym (rw s.1 at (stands_at xs i s.0))
search_is xs x (Err i) h rising =
    let s = searched xs x (Err i) h (never_falls xs rising) in
    sym (false_from_ne_true (stands x xs)
    (λ m. let w = place_of xs x m in grind (arith, cases_lt w.index i, s.1 w.index, s.2 w.index)))

-- what is true of all rows by their numbers is true of each by its block and lane
pub row_at_number : (P : ℕ → ℕ → Type 0) (rows z : ℕ) → ((j : ℕ) → j < rows * z → P (j / z) (j % z))
    → (i t : ℕ) → i < rows → t < z → P i t
row_at_number P rows z all i t lt small =
    rw (div-mul-add i z t small, mod-mul-add i z t small) at (all (i * z + t) (omega (arith, mul-add-lt i z t rows lt small)))

-- if there is a stopping set, no steps are a fix order
pub stops_orders : (c : Checks) (S : ℕ → Bool) (kdash : ℕ) (set : List ℕ) (steps : List Fix) → AreSound c
    → IsStoppingSet c kdash S set → ¬ (IsFixOrder c kdash S steps)
stops_orders c S kdash set steps sound stop order =
    let none_low = count_where (λ p. nat_lt p kdash) (λ p. false) set (λ p member. false_from_ne_true (nat_lt p kdash) (λ low.
    true≢false (sym (steps_stay c S steps sound p (order.complete p (ltb-true p kdash low)))
    ∙ stops_out c S kdash set p sound stop member))) in
    omega (arith, stop.low, none_low, count_none (λ (p : ℕ). false) (λ p. refl) set)

-- the members so far: each is below `least`
pub record IsBesideSo (size : ℕ) (S : ℕ → Bool) (set : List ℕ) (n least : ℕ) : Type 0 where
  pub rising : (i j : ℕ) → i < j → j < n → slice_index set i < slice_index set j
  pub in_range : (i : ℕ) → i < n → slice_index set i < size
  pub beside : (i : ℕ) → i < n → S (slice_index set i) ≡ false
  pub low : (i : ℕ) → i < n → slice_index set i < least
  pub last : least ≢ 0 → (i : ℕ) × (i < n) × (slice_index set i + 1 ≡ least)
