-- Positions in a row: how often one occurs there, and rows with one position outside a set.
use Rattle.nr_peel.proofs.Common.{inl, inr, nat_tests, ◌≡◌, ℕ, ◌+◌, ◌<◌, ◌==◌, ◌||◌, Bool, true, false, not}
use Rattle.nr_peel.proofs.Common.{cond, List, [], ◌∷◌, length, get_or, take, refl, sym, ap, ◌∙◌, arith, ◌≢◌, map}
use Rattle.nr_peel.proofs.Common.{◌≤◌, count_by, list_all, and_parts, or_right, eqb-true, eq-eqb, sum_by_more, stands, fixes}
use Rattle.nr_peel.proofs.Common.{times_in, IsOnlyMissing, slice_index, get_or_default, cases_Bool, get_or-le-sum_by}
use Rattle.std.proofs.lemmas.List.Sums.{sum_by-cons, AllPass-from_list_all, list_all-from_AllPass, sum_by-le, sum_by-le-sum_by}
use Rattle.std.proofs.lemmas.List.Folds.{Any-from_list_any, fold-map, list_any_at}

-- a count with one more element in front
pub count_by-cons : {X : Type 0} (p : X → Bool) (x : X) (xs : List X) → count_by p (x ∷ xs) ≡ cond (p x) 1 0 + count_by p xs
count_by-cons p x xs = sum_by-cons (λ y. cond (p y) 1 0) x xs

pub count_yes : {X : Type 0} (p : X → Bool) (x : X) (xs : List X) → p x ≡ true → count_by p (x ∷ xs) ≡ 1 + count_by p xs
count_yes p x xs h = count_by-cons p x xs ∙ ap (λ b. cond b 1 0 + count_by p xs) h

pub count_no : {X : Type 0} (p : X → Bool) (x : X) (xs : List X) → p x ≡ false → count_by p (x ∷ xs) ≡ count_by p xs
count_no p x xs h = count_by-cons p x xs ∙ ap (λ b. cond b 1 0 + count_by p xs) h ∙ omega arith

-- what two tests count, if a third is true when one of the two is
pub count_plus : {X : Type 0} (f g h : X → Bool) → ((x : X) → cond (f x) 1 0 + cond (g x) 1 0 ≡ cond (h x) 1 0)
    → (xs : List X) → count_by f xs + count_by g xs ≡ count_by h xs
count_plus f g h one [] = refl
count_plus f g h one (x ∷ xs) =
    omega (arith, count_by-cons f x xs, count_by-cons g x xs, count_by-cons h x xs, count_plus f g h one xs)

-- a count over one more element
pub count_more : {X : Type 0} (p : X → Bool) (xs : List X) (i : ℕ) (d : X) → i < length xs
    → count_by p (take (i + 1) xs) ≡ count_by p (take i xs) + cond (p (get_or xs i d)) 1 0
count_more p xs i d lt = sum_by_more (λ x. cond (p x) 1 0) xs i d lt

-- a count over a list is one over the list that it is made from
pub count_map : {X Y : Type 0} (p : Y → Bool) (h : X → Y) (xs : List X)
    → count_by p (map h xs) ≡ count_by (λ x. p (h x)) xs
count_map p h xs = fold-map (λ (n : ℕ) y. n + cond (p y) 1 0) h 0 xs

-- a test that implies another counts no more
pub count_within : {X : Type 0} (p q : X → Bool) → ((x : X) → p x ≡ true → q x ≡ true) → (xs : List X)
    → count_by p xs ≤ count_by q xs
count_within p q within xs = sum_by-le-sum_by (λ x. cond (p x) 1 0) (λ x. cond (q x) 1 0) xs (λ x. grind arith)

-- tests that agree count the same
pub count_alike : {X : Type 0} (p q : X → Bool) → ((x : X) → p x ≡ q x) → (xs : List X)
    → count_by p xs ≡ count_by q xs
count_alike p q h xs = λ i. count_by (λ x. h x i) xs

-- ---- the places of a row

pub stands_at : (xs : List ℕ) (i : ℕ) → i < length xs → stands (slice_index xs i) xs ≡ true
stands_at xs i lt = list_any_at (λ q. q == slice_index xs i) xs i 0 lt (eq-eqb (slice_index xs i) (slice_index xs i) refl)

-- the place of a member
pub record IsPlaced (xs : List ℕ) (q : ℕ) : Type 0 where
  pub index : ℕ
  pub below : index < length xs
  pub is : slice_index xs index ≡ q

pub place_of : (xs : List ℕ) (q : ℕ) → stands q xs ≡ true → IsPlaced xs q
place_of xs q h =
    let (i, x, below, is, same) = Any-from_list_any (λ x. x == q) xs h in
    record { index = i; below = below; is = get_or_default xs i 0 x below ∙ is ∙ eqb-true x q same }

-- a member passes what all pass, and is counted if it passes
pub all_at : (f : ℕ → Bool) (xs : List ℕ) (q : ℕ) → list_all f xs ≡ true → stands q xs ≡ true → f q ≡ true
all_at f xs q all there = let w = place_of xs q there in ap f (sym w.is) ∙ AllPass-from_list_all f xs all w.index 0 w.below

pub some_counted : (f : ℕ → Bool) (xs : List ℕ) (q : ℕ) → stands q xs ≡ true → f q ≡ true → 0 < count_by f xs
some_counted f xs q there h = let w = place_of xs q there in
    grind (arith, get_or-le-sum_by (λ x. cond (f x) 1 0) xs w.index 0 w.below)

-- tests that agree at the positions of a row count the same there
pub count_where : (p q : ℕ → Bool) (xs : List ℕ) → ((x : ℕ) → stands x xs ≡ true → p x ≡ q x)
    → count_by p xs ≡ count_by q xs
count_where p q [] h = refl
count_where p q (x ∷ xs) h =
    grind (arith, count_by-cons p x xs, count_by-cons q x xs, count_where p q xs (λ y s. h y (or_right (x == y) (stands y xs) s)))

-- if all pass a test, all pass each test that follows from it there
pub all_more : (p q : ℕ → Bool) (xs : List ℕ) → ((x : ℕ) → stands x xs ≡ true → p x ≡ true → q x ≡ true)
    → list_all p xs ≡ true → list_all q xs ≡ true
all_more p q xs more h = list_all-from_AllPass q xs
    (λ k d lt. more (get_or xs k d) (list_any_at (λ x. x == get_or xs k d) xs k d lt (eq-eqb _ _ refl))
    (AllPass-from_list_all p xs h k d lt))

pub count_none : {X : Type 0} (p : X → Bool) → ((x : X) → p x ≡ false) → (xs : List X) → count_by p xs ≡ 0
count_none p none xs = omega (arith, sum_by-le (λ x. cond (p x) 1 0) 0 xs (λ k d lt. grind arith))

-- if every position but one of a row is in a set, the others are counted as that one
pub fixed_counted : (S : ℕ → Bool) (p : ℕ) (row : List ℕ) → S p ≡ false → fixes S row p ≡ true
    → count_by (λ q. not (S q)) row ≡ times_in p row
fixed_counted S p row h f = count_where (λ q. not (S q)) (λ q. q == p) row
    (λ q s. grind (arith, nat_tests, all_at (λ r. (r == p) || S r) row q (and_parts (stands p row) _ f).1 s))

-- a row with one position outside a set
pub record HasOnlyMissing (S : ℕ → Bool) (row : List ℕ) : Type 0 where
  pub pos : ℕ
  pub only : IsOnlyMissing S row pos

-- if no position outside a set is counted, all are in it
none_out : (S : ℕ → Bool) (row : List ℕ) → count_by (λ q. not (S q)) row ≡ 0 → list_all S row ≡ true
none_out S row h = list_all-from_AllPass S row (λ k d lt. grind (arith, get_or-le-sum_by (λ q. cond (not (S q)) 1 0) row k d lt))

pub only_from_count : (S : ℕ → Bool) (row : List ℕ) → count_by (λ q. not (S q)) row ≡ 1 → HasOnlyMissing S row
only_from_count S [] h = absurd (omega arith)
only_from_count S (x ∷ row) h = elim (cases_Bool (S x)) [
  | inl e ↦
      let r = only_from_count S row (sym (count_no (λ q. not (S q)) x row (ap not e)) ∙ h) in
      record { pos = r.pos; only = grind arith }
  | inr e ↦
      let others = all_more S (λ q. (q == x) || S q) row (λ q _. or_right (q == x) (S q))
      (none_out S row (omega (arith, count_yes (λ q. not (S q)) x row (ap not e)))) in
      record { pos = x; only = grind arith }
]

-- a larger set fixes the same positions
pub fixes_more : (S T : ℕ → Bool) (row : List ℕ) (p : ℕ) → ((q : ℕ) → S q ≡ true → T q ≡ true)
    → fixes S row p ≡ true → fixes T row p ≡ true
fixes_more S T row p within f = grind (arith, all_more (λ q. (q == p) || S q) (λ q. (q == p) || T q) row (λ q _ h. grind arith))

-- every other position of a row that fixes one is in the set
pub other_in : (T : ℕ → Bool) (row : List ℕ) (p q : ℕ) → list_all (λ r. (r == p) || T r) row ≡ true
    → stands q row ≡ true → q ≢ p → T q ≡ true
other_in T row p q all h ne = grind (arith, all_at (λ r. (r == p) || T r) row q all h)

-- the only position of a row outside a set is the one that is in the row and outside the set
pub only_here : (K : ℕ → Bool) (row : List ℕ) (p : ℕ) → count_by (λ q. not (K q)) row ≡ 1 → stands p row ≡ true
    → K p ≡ false → IsOnlyMissing K row p
only_here K row p one there out =
    let r = only_from_count K row one in
    grind (arith, other_in K row r.pos p r.only.others there)
