-- In a list along which a key does not fall, the elements with one key are a slice.
use Rattle.nr_shifttable.proofs.Common.{nat_tests, ◌≡◌, ℕ, ◌+◌, ◌-◌, ◌<◌, ◌≤◌, nat_lt, nat_le, Bool, true}
use Rattle.nr_shifttable.proofs.Common.{false, List, [], ◌∷◌, length, take, drop, refl, sym, ap, ◌∙◌, arith, filter}
use Rattle.nr_shifttable.proofs.Common.{All, AllWithin, IsPartitionPoint, get_or-drop, length-drop, take-append-drop, append-nil}
use Rattle.nr_shifttable.proofs.Common.{filter-append, All-head, All-tail, le-leb, lt-leb, ltb-false, ltb-true}
use Rattle.std.proofs.lemmas.List.{get_or-take, length-take}

module _ {X : Type 0} (p : X → Bool) where
  -- a test that fails everywhere keeps nothing, and one that passes everywhere keeps all
  pub filter_none : (xs : List X) → All (λ x. p x ≡ false) xs → filter p xs ≡ []
  filter_none [] h = refl
  filter_none (x ∷ xs) h = rw (All-head (λ y. p y ≡ false) x xs h) (filter_none xs (All-tail (λ y. p y ≡ false) x xs h))

  pub filter_all : (xs : List X) → All (λ x. p x ≡ true) xs → filter p xs ≡ xs
  filter_all [] h = refl
  filter_all (x ∷ xs) h =
      rw (All-head (λ y. p y ≡ true) x xs h) (ap (λ l. x ∷ l) (filter_all xs (All-tail (λ y. p y ≡ true) x xs h)))

  -- if exactly those from `start` to `stop` pass, the slice between them is kept
  pub filter_within : (xs : List X) (start stop : ℕ) → start ≤ stop → stop ≤ length xs
      → AllWithin (λ x. p x ≡ false) xs 0 start → AllWithin (λ x. p x ≡ true) xs start stop
      → AllWithin (λ x. p x ≡ false) xs stop (length xs)
      → take (stop - start) (drop start xs) ≡ filter p xs
  filter_within xs start stop order within before inside after =
      let k = stop - start in
      let rest = drop start xs in
      let front = filter_none (take start xs) (λ i d lt.
      let near : i < start = omega (arith, length-take start xs) in
      ap p (get_or-take start xs i d near) ∙ before i d (omega arith) near) in
      let middle = filter_all (take k rest) (λ i d lt.
      let near : i < k = omega (arith, length-take k rest) in
      ap p (get_or-take k rest i d near ∙ get_or-drop start xs i d) ∙ inside (start + i) d (omega arith) (omega arith)) in
      let back = filter_none (drop k rest) (λ i d lt.
      ap p (get_or-drop k rest i d ∙ get_or-drop start xs (k + i) d)
      ∙ after (start + (k + i)) d (omega arith) (omega (arith, length-drop k rest, length-drop start xs))) in
      let halves = sym (filter-append p (take k rest) (drop k rest)) ∙ ap (filter p) (take-append-drop k rest) in
      let whole = sym (filter-append p (take start xs) rest) ∙ ap (filter p) (take-append-drop start xs) in
      rw (← whole, front, ← halves, middle, back) (sym (append-nil (take k rest)))

-- the elements from a key on are the slice from the first of them
pub slice_from_key : {X : Type 0} (n : X → ℕ) (xs : List X) (i start : ℕ) → start ≤ length xs
    → IsPartitionPoint (λ y. nat_lt (n y) i ≡ true) (λ y. nat_lt (n y) i ≡ false) xs start
    → take (length xs - start) (drop start xs) ≡ filter (λ y. nat_le i (n y)) xs
slice_from_key n xs i start within point = grind (arith, nat_tests, filter_within, lt-leb, ltb-true, le-leb, ltb-false)
