-- Tests of each number of a range, and of each thing that some of them give.
use Rattle.nr_blockdesk.proofs.Common.{◌≡◌, ℕ, ◌+◌, ◌-◌, ◌<◌, ◌≤◌, Bool, true, List, [], ◌∷◌}
use Rattle.nr_blockdesk.proofs.Common.{flat_map, refl, sym, ap, ◌∙◌, arith, Option, Some, None, list_all, filter_map}
use Rattle.nr_blockdesk.proofs.Common.{range_with_len, list_all-append, get_or-range_with_len, length-range_with_len}
use Rattle.nr_blockdesk.proofs.Common.{AllPass-from_list_all, list_all-from_AllPass}

-- a thing passes a test, if there is one
abbrev pub holds_if : {X : Type 0} → (X → Bool) → Option X → Bool
holds_if p None = true
holds_if p (Some x) = p x

pub range_all : (p : ℕ → Bool) (a n : ℕ) → ((m : ℕ) → a ≤ m → m < a + n → p m ≡ true)
    → list_all p (range_with_len a n) ≡ true
range_all p a n each = grind (arith, list_all-from_AllPass, length-range_with_len, get_or-range_with_len)

pub range_each : (p : ℕ → Bool) (a n : ℕ) → list_all p (range_with_len a n) ≡ true → (m : ℕ) → a ≤ m → m < a + n
    → p m ≡ true
range_each p a n all m low high =
    let inside : m - a < n = omega (arith, low, high) in
    let at : a + (m - a) ≡ m = omega (arith, low) in
    ap p (sym (get_or-range_with_len a n (m - a) 0 inside ∙ at))
    ∙ AllPass-from_list_all p (range_with_len a n) all (m - a) 0 (omega (arith, length-range_with_len a n, inside))

-- all things that the numbers give pass a test if those of each number do
pub given_all : {X : Type 0} (f : ℕ → Option X) (p : X → Bool) (ns : List ℕ)
    → list_all p (filter_map f ns) ≡ list_all (λ m. holds_if p (f m)) ns
given_all f p [] = refl
given_all f p (n ∷ ns) = grind (arith, given_all f p ns)

pub flat_all : {X Y : Type 0} (f : X → List Y) (p : Y → Bool) (xs : List X)
    → list_all p (flat_map f xs) ≡ list_all (λ x. list_all p (f x)) xs
flat_all f p [] = refl
flat_all f p (x ∷ xs) = grind (arith, list_all-append, flat_all f p xs)
