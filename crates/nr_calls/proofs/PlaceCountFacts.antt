-- How many places of each code block are marked.
use Rattle.nr_calls.proofs.Common.{◌≡◌, ℕ, ◌+◌, ◌<◌, ◌≤◌, Bool, true, false, List, [], ◌∷◌, ◌++◌}
use Rattle.nr_calls.proofs.Common.{get_or, length, map, take, refl, sym, ap, ◌∙◌, arith, append_assoc, take_more}
use Rattle.nr_calls.proofs.Common.{map-range_with_len_more, count_by, range_with_len, sum, range_with_len-add}
use Rattle.std.proofs.{Common.cond, lemmas.List.Sums.sum_by-append, lemmas.List.Sums.sum_by-take-le}
use Rattle.std.specs.Int.{from_bool}

-- one more place
as-number : (b : Bool) → from_bool b ≡ 0 + cond b 1 0
as-number true = refl
as-number false = refl

pub count-more : (p : ℕ → Bool) (a n : ℕ)
    → count_by p (range_with_len a (n + 1)) ≡ count_by p (range_with_len a n) + from_bool (p (a + n))
count-more p a n =
    ap (count_by p) (range_with_len-add a n 1) ∙ sum_by-append (λ k. cond (p k) 1 0) (range_with_len a n) ((a + n) ∷ [])
    ∙ ap (λ k. count_by p (range_with_len a n) + k) (sym (as-number (p (a + n))))

-- the places of a code block follow those of the one before it
pub sum-more : (shares : List ℕ) (r : ℕ) → r < length shares
    → sum (take (r + 1) shares) ≡ sum (take r shares) + get_or shares r 0
sum-more shares r inside =
    let e : 0 + get_or shares r 0 ≡ get_or shares r 0 = omega arith in
    ap sum (take_more shares r 0 inside) ∙ sum_by-append (λ x. x) (take r shares) (get_or shares r 0 ∷ [])
    ∙ ap (λ k. sum (take r shares) + k) e

pub sum-most : (shares : List ℕ) (r : ℕ) → sum (take r shares) ≤ sum shares
sum-most shares r = sum_by-take-le (λ x. x) shares r

-- one more entry of a list of numbers
pub entry-more : (f : ℕ → ℕ) (r v : ℕ) (before items new : List ℕ) → new ≡ items ++ v ∷ []
    → items ≡ before ++ map f (range_with_len 0 r) → v ≡ f r
    → new ≡ before ++ map f (range_with_len 0 (r + 1))
entry-more f r v before items new pushed so_far is =
    pushed ∙ rw (so_far, is) (append_assoc before (map f (range_with_len 0 r)) (f r ∷ []))
    ∙ ap (λ (l : List ℕ). before ++ l) (sym (map-range_with_len_more f 0 r r (omega arith)))
