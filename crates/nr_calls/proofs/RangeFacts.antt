-- Lists of numbers from one on, with one more number.
use Rattle.nr_calls.proofs.Common.{◌≡◌, ℕ, ◌+◌, Bool, true, ◌&&◌, [], ◌∷◌, ap, ◌∙◌, arith, list_all}
use Rattle.nr_calls.proofs.Common.{range_with_len, range_with_len-add}
use Rattle.std.proofs.lemmas.List.Folds.{list_all-append}

one : (so_far last : Bool) → (so_far && (last && true)) ≡ (so_far && last)
one so_far last = grind arith

pub all-more : (p : ℕ → Bool) (n : ℕ) → list_all p (range_with_len 0 (n + 1)) ≡ (list_all p (range_with_len 0 n) && p n)
all-more p n =
    let e : 0 + n ≡ n = omega arith in
    ap (list_all p) (range_with_len-add 0 n 1) ∙ list_all-append p (range_with_len 0 n) ((0 + n) ∷ [])
    ∙ rw e (one (list_all p (range_with_len 0 n)) (p n))
