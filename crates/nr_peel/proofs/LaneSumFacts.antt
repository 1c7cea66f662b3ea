-- Sums of rows, by lanes.
use Rattle.nr_peel.proofs.Common.{◌≡◌, ℕ, ◌+◌, ◌<◌, Bool, List, [], ◌∷◌, ◌++◌, length, get_or, map, take}
use Rattle.nr_peel.proofs.Common.{arith, get_or-map, length-map, take_more, ◌⊕◌, Entry, value_in, parity, one_at, positions}

parity-push : (w : ℕ → Bool) (ps : List ℕ) (p : ℕ) → parity w (ps ++ p ∷ []) ≡ parity w ps ⊕ w p
parity-push w [] p = grind arith
parity-push w (q ∷ ps) p = grind (arith, parity-push w ps p)

-- one more entry
pub summed_more : (B : ℕ → Bool) (set z t n : ℕ) (row : List Entry) (none : Entry) → n < length row
    → parity B (take (n + 1) (positions set z t row)) ≡ parity B (take n (positions set z t row))
    ⊕ B (one_at z t (get_or row n none).col (value_in set (get_or row n none)))
summed_more B set z t n row none within =
    let f = λ (e : Entry). one_at z t e.col (value_in set e) in
    grind (arith, take_more (map f row) n 0, parity-push B (take n (map f row)), get_or-map f row n none 0, length-map row f)
