-- Lists of one value, and ranges of numbers.
use Rattle.nr_bitvec.proofs.Common.{◌≡◌, ℕ, zero, suc, ◌+◌, ◌++◌, ◌∷◌, get_or, replicate, ap, ◌∙◌}
use Rattle.nr_bitvec.proofs.Common.{arith, nat_tests, cases_lt, get_or_past, get_or-replicate, length-replicate}
use Rattle.std.specs.List.{range_with_len}

-- an element of a list of one value, past the end too
pub get_or-replicate_same : {X : Type 0} (n p : ℕ) (x : X) → get_or (replicate n x) p x ≡ x
get_or-replicate_same {X} n p x = grind (arith, nat_tests, cases_lt, get_or-replicate, get_or_past, length-replicate)

-- a range in two parts
pub range_with_len-add : (a m n : ℕ) → range_with_len a (m + n) ≡ range_with_len a m ++ range_with_len (a + m) n
range_with_len-add a zero n = grind arith
range_with_len-add a (suc m) n =
    let longer : suc m + n ≡ suc (m + n) = omega arith in
    let next : a + 1 + m ≡ a + suc m = omega arith in
    ap (range_with_len a) longer
    ∙ ap (λ xs. a ∷ xs) (range_with_len-add (a + 1) m n ∙ ap (λ b. range_with_len (a + 1) m ++ range_with_len b n) next)
