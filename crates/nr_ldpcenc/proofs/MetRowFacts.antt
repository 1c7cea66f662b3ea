-- Rows that a word meets, by the words of their sums.
use Rattle.std.proofs.Common.{◌≡◌, ℕ, suc, ◌*◌, ◌<◌, Bool, false, List, [], ◌∷◌}
use Rattle.std.proofs.Common.{All, refl, ap, arith}
use Rattle.std.proofs.lemmas.Bool.{lt-ltb}
use Rattle.nr_bitvec.specs.Bit.{◌⊕◌, bit}
use Rattle.nr_graphpick.specs.declared.Graph.{Graph}
use Rattle.nr_graphpick.specs.Graph.{cols_of}
use Rattle.nr_shifttable.specs.declared.entry.Entry.{Entry}
use Rattle.nr_shifttable.specs.Accepted.{IsInRange}
use Rattle.nr_shifttable.specs.Tails.{row_of, value_in}
use Rattle.nr_ldpcenc.specs.Parity.{parity}
use Rattle.nr_ldpcenc.specs.Rows.{one_at, positions}
use Rattle.nr_ldpcenc.specs.inside.Words.{row_at}
use Rattle.nr_ldpcenc.specs.inside.Solving.{Lifting, sum_before}
use Rattle.nr_ldpcenc.specs.inside.Words.{AgreeBelow}
use Rattle.nr_ldpcenc.proofs.RowSumFacts.{heads-agree}

-- a sum before a column past all of a row is the whole row's
sum-whole : (set z : ℕ) (w : ℕ → Bool) (n t : ℕ) (row : List Entry) → All (λ e. e.col < n) row
    → sum_before set z w n t row ≡ parity w (positions set z t row)
sum-whole set z w n t [] all = refl
sum-whole set z w n t (x ∷ xs) all =
    rw (lt-ltb x.col n (all 0 x (omega arith)))
    (ap (λ b. w (one_at z t x.col (value_in set x)) ⊕ b)
    (sum-whole set z w n t xs (λ k d lt. all (suc k) d (omega (arith, lt)))))

-- a row's sum over a word, by other bits that are the word's
pub row-sum : (g : Graph) (es : List Entry) (set z n i t : ℕ) (word : List Bool) (w : ℕ → Bool) (s : ℕ) (row : List Entry)
    → 0 < z → n ≡ cols_of g → s ≡ set → row ≡ row_of es i → All (IsInRange g) row
    → AgreeBelow (n * z) (bit word) w
    → parity (bit word) (row_at es set z i t) ≡ sum_before s z w n t row
row-sum g es set z n i t word w s row pos columns is_set is all same =
    let l : Lifting = record { entries = es; set = set; z = z; info_cols = n } in
    grind (arith, sum-whole, heads-agree l (bit word) w n i t pos same)

-- every row is met if each row of blocks is
abbrev pub AreMet : List Entry → ℕ → ℕ → ℕ → (ℕ → Bool) → Type 0
AreMet es set rows z w = (i t : ℕ) → i < rows → t < z → parity w (row_at es set z i t) ≡ false
