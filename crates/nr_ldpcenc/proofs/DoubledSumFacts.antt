-- Sums over columns that are twice in a row.
use Rattle.nr_ldpcenc.proofs.Common.{◌≡◌, ℕ, ◌+◌, ◌-◌, ◌*◌, ◌%◌, ◌<◌, ◌≤◌, ◌==◌, Bool, List}
use Rattle.nr_ldpcenc.proofs.Common.{sym, ap, ◌∙◌, inl, inr, arith, cases_lt, mod_below, mod-eq_of_lt, bit, place, is_set}
use Rattle.nr_ldpcenc.{proofs.Common.col_bit, proofs.Common.AreTwice, proofs.Common.AgreeBelow, specs.inside.Doubled.IsTwice}
use Rattle.nr_ldpcenc.proofs.SolvedColumnFacts.{agree_more}
use Rattle.std.proofs.{Common.◌/◌, lemmas.Nat.div_below, lemmas.Nat.div-mul-add, lemmas.Nat.mod-mul-add}
use Rattle.nr_bitvec.proofs.NumberFacts.{mod_once}
use Rattle.nr_lifting.specs.Lane.{IsDoubled, KeepsOthers}

-- a bit of column c
pub col_at : (z : ℕ) (cols : List ℕ) (c u : ℕ) → u < z → col_bit z cols (c * z + u) ≡ is_set cols (768 * c + u)
col_at z cols c u lt = (λ i. is_set cols (768 * div-mul-add c z u lt i + mod-mul-add c z u lt i))

-- in a column that is there twice each rotation is in one piece
pub rotated_place : (z : ℕ) (cols : List ℕ) (c t p : ℕ) → IsTwice z c cols → t < z → p < z
    → is_set cols (64 * (12 * c) + p + t) ≡ is_set cols (768 * c + (t + p) % z)
rotated_place z cols c t p twice lt rotation = elim (cases_lt (t + p) z) [
  | inl before ↦
      let there : 64 * (12 * c) + p + t ≡ 768 * c + (t + p) = omega arith in
      ap (is_set cols) there ∙ ap (λ q. is_set cols (768 * c + q)) (sym (mod-eq_of_lt before))
  | inr past ↦
      let there : 64 * (12 * c) + p + t ≡ 768 * c + z + (t + p - z) = omega (arith, past) in
      ap (is_set cols) there ∙ twice (t + p - z) (omega (arith, lt, rotation, past))
      ∙ ap (λ q. is_set cols (768 * c + q)) (sym (mod_once (t + p) z past (omega (arith, lt, rotation))))
]

-- so a place gains a bit of the word
pub rotated_bit : (z : ℕ) (cols : List ℕ) (c t p v : ℕ) → IsTwice z c cols → t < z → p ≡ v % z → p < z
    → is_set cols (64 * (12 * c) + p + t) ≡ col_bit z cols (c * z + (t + v % z) % z)
rotated_bit z cols c t p v twice lt is rotation =
    let small : (t + v % z) % z < z = mod_below (t + v % z) z (omega (arith, lt)) in
    rotated_place z cols c t p twice lt rotation ∙ ap (λ q. is_set cols (768 * c + (t + q) % z)) is
    ∙ sym (col_at z cols c ((t + v % z) % z) small)

-- one more column is there twice
pub twice_more : (z w j : ℕ) (new old : List ℕ) (lane : List Bool) → z ≤ 64 * w → w ≤ 6 → AreTwice z j old
    → IsDoubled z (12 * j) new lane → KeepsOthers (12 * j) (12 * j + 2 * w) new old → AreTwice z (j + 1) new
twice_more z w j new old lane below most twice doubled others c t column lt = elim (cases_lt c j) [
  | inl h ↦ ap (λ n. n == 1) (others.before (768 * c + z + t) (omega (arith, h, lt, below, most))) ∙ twice c t h lt
      ∙ sym (ap (λ n. n == 1) (others.before (768 * c + t) (omega (arith, h, lt, below, most))))
  | inr h ↦
      let there : 768 * c + z + t ≡ 64 * (12 * j) + (z + t) = omega (arith, h, column) in
      let first : 768 * c + t ≡ 64 * (12 * j) + t = omega (arith, h, column) in
      ap (is_set new) there ∙ doubled (z + t) (omega (arith, lt))
      ∙ ap (bit lane) (mod_once (z + t) z (omega arith) (omega (arith, lt)) ∙ omega arith ∙ sym (mod-eq_of_lt lt))
      ∙ sym (ap (is_set new) first ∙ doubled t (omega (arith, lt)))
]

-- one more column has the bits of the word
pub column_put : (z w j : ℕ) (word lane : List Bool) (old new : List ℕ) → z ≤ 64 * w → w ≤ 6 → 0 < z
    → AgreeBelow (j * z) (bit word) (col_bit z old)
    → ((t : ℕ) → t < 768 * j → place new t ≡ place old t)
    → ((t : ℕ) → t < z → bit word (j * z + t) ≡ bit lane t)
    → ((t : ℕ) → t < z → is_set new (768 * j + t) ≡ bit lane t) → AgreeBelow ((j + 1) * z) (bit word) (col_bit z new)
column_put z w j word lane old new below most some same before read put =
    agree_more z j (bit word) (col_bit z new)
    (λ q lt.
    let column : q / z < j = div_below q z j some lt in
    let within : q % z < z = mod_below q z some in
    let inside : 768 * (q / z) + q % z < 768 * j = omega (arith, column, within, below, most) in
    same q lt ∙ sym (ap (λ n. n == 1) (before (768 * (q / z) + q % z) inside)))
    (λ u lt. read u lt ∙ sym (col_at z new j u lt ∙ put u lt))
