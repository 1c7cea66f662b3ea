-- Rows that are put into a list by its words; the last word is pending.
use Rattle.nr_interleave.proofs.Common.{◌≡◌, ℕ, ◌+◌, ◌-◌, ◌*◌, ◌/◌, ◌%◌, ◌^◌, ◌<◌, ◌≤◌}
use Rattle.nr_interleave.proofs.Common.{◌==◌, inl, inr, Bool, List, sym, ap, ◌∙◌, arith, bit_at, bit_or, cases_lt}
use Rattle.nr_interleave.proofs.Common.{bit_at_mod, bit_at_shl_high, bit_at_shl_low, bit_at_shr, bit, IsPut}
use Rattle.nr_interleave.specs.inside.Unspreading.{Follows}
use Rattle.std.proofs.lemmas.Nat.Bits.{bit_at_above, bit_at_or}

-- ---- a word after another one, which has `turn` bits

-- what is pending stays
pub pending-first : (pending word turn t : ℕ) → turn < 64 → t < turn
    → bit_at (bit_or pending (word * 2 ^ turn % 2 ^ 64)) t ≡ bit_at pending t
pending-first pending word turn t few below =
    let nothing : bit_at (word * 2 ^ turn % 2 ^ 64) t ≡ 0 = bit_at_mod (word * 2 ^ turn) 64 t (omega (arith, few, below))
    ∙ bit_at_shl_low word turn t below in
    omega (arith, bit_at_or pending (word * 2 ^ turn % 2 ^ 64) t, nothing)

-- and the word follows
pub word-then : (pending word turn t : ℕ) → turn + t < 64 → bit_at pending (turn + t) ≡ 0
    → bit_at (bit_or pending (word * 2 ^ turn % 2 ^ 64)) (turn + t) ≡ bit_at word t
word-then pending word turn t inside none =
    let back : turn + t - turn ≡ t = omega arith in
    let moved : bit_at (word * 2 ^ turn % 2 ^ 64) (turn + t) ≡ bit_at word t =
    bit_at_mod (word * 2 ^ turn) 64 (turn + t) inside ∙ bit_at_shl_high word turn (turn + t) (omega arith)
    ∙ ap (bit_at word) back in
    omega (arith, bit_at_or pending (word * 2 ^ turn % 2 ^ 64) (turn + t), none, moved)

-- the bits of it that are left
pub word-left : (word turn j : ℕ) → turn < 64 → bit_at (word / 2 ^ 1 / 2 ^ (63 - turn)) j ≡ bit_at word (64 - turn + j)
word-left word turn j few = bit_at_shr (word / 2 ^ 1) (63 - turn) j ∙ bit_at_shr word 1 (63 - turn + j)
    ∙ ap (bit_at word) (omega (arith, few))

pub word-left-none : (word turn j : ℕ) → word < 2 ^ 64 → turn < 64 → turn ≤ j
    → bit_at (word / 2 ^ 1 / 2 ^ (63 - turn)) j ≡ 0
word-left-none word turn j fits few past =
    word-left word turn j few ∙ bit_at_above word 64 (64 - turn + j) fits (omega (arith, past))

-- ---- a row

-- its cells stay if only others change
pub row-stays : (cell : ℕ → Bool) (start at pending : ℕ) (old new : List Bool) → IsPut cell start at pending old
    → ((p : ℕ) → start ≤ p → p < 64 * (at / 64) → bit new p ≡ bit old p) → IsPut cell start at pending new
row-stays cell start at pending old new is same = record {
  put = λ p from below. same p from below ∙ is.put p from below;
  waits = is.waits;
  none = is.none;
}

-- 64 cells follow
pub row-follows : (cell : ℕ → Bool) (start at next pending word waiting : ℕ) (old new : List Bool) → start ≤ at
    → next ≡ at + 64 → IsPut cell start at pending old → Follows old new at pending word waiting
    → ((k : ℕ) → k < 64 → (bit_at word k == 1) ≡ cell (at - start + k)) → IsPut cell start next waiting new
row-follows cell start at next pending word waiting old new behind then is follows reads = record {
  put = λ p from below. elim (cases_lt p (64 * (at / 64))) [
    | inl before ↦ follows.before p before ∙ is.put p from before
    | inr later ↦ elim (cases_lt p at) [
      | inl waited ↦
          let here : 64 * (at / 64) + (p - 64 * (at / 64)) ≡ p = omega (arith, later) in
          ap (bit new) (sym here) ∙ follows.first (p - 64 * (at / 64)) (omega (arith, waited, later))
          ∙ is.waits (p - 64 * (at / 64)) (omega (arith, from, here)) (omega (arith, waited, later))
          ∙ ap (λ n. cell (n - start)) here
      | inr past ↦
          let here : at + (p - at) ≡ p = omega (arith, past) in
          let place : at - start + (p - at) ≡ p - start = omega (arith, past, behind) in
          ap (bit new) (sym here) ∙ follows.then is.none (p - at) (omega (arith, below, past, then))
          ∙ reads (p - at) (omega (arith, below, past, then)) ∙ ap cell place
    ]
  ];
  waits = λ j from below.
      let place : at - start + (64 - at % 64 + j) ≡ 64 * (next / 64) + j - start = omega (arith, behind, then, below) in
      ap (λ b. b == 1) (follows.waits j (omega (arith, below, then))) ∙ reads (64 - at % 64 + j) (omega (arith, below, then))
      ∙ ap cell place;
  none = λ j past. follows.none j (omega (arith, past, then));
}
