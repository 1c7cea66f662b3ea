-- Rounds side by side.
use Rattle.nr_calls.proofs.Common.{◌≡◌, ◌+◌, ◌<◌, ◌≤◌, ◌==◌, ◌∙◌, ◌++◌, ◌∷◌, [], ℕ, Bool}
use Rattle.nr_calls.proofs.Common.{List, length, inl, inr, arith, ap, sym, ◌*◌, add-one, append_assoc, get_or, replicate}
use Rattle.nr_calls.proofs.Common.{slice_index, subst, get_or-replicate_same, mul-le-mul_right, suc-mul, map-append}
use Rattle.nr_calls.proofs.Common.{get_or-append_right, bit_at, cols_of, info_cols_of, Graph, One, Two, filler, slice, column}
use Rattle.nr_calls.proofs.Common.{replicate-append-replicate, take_more, cases_lt, nat_tests, get_or_append_left}
use Rattle.std.proofs.{Math.Seq.get_or-append_seam, lemmas.List.get_or_past, lemmas.Nat.Bits.bit_at-zero}

-- one more word
pub word-more : (f : ℕ → Bool) (words new : List ℕ) (n w j : ℕ) → length words ≡ n → new ≡ words ++ w ∷ []
    → (bit_at w j == 1) ≡ f n → ((q : ℕ) → q < n → slice words j q ≡ f q) → (p : ℕ) → p < n + 1
    → slice new j p ≡ f p
word-more f words new n w j long is here before p lt = elim (cases_lt p n) [
  | inl below ↦ ap (λ (l : List ℕ). slice l j p) is
      ∙ ap (λ x. bit_at x j == 1) (get_or_append_left words (w ∷ []) 0 p (omega (arith, below, long))) ∙ before p below
  | inr past ↦
      let e : p ≡ n = omega (arith, lt, past) in
      ap (λ (l : List ℕ). slice l j p) is ∙ grind (arith, get_or-append_right, here)
]

-- no word is past the last
pub fillers-past : (kdash k n j p : ℕ) (words : List ℕ) → length words ≡ n → k ≤ n → n ≤ p
    → slice words j p ≡ filler kdash k p
fillers-past kdash k n j p words long few past = grind (arith, nat_tests, get_or_past, bit_at-zero)

pub info_cols-few : (g : Graph) → info_cols_of g ≤ cols_of g
info_cols-few One = omega arith
info_cols-few Two = omega arith

-- the seed of a round's transmission is among those of the rounds
pub seat_fits : (j k t count : ℕ) → j < count → k < t → j * t + k < count * t
seat_fits j k t count below inside =
    let more : (j + 1) * t ≤ count * t = mul-le-mul_right t (omega (arith, below)) in
    let e : (j + 1) * t ≡ j * t + t = ap (λ n. n * t) (add-one j) ∙ suc-mul j t in
    omega (arith, more, e, inside)

-- one more row
pub column_more : (rows : List (List ℕ)) (row : List ℕ) (j : ℕ)
    → column (rows ++ row ∷ []) j ≡ column rows j ++ slice_index row j ∷ []
column_more rows row j = map-append (λ (r : List ℕ). slice_index r j) rows (row ∷ [])

pub ruleset column_rules = (column_more, take_more, append_assoc)

-- one more row of zeros
pub zeros_more : (old rows new : List (List ℕ)) (n j : ℕ) → new ≡ rows ++ replicate 64 0 ∷ []
    → column rows j ≡ column old j ++ replicate n 0 → column new j ≡ column old j ++ replicate (n + 1) 0
zeros_more old rows new n j is before =
    ap (λ (l : List (List ℕ)). column l j) is ∙ column_more rows (replicate 64 0) j
    ∙ (λ i. before i ++ get_or-replicate_same 64 j 0 i ∷ [])
    ∙ append_assoc (column old j) (replicate n 0) (0 ∷ [])
    ∙ ap (λ (l : List ℕ). column old j ++ l) (replicate-append-replicate n 1 0)

-- what is true of each of some things is true with one more
pub each-more : {X : Type 0} (P : X → Type 0) (xs new : List X) (n : ℕ) (x d : X) → length xs ≡ n → new ≡ xs ++ x ∷ []
    → P x → ((r : ℕ) → r < n → P (get_or xs r d)) → (r : ℕ) → r < n + 1 → P (get_or new r d)
each-more P xs new n x d long is here before r lt = elim (cases_lt r n) [
  | inl below ↦
      subst P (sym (ap (λ l. get_or l r d) is ∙ get_or_append_left xs (x ∷ []) d r (omega (arith, below, long))))
      (before r below)
  | inr past ↦
      let e : n ≡ r = omega (arith, lt, past) in
      subst (λ k. P (get_or new k d)) e
      (subst P (sym (ap (λ l. get_or l n d) is ∙ ap (λ k. get_or (xs ++ x ∷ []) k d) (sym long)
      ∙ get_or-append_seam xs x [] d)) here)
]
