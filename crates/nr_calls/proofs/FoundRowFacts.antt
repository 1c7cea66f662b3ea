-- What is found of each block, as rows: what one block more adds.
use Rattle.nr_calls.proofs.Common.{◌≡◌, ℕ, ◌+◌, ◌*◌, ◌-◌, ◌<◌, ◌≤◌, ◌++◌, ◌∷◌, []}
use Rattle.nr_calls.proofs.Common.{List, length, map, ap, sym, ◌∙◌, refl, arith, nat_tests, length-append, take_all}
use Rattle.nr_calls.proofs.Common.{take-append-le, get_or_append_left, map-range_with_len_more, range_with_len, Findings, Verdict}
use Rattle.nr_calls.proofs.Common.{open_still, nth_row, block_fits, get_or, true, take, drop}
use Rattle.nr_calls.proofs.{ManyFacts.filled-more, ManyFacts.row-inside, OutcomeListFacts.map-same}
use Rattle.nr_calls.specs.declared.findings.Room.{Room}
use Rattle.nr_calls.specs.inside.Words.{has_room, row_found, rows_found}
use Rattle.std.proofs.Math.Seq.{drop-append_seam, get_or-append_seam}
use Rattle.std.proofs.lemmas.Slice.{between_is}

-- rows of this size for each block, whose last outcomes fill theirs
pub record AreRows (each : Room) (os ls : List ℕ) (vs : List Verdict) : Type 0 where
  pub outcomes : length os ≡ length vs * each.outcomes
  pub left : length ls ≡ length vs * each.left
  pub filled : (j : ℕ) (d : Verdict) → j < length vs → block_fits each.block (get_or vs j d) ≡ true

-- there is no block yet
pub no-rows : (each : Room) (os ls : List ℕ) (vs : List Verdict) → os ≡ [] → ls ≡ [] → vs ≡ []
    → AreRows each os ls vs × (rows_found each os ls vs ≡ [])
no-rows each os ls vs o l v = rw (o, l, v) (
  record { outcomes = omega arith; left = omega arith; filled = λ j d below. absurd (omega (arith, below)) },
  refl,
)

-- what is added leaves a row as it was
row-kept : {X : Type 0} (s j n : ℕ) (xs ys : List X) → j < n → length xs ≡ n * s
    → nth_row s j (xs ++ ys) ≡ nth_row s j xs
row-kept s j n xs ys below long =
    let within : j * s + s ≤ length xs = row-inside s j n _ below long in
    between_is (xs ++ ys) (j * s) (j * s + s)
    ∙ ap (drop (j * s)) (take-append-le (j * s + s) xs ys within)
    ∙ sym (between_is xs (j * s) (j * s + s))

-- and is the next row
row-added : {X : Type 0} (s n : ℕ) (xs ys : List X) → length xs ≡ n * s → length ys ≡ s → nth_row s n (xs ++ ys) ≡ ys
row-added s n xs ys long own =
    ap (take (n * s + s - n * s)) (ap (λ m. drop m (xs ++ ys)) (sym long) ∙ drop-append_seam xs ys)
    ∙ take_all (n * s + s - n * s) ys (omega (arith, own))

module _ (each : Room) (os ls : List ℕ) (vs : List Verdict) (are : AreRows each os ls vs) (f : Findings)
    (fills : has_room each f ≡ true) where
  own-outcomes : length f.outcomes ≡ each.outcomes
  own-outcomes = grind (arith, nat_tests)

  own-left : length f.left ≡ each.left
  own-left = grind (arith, nat_tests)

  own-block : block_fits each.block f.last ≡ true
  own-block = grind (arith, nat_tests)

  next : length (vs ++ f.last ∷ []) ≡ length vs + 1
  next = length-append vs (f.last ∷ [])

  added : AreRows each (os ++ f.outcomes) (ls ++ f.left) (vs ++ f.last ∷ [])
  added = record {
    outcomes = rw next (length-append os f.outcomes ∙ omega (arith, are.outcomes, own-outcomes));
    left = rw next (length-append ls f.left ∙ omega (arith, are.left, own-left));
    filled = filled-more (λ v. block_fits each.block v ≡ true) vs f.last are.filled own-block;
  }

  found : rows_found each (os ++ f.outcomes) (ls ++ f.left) (vs ++ f.last ∷ []) ≡ rows_found each os ls vs ++ f ∷ []
  found =
      let n = length vs in
      let new = row_found each (os ++ f.outcomes) (ls ++ f.left) (vs ++ f.last ∷ []) in
      let old = row_found each os ls vs in
      let before : map new (range_with_len 0 n) ≡ map old (range_with_len 0 n) =
      map-same new old 0 n (λ k below. rw (
        row-kept each.outcomes k n os f.outcomes (omega (arith, below)) are.outcomes,
        row-kept each.left k n ls f.left (omega (arith, below)) are.left,
        get_or_append_left vs (f.last ∷ []) open_still k (omega (arith, below)),
      ) refl) in
      let last : new n ≡ f = rw (
        row-added each.outcomes n os f.outcomes are.outcomes own-outcomes,
        row-added each.left n ls f.left are.left own-left,
        get_or-append_seam vs f.last [] open_still,
      ) refl in
      ap (λ m. map new (range_with_len 0 m)) next ∙ map-range_with_len_more new 0 n n (omega arith)
      ∙ ap (λ xs. xs ++ new n ∷ []) before ∙ ap (λ x. map old (range_with_len 0 n) ++ x ∷ []) last

  -- one block more
  pub rows-more : (os' ls' : List ℕ) (vs' : List Verdict) → os' ≡ os ++ f.outcomes → ls' ≡ ls ++ f.left
      → vs' ≡ vs ++ f.last ∷ []
      → AreRows each os' ls' vs' × (rows_found each os' ls' vs' ≡ rows_found each os ls vs ++ f ∷ [])
  rows-more os' ls' vs' o l v = rw (o, l, v) (added, found)
