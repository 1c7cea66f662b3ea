-- The places of a code block's part of a transmission, of those that a round draws.
use Rattle.std.proofs.Common.{◌≡◌, ℕ, zero, suc, ◌+◌, ◌-◌, ◌<◌, ◌≤◌, ◌++◌, ◌∙◌, Bool, List}
use Rattle.std.proofs.Common.{length, ap, sym, refl, arith}
use Rattle.std.proofs.lemmas.List.{append_assoc, get_or-append-add, get_or_append_left}
use Rattle.std.proofs.Common.{map}
use Rattle.std.proofs.lemmas.List.{get_or-map}
use Rattle.std.specs.Prelude.{slice_index, slice_index_or}
use Rattle.nr_drawing.proofs.SideFacts.{none_drawn}
use Rattle.std.specs.List.{count_by, range_with_len}
use Rattle.rand_pcg.specs.Lcg.{Lcg, advance}
use Rattle.rand_pcg.specs.Pcg.{multiplier_64}
use Rattle.nr_bitvec.specs.Bit.{bit}
use Rattle.nr_drawing.specs.Drawing.{drawn_by, marks_drawn, places_drawn, seeded}
use Rattle.nr_drawing.proofs.DrawnWordFacts.{length-marks_drawn, marks-split}
use Rattle.nr_calls.proofs.PlaceCountFacts.{count-more}

-- the first places of those that are drawn
drawn-first : (seed threshold m n i : ℕ) → i < m
    → bit (places_drawn seed threshold (m + n)) i ≡ bit (places_drawn seed threshold m) i
drawn-first seed threshold m n i lt =
    ap (λ (l : List Bool). bit l i) (marks-split threshold m n (seeded seed))
    ∙ get_or_append_left (marks_drawn threshold m (seeded seed))
    (marks_drawn threshold n (advance 64 multiplier_64 m (seeded seed))) _ i
    (omega (arith, lt, length-marks_drawn threshold m (seeded seed)))

-- as many places pass one test from 0 on as another from `from` on
shifted-count : (f g : ℕ → Bool) (from n : ℕ) → ((m : ℕ) → m < n → f m ≡ g (from + m))
    → count_by f (range_with_len 0 n) ≡ count_by g (range_with_len from n)
shifted-count f g from zero same = refl
shifted-count f g from (suc n) same = grind (
  arith,
  count-more f 0 n,
  count-more g from n,
  shifted-count f g from n (λ m lt. same m (omega (arith, lt))),
  same n (omega arith),
)

-- generators that go on after `from` places
abbrev pub GoesOn : ℕ → ℕ → ℕ → List Lcg → ℕ → Type 0
GoesOn seed threshold from generators j = (n : ℕ) → places_drawn seed threshold (from + n)
    ≡ places_drawn seed threshold from ++ drawn_by generators threshold n j

-- generators that begin with the seeds
pub goes-first : (seeds : List ℕ) (generators : List Lcg) (threshold j : ℕ) → generators ≡ map seeded seeds
    → j < length seeds
    → GoesOn (slice_index seeds j) threshold 0 generators j
goes-first seeds generators threshold j are inside n =
    let own : slice_index_or generators j (seeded 0) ≡ seeded (slice_index seeds j) =
    ap (λ (l : List Lcg). slice_index_or l j (seeded 0)) are ∙ get_or-map seeded seeds j 0 (seeded 0) inside in
    rw own (none_drawn threshold n (seeded (slice_index seeds j)))

module _ (seed threshold from e g j : ℕ) (generators : List Lcg) (goes : GoesOn seed threshold from generators j)
    (fits : from + e ≤ g) where
  -- the part has its own places
  pub part-drawn : (m : ℕ) → m < e
      → bit (places_drawn seed threshold g) (from + m) ≡ bit (drawn_by generators threshold e j) m
  part-drawn m lt =
      let rest : from + e + (g - (from + e)) ≡ g = omega (arith, fits) in
      let long = length-marks_drawn threshold from (seeded seed) in
      ap (λ n. bit (places_drawn seed threshold n) (from + m)) (sym rest)
      ∙ drawn-first seed threshold (from + e) (g - (from + e)) (from + m) (omega (arith, lt))
      ∙ ap (λ (l : List Bool). bit l (from + m)) (goes e)
      ∙ ap (λ n. bit (places_drawn seed threshold from ++ drawn_by generators threshold e j) (n + m)) (sym long)
      ∙ get_or-append-add (places_drawn seed threshold from) (drawn_by generators threshold e j) m _

  pub part-counted : count_by (bit (drawn_by generators threshold e j)) (range_with_len 0 e)
      ≡ count_by (bit (places_drawn seed threshold g)) (range_with_len from e)
  part-counted = shifted-count (bit (drawn_by generators threshold e j)) (bit (places_drawn seed threshold g)) from e
      (λ m lt. sym (part-drawn m lt))

  pub part-next : (next : List Lcg) → ((n : ℕ) → drawn_by generators threshold (e + n) j
      ≡ drawn_by generators threshold e j ++ drawn_by next threshold n j) → GoesOn seed threshold (from + e) next j
  part-next next more n =
      let e-n : from + e + n ≡ from + (e + n) = omega arith in
      ap (places_drawn seed threshold) e-n ∙ goes (e + n)
      ∙ ap (λ (l : List Bool). places_drawn seed threshold from ++ l) (more n)
      ∙ sym (append_assoc (places_drawn seed threshold from) (drawn_by generators threshold e j) (drawn_by next threshold n j))
      ∙ ap (λ (l : List Bool). l ++ drawn_by next threshold n j) (sym (goes e))
