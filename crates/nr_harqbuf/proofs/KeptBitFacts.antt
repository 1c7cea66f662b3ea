-- What marks keep: the bit of a position, one more bit, and a record.
use Rattle.nr_harqbuf.proofs.Common.{nat_tests, ◌≡◌, ℕ, ◌<◌, ◌||◌, Bool, true, false, not, cond, List, [], length}
use Rattle.nr_harqbuf.proofs.Common.{get_or, set, refl, ap, ◌∙◌, ⊎_elim, arith, Option, Some, None, map, beq}
use Rattle.nr_harqbuf.proofs.Common.{range_with_len, cases_eq, cases_lt, get_or-set_same, get_or-set_other, get_or_past, length-set}
use Rattle.nr_harqbuf.proofs.Common.{fill_by_all, get_or-map-range_with_len, length-map-range_with_len, or-false, bit, Marks}
use Rattle.nr_harqbuf.proofs.Common.{marked_bit, marks_with, marked_bits, record_by, HasFirsts, HeardBits, first_at, first_heard}
use Rattle.nr_harqbuf.proofs.Common.{with_hearing, record_of, clashes}
use Rattle.nr_harqbuf.specs.Marks.{IsKeptBy, KeptAgain}
use Rattle.std.proofs.{Common.replicate, lemmas.List.ext_get_or, lemmas.List.length-replicate, lemmas.List.get_or-replicate}

pub length-kept : (heard value : List Bool) → length (marked_bits (marks_with heard value)) ≡ length heard
length-kept heard value = length-map-range_with_len (marked_bit (marks_with heard value)) 0 (length heard)

-- what is kept at a position
pub kept-at : (heard value : List Bool) (p : ℕ)
    → get_or (marked_bits (marks_with heard value)) p None ≡ marked_bit (marks_with heard value) p
kept-at heard value p = grind (arith, nat_tests, cases_lt, get_or-map-range_with_len, get_or_past, length-kept)

-- a word has the first bits if it has the bit of each mark
pub firsts-by-marks : (m : Marks) (clash : Bool) (w : ℕ → Bool) → ((p : ℕ) → bit m.at p ≡ true → w p ≡ bit m.bits p)
    → HasFirsts (record_by m clash) w
firsts-by-marks m clash w are p b first = grind (arith, kept-at m.at m.bits p)

pub marks-by-firsts : (m : Marks) (clash : Bool) (w : ℕ → Bool) → HasFirsts (record_by m clash) w → (p : ℕ)
    → bit m.at p ≡ true → w p ≡ bit m.bits p
marks-by-firsts m clash w has p e =
    has p (bit m.bits p) (kept-at m.at m.bits p ∙ ap (λ h. cond h (Some (bit m.bits p)) None) e)

-- a bit is kept at a position that had none
pub kept-set : (heard value : List Bool) (p : ℕ) (b : Bool) → p < length heard → length value ≡ length heard
    → marked_bits (marks_with (set heard p true) (set value p b)) ≡ set (marked_bits (marks_with heard value)) p (Some b)
kept-set heard value p b lt same =
    ext_get_or None new (set old p (Some b)) long (λ k _. ⊎_elim (here k) (there k) (cases_eq k p))
  where
    old : List (Option Bool)
    old = marked_bits (marks_with heard value)

    new : List (Option Bool)
    new = marked_bits (marks_with (set heard p true) (set value p b))

    long : length new ≡ length (set old p (Some b))
    long = rw (length-kept (set heard p true) (set value p b), length-set, length-set, length-kept heard value) refl

    here : (k : ℕ) → k ≡ p → get_or new k None ≡ get_or (set old p (Some b)) k None
    here k e = grind (arith, kept-at, get_or-set_same, length-kept)

    there : (k : ℕ) → (k ≡ p → ⊥) → get_or new k None ≡ get_or (set old p (Some b)) k None
    there k other = grind (arith, kept-at, get_or-set_other)

-- nothing is kept yet
pub kept-none : (n : ℕ)
    → marked_bits (marks_with (replicate n false) (replicate n false)) ≡ map (first_heard []) (range_with_len 0 n)
unfolding first_heard
kept-none n = fill_by_all (first_heard []) (marked_bits (marks_with (replicate n false) (replicate n false))) n None
    (length-kept (replicate n false) (replicate n false) ∙ length-replicate n false)
    (λ k lt. rw (kept-at (replicate n false) (replicate n false) k, get_or-replicate n k false false lt) refl)

-- a position is heard again, or for the first time
pub heard_again : (heard value : List Bool) (clash : Bool) (p : ℕ) (b : Bool) → bit heard p ≡ true
    → record_by (marks_with heard value) (clash || not (beq (bit value p) b))
    ≡ with_hearing (record_by (marks_with heard value) clash) (p, b)
unfolding with_hearing
heard_again heard value clash p b h = grind (arith, kept-at)

pub heard_first : (heard value : List Bool) (clash : Bool) (p : ℕ) (b : Bool) → p < length heard
    → length value ≡ length heard → bit heard p ≡ false
    → record_by (marks_with (set heard p true) (set value p b)) clash
    ≡ with_hearing (record_by (marks_with heard value) clash) (p, b)
unfolding with_hearing
heard_first heard value clash p b lt same h = grind (arith, kept-at, kept-set, or-false)

pub record-none : (n : ℕ) → record_by (marks_with (replicate n false) (replicate n false)) false ≡ record_of n []
unfolding clashes
record-none n = ap (λ l. record { first = l; clash = false }) (kept-none n)

-- marks that keep a record make it again
kept-one : (s : HeardBits) (m : Marks) → IsKeptBy s m → (p : ℕ) → marked_bit m p ≡ first_at s p
kept-one s m kept p = go (first_at s p) refl
  where
    go : (o : Option Bool) → first_at s p ≡ o → marked_bit m p ≡ first_at s p
    go None e = rw (kept.marks p, e) refl
    go (Some b) e = rw (kept.marks p, e, kept.bits p b e) refl

pub kept-again : KeptAgain
kept-again s m kept =
    ap (λ (l : List (Option Bool)). record { first = l; clash = s.clash })
    (ext_get_or None (marked_bits m) s.first (length-kept m.at m.bits ∙ kept.long)
    (λ p _. kept-at m.at m.bits p ∙ kept-one s m kept p))
