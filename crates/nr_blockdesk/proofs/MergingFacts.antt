-- What becomes of a code block's store and its peeler if all that is told is received at once.
use Rattle.nr_blockdesk.proofs.Common.{nat_tests, ◌≡◌, ℕ, ◌<◌, ◌==◌, ◌||◌, ◌&&◌, Bool, true, false, not}
use Rattle.nr_blockdesk.proofs.Common.{cond, List, ◌++◌, length, get_or, replicate, All, refl, sym, ap, subst, ◌∙◌, arith}
use Rattle.nr_blockdesk.proofs.Common.{Option, Some, None, beq, list_any, range_with_len, and_from, and_parts, cases_lt, eq-eqb}
use Rattle.nr_blockdesk.proofs.Common.{get_or-map-range_with_len, length-map-range_with_len, list_any_at, bit, same_from_bits}
use Rattle.nr_blockdesk.proofs.Common.{Marks, HeardBits, Hearing, first_at, heard_as, is_heard, record_of, Fits, IsNews, not-true}
use Rattle.nr_blockdesk.proofs.Common.{or_parts, get_or-replicate, get_or_past, length-replicate}
use Rattle.nr_harqbuf.specs.Marks.{AreMarks, RecordMerges, differs_at, first_merged, merge_of}
use Rattle.nr_harqbuf.proofs.RecordLaws.{beq_same}

-- what is told is within the lists
inside-long : (xs : List Bool) (p : ℕ) → bit xs p ≡ true → p < length xs
inside-long xs p is = grind (arith, nat_tests, cases_lt, get_or_past)

all-inside : (more : List Hearing) (m : Marks) → AreMarks more m → All (λ (h : Hearing). h.0 < length m.at) more
unfolding heard_as
all-inside more m are k d inside =
    let h : Hearing = get_or more k d in
    let part_masks : heard_as more h.0 h.1 ≡ true =
    list_any_at (λ (x : Hearing). (x.0 == h.0) && beq x.1 h.1) more k d inside
    (and_from (h.0 == h.0) (beq h.1 h.1) (eq-eqb h.0 h.0 refl) (beq_same h.1)) in
    inside-long m.at h.0 (and_parts (bit m.at h.0) (beq (bit m.bits h.0) h.1) (sym (are h.0 h.1) ∙ part_masks)).0

-- the record of the longer list
pub recorded-all : RecordMerges → (s t : HeardBits) (m : Marks) (more : List Hearing) → length m.at ≡ length s.first
    → t ≡ merge_of s m → AreMarks more m
    → (hs : List Hearing) → s ≡ record_of (length s.first) hs → t ≡ record_of (length s.first) (hs ++ more)
recorded-all merges s t m more long is are hs of =
    is ∙ ap (λ r. merge_of r m) of
    ∙ merges (length s.first) hs more m
    (subst (λ n. All (λ (h : Hearing). h.0 < n) more) long (all-inside more m are)) are

-- lists without marks
pub empty-all : (xs : List Bool) (n : ℕ) → length xs ≡ n → ((p : ℕ) → bit xs p ≡ false) → xs ≡ replicate n false
empty-all xs n long none = grind (arith, same_from_bits, length-replicate, get_or-replicate)

pub empty-bit : (xs : List Bool) (n p : ℕ) → xs ≡ replicate n false → bit xs p ≡ false
empty-bit xs n p is = grind (arith, nat_tests, cases_lt, get_or-replicate, get_or_past, length-replicate)

-- the bit of a position that had `old`, after `part_masks` was told there if `h` holds
abbrev joined : Option Bool → Bool → Bool → Option Bool
joined old h part_masks = cond (is_heard old) old (cond h (Some part_masks) None)

-- words against a record before and after all that is told was received
module _ (s : HeardBits) (m : Marks) (long : length m.at ≡ length s.first) where
  pub first-is : (p : ℕ) → first_at (merge_of s m) p ≡ joined (first_at s p) (bit m.at p) (bit m.bits p)
  unfolding merge_of
  first-is p = grind (arith, nat_tests, cases_lt, get_or-map-range_with_len, length-map-range_with_len, get_or_past)

  clash-is : (merge_of s m).clash ≡ (s.clash || list_any (differs_at s m) (range_with_len 0 (length s.first)))
  unfolding merge_of
  clash-is = refl

  pub long-is : length (merge_of s m).first ≡ length s.first
  unfolding merge_of
  long-is = length-map-range_with_len (first_merged s m) 0 (length s.first)

  first-old : (p : ℕ) (b : Bool) → first_at s p ≡ Some b → first_at (merge_of s m) p ≡ Some b
  first-old p b is = first-is p ∙ ap (λ o. joined o (bit m.at p) (bit m.bits p)) is

  first-new : (p : ℕ) → is_heard (first_at s p) ≡ false → bit m.at p ≡ true
      → first_at (merge_of s m) p ≡ Some (bit m.bits p)
  first-new p unheard part_masks = rw (first-is p, unheard, part_masks) refl

  pub fewer-merged : (w : ℕ → Bool) → Fits (merge_of s m) w → Fits s w
  fewer-merged w fits = (
    (or_parts s.clash (list_any (differs_at s m) (range_with_len 0 (length s.first))) (sym clash-is ∙ fits.0)).0,
    λ p b is. fits.1 p b (first-old p b is),
  )

  -- the marks of positions told for the first time
  pub marks : (p : ℕ) → is_heard (first_at (merge_of s m) p) ≡ (is_heard (first_at s p) || bit m.at p)
  marks p = grind (arith, first-is)

  -- the news is what the record has after it and lacked before
  pub news-merged : (fresh : List Bool) → ((p : ℕ) → bit fresh p ≡ (bit m.at p && not (is_heard (first_at s p))))
      → IsNews s (merge_of s m) fresh m.bits
  news-merged fresh are = grind (arith, marks, and_parts, first-new, not-true, first-old, long-is)
