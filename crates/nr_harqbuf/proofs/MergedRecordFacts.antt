-- The record of a list of hearings, merged with the marks of more of them, is the record of all.
use Rattle.nr_harqbuf.proofs.Common.{◌≡◌, ℕ, ◌<◌, ◌||◌, Bool, true, cond, List, ◌++◌, refl, sym, ap, ◌∙◌}
use Rattle.nr_harqbuf.proofs.Common.{false_from_ne_true, and_parts, and_from, same_from_decides, Any-from_list_any, list_any-append}
use Rattle.nr_harqbuf.proofs.Common.{list_any_at, All-contains, fill_by_all, get_or-map-range_with_len, length-map-range_with_len}
use Rattle.nr_harqbuf.proofs.Common.{length-range_with_len, get_or-range_with_len, bit, Marks, marked_bit, first_merged, differs_at}
use Rattle.nr_harqbuf.proofs.Common.{merge_of, Hearing, first_at, first_heard, is_heard, differs, record_of, clashes}
use Rattle.nr_harqbuf.proofs.Common.{arith, Option, Some, None, All, map, beq, Contains, list_any, range_with_len}
use Rattle.nr_harqbuf.{specs.Marks.AreMarks, specs.Marks.RecordMerges, proofs.MergedListFacts.in_range}
use Rattle.nr_harqbuf.proofs.RecordLaws.{record_of-at, first_heard-append, beq_true, beq_same, passes_at, heard_there, heard_here}
use Rattle.nr_harqbuf.proofs.RecordLaws.{first_is_heard, first_there, some_differs, clashes-differs, differs-before}

-- a marked position was heard, with the bit of the marks
marked : (more : List Hearing) (m : Marks) → AreMarks more m → (p : ℕ) → bit m.at p ≡ true
    → Contains more (p, bit m.bits p)
marked more m are p h = grind (arith, heard_there, and_from, beq_same)

-- the marks keep the bit that was heard first, since no position was heard with both bits
mark-first : (more : List Hearing) (m : Marks) → AreMarks more m → (p : ℕ)
    → marked_bit m p ≡ first_heard more p
mark-first more m are p = go (first_heard more p) refl
  where
    go : (o : Option Bool) → first_heard more p ≡ o → marked_bit m p ≡ o
    go (Some a) e =
        let parts = and_parts (bit m.at p) (beq (bit m.bits p) a) (sym (are p a) ∙ first_is_heard more p a e) in
        rw (parts.0, beq_true (bit m.bits p) a parts.1) refl
    go None e = ap (λ t. cond t (Some (bit m.bits p)) None)
        (false_from_ne_true (bit m.at p)
        (λ h. cc (e, (first_there more (p, bit m.bits p) (marked more m are p h)).is)))

-- the first bit of all
merged-first : (n : ℕ) (hs more : List Hearing) (m : Marks) → AreMarks more m → (p : ℕ)
    → p < n → first_merged (record_of n hs) m p ≡ first_heard (hs ++ more) p
merged-first n hs more m are p lt =
    rw (record_of-at n hs p lt, mark-first more m are p, first_heard-append hs more p) refl

-- a marked bit differs from the first one of all if it does from that of the record
differs-marked : (n : ℕ) (hs more : List Hearing) (m : Marks) → AreMarks more m
    → (p : ℕ) (b : Bool) → p < n → bit m.at p ≡ true → bit m.bits p ≡ b
    → differs_at (record_of n hs) m p ≡ differs (first_heard (hs ++ more) p) b
differs-marked n hs more m are p b lt marked is =
    rw (marked, is, ← merged-first n hs more m are p lt) (own (first_at (record_of n hs) p))
  where
    own : (o : Option Bool) → differs o b ≡ differs (cond (is_heard o) o (cond (bit m.at p) (Some (bit m.bits p)) None)) b
    own o = grind (arith, marked, beq_same)

-- some marked bit differs if some hearing does
differs-masked : (n : ℕ) (hs more : List Hearing) (m : Marks) → All (λ h. h.0 < n) more
    → AreMarks more m
    → list_any (differs_at (record_of n hs) m) (range_with_len 0 n) ≡ some_differs (hs ++ more) more
differs-masked n hs more m inside are =
    same_from_decides {P = some_differs (hs ++ more) more ≡ true} _ _ (up, down) (λ e. e, λ e. e)
  where
    up : list_any (differs_at (record_of n hs) m) (range_with_len 0 n) ≡ true
        → some_differs (hs ++ more) more ≡ true
    up h =
        let it = Any-from_list_any (differs_at (record_of n hs) m) (range_with_len 0 n) h in
        let p : ℕ = it.1 in
        let low : it.0 < n = omega (arith, it.2, length-range_with_len 0 n) in
        let lt : p < n = omega (arith, low, get_or-range_with_len 0 n it.0 p low, it.3) in
        let set-is : bit m.at p ≡ true =
        (and_parts (bit m.at p) (differs (first_at (record_of n hs) p) (bit m.bits p)) it.4).0 in
        passes_at (λ (h : Hearing). differs (first_heard (hs ++ more) h.0) h.1) more (p, bit m.bits p)
        (marked more m are p set-is)
        (sym (differs-marked n hs more m are p (bit m.bits p) lt set-is refl) ∙ it.4)

    down : some_differs (hs ++ more) more ≡ true
        → list_any (differs_at (record_of n hs) m) (range_with_len 0 n) ≡ true
    down h =
        let it = Any-from_list_any (λ (x : Hearing). differs (first_heard (hs ++ more) x.0) x.1) more h in
        let x : Hearing = it.1 in
        let has : Contains more x = (it.0, it.2, it.3) in
        let lt : x.0 < n = All-contains (λ (h : Hearing). h.0 < n) more x inside has in
        let parts = and_parts (bit m.at x.0) (beq (bit m.bits x.0) x.1) (sym (are x.0 x.1) ∙ heard_here more x has) in
        list_any_at (differs_at (record_of n hs) m) (range_with_len 0 n) x.0 0
        (omega (arith, lt, length-range_with_len 0 n))
        (ap (differs_at (record_of n hs) m) (in_range n x.0 0 lt)
        ∙ differs-marked n hs more m are x.0 x.1 lt parts.0 (beq_true (bit m.bits x.0) x.1 parts.1) ∙ it.4)

pub record-merges : RecordMerges
unfolding merge_of
record-merges n hs more m inside are = rw (length-map-range_with_len (first_heard hs) 0 n, firsts, clash) refl
  where
    firsts : map (first_merged (record_of n hs) m) (range_with_len 0 n)
        ≡ map (first_heard (hs ++ more)) (range_with_len 0 n)
    firsts = fill_by_all (first_heard (hs ++ more)) (map (first_merged (record_of n hs) m) (range_with_len 0 n)) n None
        (length-map-range_with_len (first_merged (record_of n hs) m) 0 n)
        (λ p lt. get_or-map-range_with_len (first_merged (record_of n hs) m) 0 n p p None lt (omega arith)
        ∙ merged-first n hs more m are p lt)

    clash : (clashes hs || list_any (differs_at (record_of n hs) m) (range_with_len 0 n)) ≡ clashes (hs ++ more)
    clash = grind (arith, clashes-differs, differs-before, differs-masked, list_any-append)
