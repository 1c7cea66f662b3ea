-- How two lists, of the positions told zero and of those told one, are settled place by place, and what becomes of a record if
-- the first bits are received at once.
use Rattle.nr_blockdesk.proofs.Common.{nat_tests, ◌≡◌, ℕ, ◌+◌, ◌*◌, ◌<◌, ◌≤◌, ◌==◌, ◌||◌}
use Rattle.nr_blockdesk.proofs.Common.{◌&&◌, Bool, true, false}
use Rattle.nr_blockdesk.proofs.Common.{not, cond, beq, inl, inr, zero, suc, refl, ap, sym, ◌∙◌, arith, cases_eq, List}
use Rattle.nr_blockdesk.proofs.Common.{◌++◌, length, Option, Some, None, bit, Hearing, HeardBits, heard_as, first_at, is_heard}
use Rattle.nr_blockdesk.proofs.Common.{first_heard, heard_at, heard_bit, Marks, Circular, Tx, Heard, place_of, seat_of}
use Rattle.nr_blockdesk.proofs.Common.{part_hearings}
use Rattle.nr_blockdesk.proofs.Common.{says, cols_of, and_parts, eq-eqb, record_of, record_of-at, with_hearing, map, range_with_len}
use Rattle.nr_blockdesk.proofs.Common.{fill_by_all, get_or, get_or-map-range_with_len, length-map-range_with_len, list_any-append}
use Rattle.nr_blockdesk.specs.inside.{PartMasks.is_listed, PartMasks.is_listed_both, Receiving.AreSettled}
use Rattle.nr_blockdesk.proofs.HearingFacts.{clash-more, first-kept, part-none, part-some}
use Rattle.nr_blockdesk.proofs.{SelectedBitFacts.place-told}
use Rattle.nr_bitvec.specs.Marks.{marked_bit}
use Rattle.nr_harqbuf.specs.Marks.{AreMarks, first_merged, merge_of}
use Rattle.nr_harqbuf.specs.Record.{clashes, differs}
use Rattle.nr_harqbuf.proofs.RecordLaws.{first_heard-append, first_heard-push, first_is_heard, first_there, heard_there}
use Rattle.nr_harqbuf.proofs.RecordLaws.{passes_at}

-- ---- one place more

-- a position that a place tells: `told` is what all places tell, `first` the bit that those before told first
here : (told old new : Bool → Bool) (first : Option Bool) (v w both : Bool)
    → ((x : Bool) → old x ≡ (told x && not (differs first x))) → both ≡ (old false && old true) → told v ≡ true
    → new w ≡ (old w && not (both && true && not (beq v w)))
    → new w ≡ (told w && not (differs (cond (is_heard first) first (Some v)) w))
here told old new None true true both is both-is told-is new-is = let zero = is false in let one = is true in grind arith
here told old new None true false both is both-is told-is new-is = let zero = is false in let one = is true in grind arith
here told old new None false true both is both-is told-is new-is = let zero = is false in let one = is true in grind arith
here told old new None false false both is both-is told-is new-is = let zero = is false in let one = is true in grind arith
here told old new (Some true) v w both is both-is told-is new-is = let zero = is false in let one = is true in grind arith
here told old new (Some false) v w both is both-is told-is new-is = let zero = is false in let one = is true in grind arith

both-told : (told : Marks) (q : ℕ) → is_listed_both told q ≡ (is_listed told q false && is_listed told q true)
both-told told q = refl

module _ (b : Circular) (tx : Tx) (heard : List Heard) (m : ℕ) where
  abbrev all : List Hearing
  all = part_hearings b tx heard (length heard)

  -- an erasure
  pub settled-none : (told : Marks) (both : Option ℕ) → heard_bit (heard_at heard m) ≡ None
      → AreSettled b tx heard m told both → AreSettled b tx heard (m + 1) told both
  settled-none told both none is =
      record { is = rw (part-none b tx heard m none) is.is; clash = is.clash; none = is.none; long = is.long }

  module _ (pos : ℕ) (v : Bool) (below : m < length heard) (some : heard_bit (heard_at heard m) ≡ Some v)
      (at : pos ≡ place_of b tx.rv (seat_of tx.qm (length heard) m)) (old new : Marks) (r : Bool)
      (r-is : r ≡ is_listed_both old pos)
      (news : (p : ℕ) (w : Bool) → is_listed new p w ≡ (is_listed old p w && not (r && (p == pos) && not (beq v w))))
      (long : length new.at ≡ length old.at) where
    told-here : heard_as all pos v ≡ true
    told-here = place-told b tx heard (length heard) m pos v below some at

    more : (p : ℕ) → first_heard (part_hearings b tx heard (m + 1)) p
        ≡ cond (is_heard (first_heard (part_hearings b tx heard m) p)) (first_heard (part_hearings b tx heard m) p)
        (cond (pos == p) (Some v) None)
    more p = ap (λ hs. first_heard hs p) (part-some b tx heard m pos v some at)
        ∙ first_heard-push (part_hearings b tx heard m) (pos, v) p

    one : (p : ℕ) (w : Bool) → ((x : Bool) → is_listed old p x
        ≡ (heard_as all p x && not (differs (first_heard (part_hearings b tx heard m) p) x)))
        → is_listed new p w ≡ (heard_as all p w && not (differs (first_heard (part_hearings b tx heard (m + 1)) p) w))
    one p w is = elim (cases_eq p pos) [
      | inl e ↦ rw e (here (heard_as all pos) (is_listed old pos) (is_listed new pos)
          (first_heard (part_hearings b tx heard m) pos) v w r (rw e at is) (r-is ∙ both-told old pos) told-here
          (news pos w ∙ ap (λ t. is_listed old pos w && not (r && t && not (beq v w))) (eq-eqb pos pos refl))
          ∙ sym (ap (λ o. heard_as all pos w && not (differs o w)) (more pos
          ∙ ap (λ t. cond (is_heard (first_heard (part_hearings b tx heard m) pos))
          (first_heard (part_hearings b tx heard m) pos) (cond t (Some v) None)) (eq-eqb pos pos refl))))
      | inr ne ↦ grind (arith, nat_tests, more, news, is)
    ]

    -- what was received, if its position was told both bits before
    pub settled-both : (both : Option ℕ) → r ≡ true → pos < length old.at → AreSettled b tx heard m old both
        → AreSettled b tx heard (m + 1) new (Some pos)
    settled-both both told-both-is inside is =
        let parts = and_parts (is_listed old pos false) (is_listed old pos true) (sym r-is ∙ told-both-is) in
        record {
          is = λ p w. one p w (is.is p);
          clash = λ q e. there q (grind arith) parts;
          none = λ e. absurd (cc e);
          long = long ∙ is.long;
        }
      where
        told-both : (v : Bool) → (is_listed old pos false ≡ true) × (is_listed old pos true ≡ true)
            → heard_as all pos v ≡ true
        told-both false parts = (and_parts (heard_as all pos false) _ (sym (is.is pos false) ∙ parts.0)).0
        told-both true parts = (and_parts (heard_as all pos true) _ (sym (is.is pos true) ∙ parts.1)).0

        there : (q : ℕ) → q ≡ pos → (is_listed old pos false ≡ true) × (is_listed old pos true ≡ true)
            → (q < length new.at) × ((v : Bool) → heard_as all q v ≡ true)
        there q e parts = rw e (omega (arith, long, inside), λ v. told-both v parts)

    -- and if it was not
    pub settled-one : (both : Option ℕ) → r ≡ false → AreSettled b tx heard m old both
        → AreSettled b tx heard (m + 1) new both
    settled-one both not-both is = record {
      is = λ p w. one p w (is.is p);
      clash = λ q e. (omega (arith, long, (is.clash q e).0), (is.clash q e).1);
      none = λ e p w. grind (arith, news, is.none);
      long = long ∙ is.long;
    }

-- ---- places that are passed over, since none of their positions is told both bits

settled-past : (b : Circular) (tx : Tx) (heard : List Heard) (m : ℕ) (told : Marks) (both : Option ℕ) → m < length heard
    → is_listed_both told (place_of b tx.rv (seat_of tx.qm (length heard) m)) ≡ false → AreSettled b tx heard m told both
    → AreSettled b tx heard (m + 1) told both
settled-past b tx heard m told both below none is = go (heard_bit (heard_at heard m)) refl
  where
    go : (o : Option Bool) → heard_bit (heard_at heard m) ≡ o → AreSettled b tx heard (m + 1) told both
    go None e = settled-none b tx heard m told both e is
    go (Some v) e = settled-one b tx heard m (place_of b tx.rv (seat_of tx.qm (length heard) m)) v below e refl told told false
        (sym none) (λ p w. grind arith) refl both refl is

pub settled-passed : (b : Circular) (tx : Tx) (heard : List Heard) (from count : ℕ) (told : Marks) (both : Option ℕ)
    → from + count ≤ length heard
    → ((m : ℕ) → from ≤ m → m < from + count
    → is_listed_both told (place_of b tx.rv (seat_of tx.qm (length heard) m)) ≡ false)
    → AreSettled b tx heard from told both → AreSettled b tx heard (from + count) told both
settled-passed b tx heard from zero told both inside none is =
    let same : from + 0 ≡ from = omega arith in
    rw same is
settled-passed b tx heard from (suc count) told both inside none is =
    let next : from + suc count ≡ from + count + 1 = omega arith in
    rw next (settled-past b tx heard (from + count) told both (omega (arith, inside)) (none (from + count) (omega arith)
    (omega arith)) (settled-passed b tx heard from count told both (omega (arith, inside))
    (λ m low high. none m low (omega (arith, high))) is))

-- ---- the first bits at once

module _ (more : List Hearing) (told m : Marks)
    (is : (p : ℕ) (v : Bool) → is_listed told p v ≡ (heard_as more p v && not (differs (first_heard more p) v)))
    (bits : m.bits ≡ told.bits) (joined : (p : ℕ) → bit m.at p ≡ (bit told.at p || bit told.bits p)) where
  -- the marks keep the first bit of each position
  none-told : (p : ℕ) (v b : Bool) → first_heard more p ≡ None → heard_as more p v ≡ b → b ≡ false
  none-told p v false e h = refl
  none-told p v true e h = absurd (cc (e, (first_there more (p, v) (heard_there more p v h)).is))

  same-bit : (p : ℕ) → bit m.bits p ≡ bit told.bits p
  same-bit p = ap (λ (xs : List Bool). bit xs p) bits

  zero-is : (p : ℕ) (o : Option Bool) → first_heard more p ≡ o
      → bit told.at p ≡ (heard_as more p false && not (differs o false))
  zero-is p o e = is p false ∙ ap (λ f. heard_as more p false && not (differs f false)) e

  one-is : (p : ℕ) (o : Option Bool) → first_heard more p ≡ o
      → bit told.bits p ≡ (heard_as more p true && not (differs o true))
  one-is p o e = is p true ∙ ap (λ f. heard_as more p true && not (differs f true)) e

  pub first-told : (p : ℕ) → marked_bit m p ≡ first_heard more p
  first-told p = go (first_heard more p) refl
    where
      go : (o : Option Bool) → first_heard more p ≡ o → marked_bit m p ≡ first_heard more p
      go None e =
          let no_zero : heard_as more p false ≡ false = none-told p false (heard_as more p false) e refl in
          let no_one : heard_as more p true ≡ false = none-told p true (heard_as more p true) e refl in
          let zero = zero-is p None e in
          let one = one-is p None e in
          let mark = joined p in
          grind arith
      go (Some true) e =
          let told_one : heard_as more p true ≡ true = first_is_heard more p true e in
          let one = one-is p (Some true) e in
          let mark = joined p in
          let same = same-bit p in
          grind arith
      go (Some false) e =
          let told_zero : heard_as more p false ≡ true = first_is_heard more p false e in
          let zero = zero-is p (Some false) e in
          let one = one-is p (Some false) e in
          let mark = joined p in
          let same = same-bit p in
          grind arith

  -- if no position is told both bits, they are the marks of what is told
  pub marks-told : ((p : ℕ) (v : Bool) → is_listed told p v ≡ heard_as more p v) → AreMarks more m
  marks-told alone p v = go (first_heard more p) refl v
    where
      told_zero : bit told.at p ≡ heard_as more p false
      told_zero = alone p false

      told_one : bit told.bits p ≡ heard_as more p true
      told_one = alone p true

      go : (o : Option Bool) → first_heard more p ≡ o → (v : Bool) → heard_as more p v ≡ says m p v
      go None e v =
          let no : heard_as more p v ≡ false = none-told p v (heard_as more p v) e refl in
          let no_zero : heard_as more p false ≡ false = none-told p false (heard_as more p false) e refl in
          let no_one : heard_as more p true ≡ false = none-told p true (heard_as more p true) e refl in
          let zero = told_zero in
          let one = told_one in
          let mark = joined p in
          grind arith
      go (Some a) e true =
          let same = same-bit p in
          let mark = joined p in
          let one = told_one in
          grind arith
      go (Some true) e false =
          let same = same-bit p in
          let mark = joined p in
          let zero = zero-is p (Some true) e in
          let zero' = told_zero in
          let one = told_one in
          let told = first_is_heard more p true e in
          grind arith
      go (Some false) e false =
          let same = same-bit p in
          let mark = joined p in
          let one = one-is p (Some false) e in
          let zero = told_zero in
          let told = first_is_heard more p false e in
          grind arith

-- a position that is told has a mark
pub marked-told : (more : List Hearing) (m : Marks) (q : ℕ) → ((p : ℕ) → marked_bit m p ≡ first_heard more p)
    → heard_as more q true ≡ true → bit m.at q ≡ true
marked-told more m q firsts told =
    let first = (first_there more (q, true) (heard_there more q true told)).is in
    let mark = firsts q in
    grind arith

-- before the first place
pub settled-start : (b : Circular) (tx : Tx) (heard : List Heard) (told : Marks)
    → ((p : ℕ) (v : Bool) → is_listed told p v ≡ heard_as (part_hearings b tx heard (length heard)) p v)
    → length told.at ≡ cols_of b.graph * b.z → AreSettled b tx heard 0 told None
unfolding first_heard
settled-start b tx heard told is long = record {
  is = λ p v. is p v ∙ kept (heard_as (part_hearings b tx heard (length heard)) p v);
  clash = λ q e. absurd (cc e);
  none = λ e. is;
  long = long;
}
  where
    kept : (h : Bool) → h ≡ (h && true)
    kept true = refl
    kept false = refl

-- a position that was told both bits
module _ (n : ℕ) (hs more : List Hearing) (m : Marks) (q : ℕ) (firsts : (p : ℕ) → marked_bit m p ≡ first_heard more p)
    (inside : q < n) (both : (v : Bool) → heard_as more q v ≡ true) where
  abbrev merged : HeardBits
  merged = merge_of (record_of n hs) m

  abbrev twice : HeardBits
  twice = with_hearing (with_hearing merged (q, false)) (q, true)

  first-at : (p : ℕ) → p < n → first_merged (record_of n hs) m p ≡ first_heard (hs ++ more) p
  first-at p lt = rw (record_of-at n hs p lt, firsts p, first_heard-append hs more p) refl

  merged-firsts : merged.first ≡ map (first_heard (hs ++ more)) (range_with_len 0 n)
  unfolding merge_of
  merged-firsts = rw (length-map-range_with_len (first_heard hs) 0 n) (fill_by_all (first_heard (hs ++ more))
      (map (first_merged (record_of n hs) m) (range_with_len 0 n)) n None
      (length-map-range_with_len (first_merged (record_of n hs) m) 0 n)
      (λ p lt. get_or-map-range_with_len (first_merged (record_of n hs) m) 0 n p p None lt (omega arith) ∙ first-at p lt))

  heard-all : (v : Bool) → heard_as (hs ++ more) q v ≡ true
  unfolding heard_as
  heard-all v = grind (arith, list_any-append, both)

  clashing : clashes (hs ++ more) ≡ true
  unfolding clashes
  clashing = passes_at (λ (h : Hearing). heard_as (hs ++ more) h.0 (not h.1)) (hs ++ more) (q, true)
      (heard_there (hs ++ more) q true (heard-all true)) (heard-all false)

  heard-merged : is_heard (first_at merged q) ≡ true
  heard-merged =
      ap is_heard (ap (λ (xs : List (Option Bool)). get_or xs q None) merged-firsts
      ∙ get_or-map-range_with_len (first_heard (hs ++ more)) 0 n q q None inside (omega arith)
      ∙ (first_there (hs ++ more) (q, true) (heard_there (hs ++ more) q true (heard-all true))).is)

  -- the record after both bits
  record_is : (s : HeardBits) (xs : List (Option Bool)) (c : Bool) → s.first ≡ xs → s.clash ≡ c
      → s ≡ record { first = xs; clash = c }
  record_is s xs c firsts clash = rw (← firsts, ← clash) refl

  one_differs : (o : Option Bool) (c : Bool) → is_heard o ≡ true → ((c || differs o false) || differs o true) ≡ true
  one_differs o c heard = grind arith

  pub twice-recorded : twice ≡ record_of n (hs ++ more)
  twice-recorded =
      let once : HeardBits = with_hearing merged (q, false) in
      let firsts : once.first ≡ merged.first = first-kept merged q false heard-merged in
      let at : first_at once q ≡ first_at merged q = ap (λ (xs : List (Option Bool)). get_or xs q None) firsts in
      record_is twice (map (first_heard (hs ++ more)) (range_with_len 0 n)) (clashes (hs ++ more))
      (first-kept once q true (ap is_heard at ∙ heard-merged) ∙ firsts ∙ merged-firsts)
      (clash-more once q true ∙ ap (λ c. c || differs (first_at once q) true) (clash-more merged q false)
      ∙ ap (λ o. (merged.clash || differs (first_at merged q) false) || differs o true) at
      ∙ one_differs (first_at merged q) merged.clash heard-merged ∙ sym clashing)
