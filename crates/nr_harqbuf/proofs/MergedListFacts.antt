-- The lists of a store while all that marks say is merged into them, 64 positions at a time.
use Rattle.nr_harqbuf.proofs.Common.{◌≡◌, ℕ, ◌+◌, ◌-◌, ◌<◌, ◌≤◌, ◌&&◌, ◌||◌}
use Rattle.nr_harqbuf.proofs.Common.{inl, inr, Bool, true, false, not, List, length, refl, ap, sym, ◌∙◌, arith, cond}
use Rattle.nr_harqbuf.proofs.Common.{cases_lt, not-false, true≢false, get_or}
use Rattle.nr_harqbuf.proofs.Common.{false_from_ne_true, get_or_past, bit, nat_tests, Some, None, Option, map}
use Rattle.nr_harqbuf.proofs.Common.{list_any, range_with_len, list_any_at, fill_by_all, length-range_with_len}
use Rattle.nr_harqbuf.proofs.Common.{get_or-range_with_len, Marks, marked_bit, marks_with, merge_of, first_merged, differs_at}
use Rattle.nr_harqbuf.proofs.Common.{marked_bits, record_by, HeardBits, first_at, is_heard, differs}
use Rattle.nr_harqbuf.proofs.MarkWordFacts.{on, IsPut, put-in, read-at, zero-none}
use Rattle.nr_harqbuf.proofs.KeptBitFacts.{length-kept, kept-at}
use Rattle.nr_harqbuf.specs.inside.Words.{bit_in}
use Rattle.std.specs.{Option.option_or, Prelude.◌↔◌}
use Rattle.std.proofs.lemmas.{Bool.not_from_true, Bool.or_from, Bool.or_parts, List.Folds.list_any_none}

-- a store's lists and its clash, and the positions marked in what is merged
pub record Lists : Type 0 where
  pub heard : List Bool
  pub value : List Bool
  pub marks : List Bool
  pub clash : Bool

-- what they have at a position: the first bit that was heard there, and whether it is marked
abbrev pub at_position : Lists → ℕ → Option Bool × Bool
at_position s p = (marked_bit (marks_with s.heard s.value) p, bit s.marks p)

-- what they have there after bit b was heard at a marked position: only fresh marks stay
abbrev pub after_hearing : Option Bool × Bool → Bool → Option Bool × Bool
after_hearing s b = (option_or s.0 (cond s.1 (Some b) None), s.1 && not (is_heard s.0))

abbrev pub clashes_at : Option Bool × Bool → Bool → Bool
clashes_at s b = s.1 && differs s.0 b

abbrev pub NoClash : ℕ → ℕ → Lists → List Bool → Type 0
NoClash from to s bits = (p : ℕ) → from ≤ p → p < to → clashes_at (at_position s p) (bit bits p) ≡ false

-- the positions from `from` to `to` are merged, and the others are unchanged
pub record IsMerged (from to : ℕ) (old : Lists) (bits : List Bool) (new : Lists) : Type 0 where
  pub within : (p : ℕ) → from ≤ p → p < to → at_position new p ≡ after_hearing (at_position old p) (bit bits p)
  pub before : (p : ℕ) → p < from → at_position new p ≡ at_position old p
  pub after : (p : ℕ) → to ≤ p → at_position new p ≡ at_position old p
  pub quiet : (new.clash ≡ false) ↔ ((old.clash ≡ false) × NoClash from to old bits)
  pub heard_long : length new.heard ≡ length old.heard
  pub marks_long : length new.marks ≡ length old.marks

pub merged-none : (k : ℕ) (old : Lists) (bits : List Bool) → k ≡ 0 → IsMerged 0 k old bits old
merged-none k old bits none = grind arith

-- first the positions below `mid` are merged, and then those from there on
pub merged-more : (mid to : ℕ) (start s : Lists) (bits : List Bool) (new : Lists) → mid ≤ to
    → IsMerged 0 mid start bits s → IsMerged mid to s bits new → IsMerged 0 to start bits new
merged-more mid to start s bits new up first then = record {
  within = λ p _ h. elim (cases_lt p mid) [
    | inl low ↦ then.before p low ∙ first.within p (omega arith) low
    | inr from ↦ then.within p from h
        ∙ ap (λ (t : Option Bool × Bool). after_hearing t (bit bits p)) (first.after p from)
  ];
  before = λ p h. absurd (omega (arith, h));
  after = λ p h. then.after p h ∙ first.after p (omega (arith, h, up));
  quiet = (
    λ e.
        let later = then.quiet.0 e in
        let earlier = first.quiet.0 later.0 in (
          earlier.0,
          λ p _ h. elim (cases_lt p mid) [
            | inl low ↦ earlier.1 p (omega arith) low
            | inr from ↦ sym (same p from) ∙ later.1 p from h
          ],
        ),
    λ none. then.quiet.1 (
      first.quiet.1 (none.0, λ p z h. none.1 p z (omega (arith, h, up))),
      λ p from h. same p from ∙ none.1 p (omega arith) h,
    ),
  );
  heard_long = then.heard_long ∙ first.heard_long;
  marks_long = then.marks_long ∙ first.marks_long;
}
  where
    same : (p : ℕ) → mid ≤ p
        → clashes_at (at_position s p) (bit bits p) ≡ clashes_at (at_position start p) (bit bits p)
    same p from = ap (λ (t : Option Bool × Bool). clashes_at t (bit bits p)) (first.after p from)

-- no position is marked, so nothing changes
pub merged-idle : (at to now : ℕ) (s : Lists) (bits : List Bool) → to ≤ at + 64 → now ≡ 0
    → ((j : ℕ) → j < 64 → on now j ≡ bit s.marks (at + j)) → IsMerged at to s bits s
merged-idle at to now s bits few none reads = record {
  within = λ p from h. idle (at_position s p).0 (bit s.marks p) (bit bits p) (unmarked p from h);
  before = λ p h. refl;
  after = λ p h. refl;
  quiet = (λ e. (e, λ p from h. ap (λ m. m && differs (at_position s p).0 (bit bits p)) (unmarked p from h)), λ none. none.0);
  heard_long = refl;
  marks_long = refl;
}
  where
    idle : (o : Option Bool) (n b : Bool) → n ≡ false → ◌≡◌ {A = Option Bool × Bool} (o, n) (after_hearing (o, n) b)
    idle o n b e = grind arith

    unmarked : (p : ℕ) → at ≤ p → p < to → bit s.marks p ≡ false
    unmarked p from below = sym (read-at s.marks at now p reads from (omega (arith, below, few))) ∙ zero-none now (p - at) none

-- the words that a step reads, merges and puts
pub record IsStep (at count before old now bits heard value news : ℕ) (agreed : Bool) (s : Lists) (list : List Bool)
    (new : Lists) : Type 0 where
  pub few : count ≤ 64
  pub whole : (j : ℕ) → j < 64 → count ≤ j → length s.marks ≤ at + j
  pub reads_before : (j : ℕ) → j < 64 → on before j ≡ bit s.heard (at + j)
  pub reads_old : (j : ℕ) → j < 64 → on old j ≡ bit s.value (at + j)
  pub reads_now : (j : ℕ) → j < 64 → on now j ≡ bit s.marks (at + j)
  pub reads_bits : (j : ℕ) → j < 64 → on bits j ≡ bit list (at + j)
  pub first : (j : ℕ) → j < 64 → bit_in heard value j ≡ option_or (bit_in before old j) (bit_in now bits j)
  pub fresh : (j : ℕ) → j < 64 → on news j ≡ (on now j && not (on before j))
  pub same : (agreed ≡ true) ↔ ((j : ℕ) → j < 64 → on before j ≡ true → on now j ≡ true → on bits j ≡ on old j)
  pub put_heard : IsPut s.heard new.heard at count heard
  pub put_value : IsPut s.value new.value at count value
  pub put_marks : IsPut s.marks new.marks at count news
  pub clash : new.clash ≡ (s.clash || not agreed)
  pub heard_long : length new.heard ≡ length s.heard
  pub marks_long : length new.marks ≡ length s.marks

both_bits : (h v n : Bool) (o o' : Option Bool) (f : Bool) → o' ≡ o → f ≡ (n && not h)
    → ◌≡◌ {A = Option Bool × Bool} (o', f) (o, n && not (is_heard (cond h (Some v) None)))
both_bits h v n o o' f first fresh = grind arith

quiet_bits : (h v n b : Bool) → (h ≡ true → n ≡ true → b ≡ v) → (n && differs (cond h (Some v) None) b) ≡ false
quiet_bits h v false b same = refl
quiet_bits false v true b same = refl
quiet_bits true v true b same = grind (arith, same refl refl)

same_bits : (h v n b : Bool) → (n && differs (cond h (Some v) None) b) ≡ false → h ≡ true → n ≡ true → b ≡ v
same_bits h v n b quiet marked again = grind arith

module _ (at count before old now bits heard value news : ℕ) (agreed : Bool) (s : Lists) (list : List Bool) (new : Lists)
    (step : IsStep at count before old now bits heard value news agreed s list new) where
  step-in : (p : ℕ) → at ≤ p → p < at + count → at_position new p ≡ after_hearing (at_position s p) (bit list p)
  step-in p from below =
      let short : p < at + 64 = omega (arith, below, step.few) in
      let lt : p - at < 64 = omega (arith, short, from) in
      rw (
        put-in s.heard new.heard at count heard p step.put_heard from below,
        put-in s.value new.value at count value p step.put_value from below,
        put-in s.marks new.marks at count news p step.put_marks from below,
        ← read-at s.heard at before p step.reads_before from short,
        ← read-at s.value at old p step.reads_old from short,
        ← read-at s.marks at now p step.reads_now from short,
        ← read-at list at bits p step.reads_bits from short,
      ) (both_bits (on before (p - at)) (on old (p - at)) (on now (p - at)) _ _ _ (step.first (p - at) lt) (step.fresh (p - at) lt))

  quiet-step : ((j : ℕ) → j < 64 → on before j ≡ true → on now j ≡ true → on bits j ≡ on old j)
      → NoClash at (at + count) s list
  quiet-step same p from below =
      let short : p < at + 64 = omega (arith, below, step.few) in
      rw (
        ← read-at s.heard at before p step.reads_before from short,
        ← read-at s.value at old p step.reads_old from short,
        ← read-at s.marks at now p step.reads_now from short,
        ← read-at list at bits p step.reads_bits from short,
      ) (quiet_bits (on before (p - at)) (on old (p - at)) (on now (p - at)) (on bits (p - at))
      (same (p - at) (omega (arith, short, from))))

  same-step : NoClash at (at + count) s list
      → (j : ℕ) → j < 64 → on before j ≡ true → on now j ≡ true → on bits j ≡ on old j
  same-step quiet j lt = elim (cases_lt j count) [
    | inl low ↦ rw (step.reads_before j lt, step.reads_old j lt, step.reads_now j lt, step.reads_bits j lt)
        (same_bits (bit s.heard (at + j)) (bit s.value (at + j)) (bit s.marks (at + j)) (bit list (at + j))
        (quiet (at + j) (omega arith) (omega (arith, low))))
    | inr high ↦ λ _ again.
        absurd (true≢false (sym again ∙ step.reads_now j lt ∙ get_or_past s.marks (at + j) false (step.whole j lt high)))
  ]

  pub merged-step : IsMerged at (at + count) s list new
  merged-step = record {
    within = step-in;
    before = λ p h. rw (step.put_heard.before p h, step.put_value.before p h, step.put_marks.before p h) refl;
    after = λ p h. rw (step.put_heard.after p h, step.put_value.after p h, step.put_marks.after p h) refl;
    quiet = (
      λ e.
          let parts = or_parts s.clash (not agreed) (sym step.clash ∙ e) in
          (parts.0, quiet-step (step.same.0 (not-false agreed parts.1))),
      λ q. step.clash ∙ or_from s.clash (not agreed) q.0 (not_from_true agreed (step.same.1 (same-step q.1))),
    );
    heard_long = step.heard_long;
    marks_long = step.marks_long;
  }

-- the record of a store's lists
abbrev pub record_in : Lists → HeardBits
record_in s = record_by (marks_with s.heard s.value) s.clash

-- the fresh marks stay
pub news-done : (old : Lists) (bits : List Bool) (new : Lists) (k : ℕ) → IsMerged 0 k old bits new → length old.marks ≤ k
    → (p : ℕ) → bit new.marks p ≡ (bit old.marks p && not (is_heard (first_at (record_in old) p)))
news-done old bits new k m long p = grind (arith, nat_tests, cases_lt, kept-at, get_or_past)

pub in_range : (n i d : ℕ) → i < n → get_or (range_with_len 0 n) i d ≡ i
in_range n i d lt = omega (arith, get_or-range_with_len 0 n i d lt)

-- a test that none of the first n numbers passes
none_below : (f : ℕ → Bool) (n : ℕ) → ((p : ℕ) → p < n → f p ≡ false) → list_any f (range_with_len 0 n) ≡ false
none_below f n none = grind (arith, list_any_none, length-range_with_len, in_range)

below_none : (f : ℕ → Bool) (n : ℕ) → list_any f (range_with_len 0 n) ≡ false → (p : ℕ) → p < n → f p ≡ false
below_none f n none p lt =
    false_from_ne_true (f p)
    (λ e.
    true≢false (sym (list_any_at f (range_with_len 0 n) p 0 (omega (arith, lt, length-range_with_len 0 n))
    (ap f (in_range n p 0 lt) ∙ e)) ∙ none))

same_falsehood : (a b : Bool) → (a ≡ false → b ≡ false) → (b ≡ false → a ≡ false) → a ≡ b
same_falsehood a b f g = grind arith

pub merged-done : (old : Lists) (bits : List Bool) (new : Lists) (k : ℕ) → IsMerged 0 k old bits new → k ≡ length old.heard
    → record_in new ≡ merge_of (record_in old) (marks_with old.marks bits)
unfolding merge_of
merged-done old bits new k m whole = rw (firsts, clash) refl
  where
    more : Marks
    more = marks_with old.marks bits

    count : ℕ
    count = length (marked_bits (marks_with old.heard old.value))

    long : count ≡ length old.heard
    long = length-kept old.heard old.value

    differ : ℕ → Bool
    differ = differs_at (record_in old) more

    first : (p : ℕ) → p < k → marked_bit (marks_with new.heard new.value) p ≡ first_merged (record_in old) more p
    first p lt = grind (arith, kept-at, m.within p (omega arith) lt)

    firsts : marked_bits (marks_with new.heard new.value) ≡ map (first_merged (record_in old) more) (range_with_len 0 count)
    firsts = fill_by_all (first_merged (record_in old) more) (marked_bits (marks_with new.heard new.value)) count None
        (length-kept new.heard new.value ∙ m.heard_long ∙ sym long)
        (λ p lt. kept-at new.heard new.value p ∙ first p (omega (arith, lt, long, whole)))

    clashes : (p : ℕ) → differ p ≡ clashes_at (at_position old p) (bit bits p)
    clashes p = ap (λ o. bit old.marks p && differs o (bit bits p)) (kept-at old.heard old.value p)

    clash : new.clash ≡ (old.clash || list_any differ (range_with_len 0 count))
    clash = same_falsehood new.clash (old.clash || list_any differ (range_with_len 0 count))
        (λ e. let q = m.quiet.0 e in
        or_from old.clash (list_any differ (range_with_len 0 count)) q.0
        (none_below differ count (λ p lt. clashes p ∙ q.1 p (omega arith) (omega (arith, lt, long, whole)))))
        (λ e. let parts = or_parts old.clash (list_any differ (range_with_len 0 count)) e in
        m.quiet.1 (parts.0, λ p _ lt. sym (clashes p) ∙ below_none differ count parts.1 p (omega (arith, lt, long, whole))))
