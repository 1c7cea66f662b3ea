-- What the counts know of if a row of blocks fixes what it lacks in the block of one entry.
use Rattle.nr_peel.proofs.Common.{rows_most, arith, cases_eq, inl, inr, refl, sym, ⊎_elim, and_from, eq-eqb, eqb-true, ne_eqb, ap}
use Rattle.nr_peel.proofs.Common.{◌∙◌, ◌≡◌, ℕ, ◌+◌, ◌/◌, ◌<◌, ◌==◌, ◌&&◌, ◌||◌, Bool, true}
use Rattle.nr_peel.proofs.Common.{false, List, length, slice_index, or_cases, or_left, and_parts, bit, is_set, Checks, Lifted}
use Rattle.nr_peel.proofs.Common.{lifted_checks, Lanes, AreLanes, Entry, IsTable, entries_in, row_of, value_in, one_at, TakesLane}
use Rattle.nr_peel.proofs.Common.{missing_at, Order, AreSeen, NeedsNoLook, SeesOthers, has_seen, row_position}
use Rattle.nr_peel.proofs.RowEntryFacts.{column_at, column_own, entry_in, position_is, row_long}
use Rattle.nr_peel.proofs.{ClosureFacts.same_truth, LaneStepFacts.marked_at, SeenCountFacts.entries_apart}

-- what a row marks, at the entry that is taken and at another
marks_here : (n k m x s : Bool) → n ≡ (k || m) → m ≡ s → x ≡ true → n ≡ (k || (x && s))
marks_here n k m x s is same here = grind arith

marks_elsewhere : (n k q w x s : Bool) → n ≡ (k || (q && w)) → q ≡ false → x ≡ false → n ≡ (k || (x && s))
marks_elsewhere n k q w x s is out elsewhere = grind arith

marks_set : (n k x s : Bool) → n ≡ (k || (x && s)) → x ≡ true → s ≡ true → n ≡ true
marks_set n k x s is here set = grind arith

-- nothing is new in another row block, nor in a row that isn't marked
unseen_still : (n o x y s : Bool) → n ≡ (o || ((x && y) && s)) → x ≡ false → n ≡ o
unseen_still n o x y s is out = grind arith

unmarked_still : (n o x y s w : Bool) → n ≡ (o || ((x && y) && (s && w))) → (x && s) ≡ false → n ≡ o
unmarked_still n o x y s w is out = grind arith

-- what is seen is known, for an entry that is taken and for any other
seen_known : (n o x s k k' : Bool) → n ≡ (o || (x && s)) → (o ≡ true → k ≡ true) → (k ≡ true → k' ≡ true)
    → (x ≡ true → s ≡ true → k' ≡ true) → n ≡ true → k' ≡ true
seen_known n o x s k k' is was more here set = grind arith

-- a row block's own entry, if the counts knew of all that was known
own_known : (n o x y s k k' : Bool) → n ≡ (o || ((x && y) && s)) → x ≡ true → o ≡ k → k' ≡ (k || (y && s))
    → n ≡ k'
own_known n o x y s k k' is own was more = grind arith

module _ {W D : ℕ} (l : Lifted) (i k : ℕ) (ones sums : List ℕ) (a d : Lanes W D) {x y : Order} (table : IsTable l.table.now)
    (block : i < (lifted_checks l).rows) (within : k < length (row_of (entries_in l.plan.graph l.table.now) i))
    (lanes : AreLanes (lifted_checks l) a) (own : NeedsNoLook (lifted_checks l) i a.seen)
    (took : TakesLane l i k (entry_in l i k) ones sums a d x y) where
  abbrev c : Checks
  c = lifted_checks l

  abbrev e : Entry
  e = entry_in l i k

  abbrev u : ℕ → Bool
  u = missing_at l e ones a

  long : (t : ℕ) → k < length (c.row i t)
  long t = omega (arith, within, row_long l i t)

  -- an entry's number is that of the entry that is taken
  same_entry : (h m t : ℕ) → h < c.rows → m < length (c.row h t)
      → (slice_index a.seen.starts i + k == slice_index a.seen.starts h + m) ≡ ((i == h) && (k == m))
  same_entry h m t hr ml = same_truth _ _
      (λ same. let both = entries_apart c a.known.items a.seen lanes.seen h m i k t t hr block ml (long t)
      (sym (eqb-true _ _ same)) in and_from (i == h) (k == m) (eq-eqb i h (sym both.0)) (eq-eqb k m (sym both.1)))
      (λ both. let parts = and_parts (i == h) (k == m) both in
      eq-eqb _ _ (ap (λ h. slice_index a.seen.starts h + k) (eqb-true i h parts.0)
      ∙ ap (λ m. slice_index a.seen.starts h + m) (eqb-true k m parts.1)))

  -- the counts of the rows that missed it know of it
  seen_next : (h m t : ℕ) → h < c.rows → m < length (c.row h t)
      → has_seen d.seen h m t ≡ (has_seen a.seen h m t || (((i == h) && (k == m)) && u t))
  seen_next h m t hr ml = rw (took.seen.starts, ← same_entry h m t hr ml) (took.seen.lanes (slice_index a.seen.starts h + m) t)

  -- and their positions are known
  known_next : (h m t : ℕ) → h ≡ i → t < l.plan.z → m < length (c.row h t)
      → bit d.known.items (row_position c h t m) ≡ (bit a.known.items (row_position c h t m) || ((k == m) && u t))
  known_next h m t same below ml =
      let mi = rw same at ml in
      rw same (elim (cases_eq m k) [
        | inl at ↦
            rw at (rw (position_is l i k t within)
            (marks_here _ _ _ (k == k) (u t) (took.known (one_at l.plan.z t e.col (value_in l.plan.set e)))
            (marked_at l.plan.z e.col (value_in l.plan.set e) l.plan.sound.size_some u t below) (eq-eqb k k refl)))
        | inr ne ↦ marks_elsewhere _ _ _ _ (k == m) (u t) (took.known (row_position c i t m))
            (ne_eqb _ _
            (λ col. ne (column_own l i m k table (omega (arith, mi, row_long l i t)) within (sym (column_at l i m t mi) ∙ col))))
            (ne_eqb k m (λ at. ne (sym at)))
      ])

  known_still : (p : ℕ) → bit a.known.items p ≡ true → bit d.known.items p ≡ true
  known_still p was = took.known p ∙ or_left (bit a.known.items p) _ was

  own_of : (h : ℕ) → h ≡ i → NeedsNoLook c h a.seen
  own_of h same = rw same own

  -- the row block still needs no look
  pub own_still : NeedsNoLook c i d.seen
  own_still t m below ml = took.seen.own (row_position c i t m / c.lanes) (own t m below ml)

  -- and in other rows nothing is seen
  pub others_still : SeesOthers c i ones a.seen d.seen
  others_still h t m hr below ml out = unmarked_still _ _ (i == h) (k == m) (is_set ones t) _ (seen_next h m t hr ml) out

  pub seen_still : AreSeen c d.known.items d.seen
  seen_still = record {
    starts = rw took.seen.starts lanes.seen.starts;
    enough = rw (took.seen.starts, took.seen.long) lanes.seen.enough;
    long = took.seen.long ∙ lanes.seen.long;
    within = λ h t m hr below ml.
        seen_known _ _ ((i == h) && (k == m)) (u t) (bit a.known.items (row_position c h t m)) _ (seen_next h m t hr ml)
        (lanes.seen.within h t m hr below ml) (known_still (row_position c h t m))
        (λ here set. let parts = and_parts (i == h) (k == m) here in
        marks_set _ _ (k == m) (u t) (known_next h m t (sym (eqb-true i h parts.0)) below ml) parts.1 set);
    fresh = λ h t m hr below ml looked. elim (cases_eq h i) [
      | inl same ↦
          let was = lanes.seen.fresh h t m hr below ml (own_of h same t m below ml) in
          own_known _ _ (i == h) (k == m) (u t) _ _ (seen_next h m t hr ml) (eq-eqb i h (sym same)) was
          (known_next h m t same below ml)
      | inr ne ↦
          let was = took.seen.stale h (row_position c h t m) (omega (arith, hr, rows_most l.plan.graph)) ne looked in
          unseen_still _ _ (i == h) (k == m) (u t) (seen_next h m t hr ml) (ne_eqb i h (λ same. ne (sym same)))
          ∙ lanes.seen.fresh h t m hr below ml was.0 ∙ sym was.1
    ];
    holders = rw took.seen.holders lanes.seen.holders;
    rested = λ h t m hr below ml rests.
        let was = took.seen.behind h (row_position c h t m) (omega (arith, hr, rows_most l.plan.graph)) rests in
        was.1 (lanes.seen.holders h t m hr below ml) ∙ lanes.seen.rested h t m hr below ml was.0;
    whole = λ h t m hr below ml set.
        ⊎_elim (λ was. known_still _ (lanes.seen.whole h t m hr below ml was)) (λ now. now)
        (or_cases _ _ (took.seen.whole (row_position c h t m) set));
    all = rw took.seen.all lanes.seen.all;
  }
