-- What is true of every peeler.
use Rattle.nr_peel.proofs.Common.{ℕ, ◌≡◌, ◌≢◌, ◌+◌, ◌*◌, ◌<◌, ◌≤◌, ◌==◌, ◌||◌, nat_lt}
use Rattle.nr_peel.proofs.Common.{arith, bit, numbers, IsSettled, IsPeeled, Peeling, any_view, lifted_checks, sweep_view, Lifted}
use Rattle.nr_peel.proofs.Common.{any_known, AnySweep, Bool, false, List, ap, true, all_accepted, is_fixed_by, IsAnySettled, Checks}
use Rattle.nr_peel.proofs.Common.{cases_lt, count_by, count_by-le-length, entries_in, info_cols_of, inl, inr, length, ltb-true}
use Rattle.nr_peel.proofs.Common.{◌∙◌, not, sym, Progress, Sweep}
use Rattle.nr_peel.proofs.Common.{or_cases, or_left, or_right, slice_index, sum, AreSound, Entry, Within, all_pairs, closure}
use Rattle.nr_peel.proofs.CountedPairFacts.{pairs_and_counts, pairs_most, spent_known}
use Rattle.nr_peel.proofs.{FixOrderFacts.after_accepted, FixOrderFacts.steps_stay, CodewordFacts.done_is_closure}
use Rattle.nr_peel.proofs.{RowEntryFacts.row_long, SeenCountFacts.counts_most, SkippedRowFacts.skipped_rows}
use Rattle.nr_peel.proofs.{TableGridFacts.checks_sound, WaitingFacts.waits_late, WaitingFacts.waits_unknown}
use Rattle.nr_peel.specs.{Peeling.IsCounted, State.any_bits, Touches.pairs_in, inside.Searches.may_wait}
use Rattle.std.proofs.lemmas.List.Sums.{length-filter}
use Rattle.std.specs.Prelude.{unwrap_or}
use Rattle.nr_bitvec.specs.Marks.{marked_bit, marks_with}
use Rattle.nr_peel.specs.declared.any_sweep.AnySweep.TheVariants as variant

module _ {W D : ℕ} (l : Lifted) (b : Progress) (s : Sweep W D) (h : IsSettled l b s) where
  abbrev c : Checks
  c = lifted_checks l

  abbrev given : ℕ → Bool
  given = bit b.given.items

  abbrev known : ℕ → Bool
  known = bit s.lanes.known.items

  pos : 0 < l.plan.z
  pos = l.plan.sound.size_some

  sound : AreSound c
  sound = checks_sound l.table.now l.plan.graph (numbers l.plan) h.table pos

  abbrev entries : List Entry
  entries = entries_in l.plan.graph l.table.now

  abbrev own : ℕ → Entry → Bool
  own i e = e.row == i

  told : Within given known
  told p g = grind (arith, h.reaches.reached p)

  fixed : Within known (closure c given)
  fixed p k = steps_stay c given h.reaches.steps sound p
      (after_accepted c given h.reaches.steps p h.reaches.accepted ∙ sym (h.reaches.reached p) ∙ k)

  -- a row of a block that is done has not exactly one unknown position
  several : (i t : ℕ) → i < c.rows → t < c.lanes → (b.order.kept || not (may_wait c s.lanes.known.items i)) ≡ true
      → count_by (λ p. not (known p)) (c.row i t) ≢ 1
  several i t row lane done one =
      let quiet = h.quiet i row done in
      quiet.1 t lane (quiet.0 t lane ∙ one)

  all_closed : b.order.kept ≡ true → (p : ℕ) → known p ≡ closure c given p
  all_closed kept = done_is_closure c given known sound told fixed
      (λ i t row lane. several i t row lane (or_left b.order.kept (not (may_wait c s.lanes.known.items i)) kept))

  -- row blocks that wait change nothing before the extension columns, and without entries there is nothing to change
  low_closed : (p : ℕ) → p < (info_cols_of l.plan.graph + 4) * l.plan.z → known p ≡ closure c given p
  low_closed p low = elim (cases_lt 0 (length entries)) [
    | inl some ↦
        skipped_rows l.table.now l.plan.graph (numbers l.plan) given known (may_wait c s.lanes.known.items) h.table some pos
        l.in_sets
        (waits_late l s.lanes.known.items)
        (λ i t row lane kept. several i t row lane
        (or_right b.order.kept (not (may_wait c s.lanes.known.items i)) (ap not kept)))
        (λ i t row lane waits. waits_unknown l s.lanes.known.items i waits t lane) told fixed p low
    | inr none ↦
        let short : (i t : ℕ) → length (c.row i t) ≡ 0 =
        λ i t. omega (arith, none, row_long l i t, length-filter (own i) entries, count_by-le-length (own i) entries) in
        done_is_closure c given known sound told fixed
        (λ i t row lane one. omega (arith, one, short i t, count_by-le-length (λ p. not (known p)) (c.row i t))) p
  ]

  pairs : b.order.kept ≡ true → pairs_in c known + sum s.counts.items ≡ all_pairs c
  pairs kept = pairs_and_counts c s.lanes.known.items s.counts.items pos h.held.counts_long
      (λ i t row lane. (h.quiet i row (or_left b.order.kept (not (may_wait c s.lanes.known.items i)) kept)).0 t lane)

  most : (i t : ℕ) → i < c.rows → t < c.lanes
      → length (c.row i t) ≤ slice_index s.counts.items (i * c.lanes + t) + count_by known (c.row i t)
  most i t row lane =
      counts_most c s.lanes.seen s.lanes.known.items s.counts.items i t row lane h.held.counted h.held.lanes.seen

  pub sweep_peeled : IsPeeled (sweep_view l b s)
  sweep_peeled = record {
    given_long = h.given_long;
    known_long = h.held.lanes.known_long;
    bits_long = h.held.lanes.bits_long;
    within = fixed;
    closed = λ p is. elim (or_cases b.order.kept (nat_lt p ((info_cols_of l.plan.graph + 4) * l.plan.z)) is) [
      | inl kept ↦ all_closed kept p
      | inr low ↦ low_closed p (ltb-true p ((info_cols_of l.plan.graph + 4) * l.plan.z) low)
    ];
    accepted = λ kept. ap (all_accepted c given) (h.reaches.are kept) ∙ h.reaches.accepted;
    reached = λ kept p. h.reaches.reached p ∙ ap (λ v. given p || is_fixed_by v p) (sym (h.reaches.are kept));
    at_least = λ kept. omega (arith, pairs kept, h.held.least);
    at_most = omega (
      arith,
      pairs_most c s.lanes.known.items s.counts.items pos h.held.counts_long most,
      spent_known c s.lanes.known.items s.counts.items pos h.held.counts_long most,
      h.held.most,
    );
  }

  -- what every peeler has done
  sweep_counted : IsCounted (sweep_view l b s)
  sweep_counted = grind (arith, pairs, h)

pub any_peeled : (l : Lifted) (b : Progress) (s : AnySweep) (v : Peeling) → any_view l b s ≡ v → IsAnySettled l b s
    → IsPeeled v
any_peeled l b (variant.One s) v is h = rw is at (sweep_peeled l b s h)
any_peeled l b (variant.Two s) v is h = rw is at (sweep_peeled l b s h)
any_peeled l b (variant.Three s) v is h = rw is at (sweep_peeled l b s h)
any_peeled l b (variant.Four s) v is h = rw is at (sweep_peeled l b s h)
any_peeled l b (variant.Six s) v is h = rw is at (sweep_peeled l b s h)

pub any_counted : (l : Lifted) (b : Progress) (s : AnySweep) (v : Peeling) → any_view l b s ≡ v → IsAnySettled l b s
    → IsCounted v
any_counted l b (variant.One s) v is h = rw is at (sweep_counted l b s h)
any_counted l b (variant.Two s) v is h = rw is at (sweep_counted l b s h)
any_counted l b (variant.Three s) v is h = rw is at (sweep_counted l b s h)
any_counted l b (variant.Four s) v is h = rw is at (sweep_counted l b s h)
any_counted l b (variant.Six s) v is h = rw is at (sweep_counted l b s h)

-- a bit that isn't known is false
seen_bit : (known bits : List Bool) (p : ℕ) → (bit known p ≡ false → bit bits p ≡ false)
    → bit bits p ≡ unwrap_or (marked_bit (marks_with known bits) p) false
seen_bit known bits p blank = grind arith

pub any_bit : (l : Lifted) (b : Progress) (s : AnySweep) → IsAnySettled l b s → (p : ℕ)
    → bit (any_bits s) p ≡ unwrap_or (marked_bit (marks_with (any_known s) (any_bits s)) p) false
any_bit l b (variant.One s) is p = seen_bit s.lanes.known.items s.lanes.bits.items p (is.held.lanes.blank p)
any_bit l b (variant.Two s) is p = seen_bit s.lanes.known.items s.lanes.bits.items p (is.held.lanes.blank p)
any_bit l b (variant.Three s) is p = seen_bit s.lanes.known.items s.lanes.bits.items p (is.held.lanes.blank p)
any_bit l b (variant.Four s) is p = seen_bit s.lanes.known.items s.lanes.bits.items p (is.held.lanes.blank p)
any_bit l b (variant.Six s) is p = seen_bit s.lanes.known.items s.lanes.bits.items p (is.held.lanes.blank p)
