-- The entries of a row of blocks, one after another. Its rows fix the positions that are their only unknown ones.
use Rattle.nr_peel.proofs.Common.{cases_lt, ◌++◌, nat_tests, ◌≡◌, ℕ, ◌+◌, ◌*◌, ◌%◌, ◌<◌, ◌≤◌}
use Rattle.nr_peel.proofs.Common.{◌==◌, ◌&&◌, Bool, true, false, not, cond, List, [], length, take, refl, sym, ap}
use Rattle.nr_peel.proofs.Common.{◌∙◌, arith, length-append, count_by, eqb-true, take_all, sum_by-take-le, mul-le-mul_right}
use Rattle.nr_peel.proofs.Common.{bit, is_set, marked_count, numbers, Entry, IsTable, entries_in, row_of, value_in, parity, Checks}
use Rattle.nr_peel.proofs.Common.{Meets, one_at, Within, stands, TakesLane, rotated_step, lifted_checks, HasBits, AreLanes, Fixes}
use Rattle.nr_peel.proofs.Common.{step_pairs, Lanes, Lifted, IsBlockSought, and_parts, not-true, missing_at, slice_index, Order}
use Rattle.nr_peel.proofs.Common.{AreSeen, NeedsNoLook, SeesOthers, has_seen, count_by-le-length, Meets-each}
use Rattle.std.proofs.lemmas.List.Elements.{filter_passes}
use Rattle.nr_peel.proofs.MarkedFacts.{marked_more, marked_two, no_marks}
use Rattle.nr_peel.proofs.TableGridFacts.{checks_sound}
use Rattle.nr_peel.proofs.LaneStepFacts.{only_at, outside, take_fixes, take_knows}
use Rattle.nr_peel.proofs.SeenCountFacts.{entry_inside}
use Rattle.nr_peel.proofs.SeenTakeFacts.{others_still, own_still, seen_still}
use Rattle.nr_peel.proofs.LeftPositionFacts.{stands_at}
use Rattle.nr_peel.proofs.StepPairFacts.{step_pairs-alike, step_pairs-join, step_pairs-none}
use Rattle.nr_peel.proofs.StepFacts.{steps_count}
use Rattle.nr_peel.proofs.RowEntryFacts.{entry_in, position_is, row_long}
use Rattle.nr_peel.proofs.RowPositionFacts.{count_more}
use Rattle.nr_peel.proofs.TieFacts.{row_columns}
use Rattle.nr_peel.proofs.CodewordFacts.{forced_bit}
use Rattle.nr_peel.proofs.SweepStepFacts.{count_fewer, fixes_none, fixes_then, known_more, told_few}
use Rattle.nr_peel.specs.inside.Certificates.{told}

-- ---- the entries of a row of blocks

-- the position of an entry in a row
abbrev pub place_at : Lifted → ℕ → ℕ → ℕ → ℕ
place_at l i n t = one_at l.plan.z t (entry_in l i n).col (value_in l.plan.set (entry_in l i n))

module _ (l : Lifted) (i n t : ℕ) (within : n < length (row_of (entries_in l.plan.graph l.table.now) i)) where
  -- one more entry
  lacking_next : (K : ℕ → Bool)
      → count_by (λ p. not (K p)) (take (n + 1) ((lifted_checks l).row i t))
      ≡ count_by (λ p. not (K p)) (take n ((lifted_checks l).row i t)) + cond (not (K (place_at l i n t))) 1 0
  lacking_next K = rw (← position_is l i n t within)
      (count_more (λ p. not (K p)) ((lifted_checks l).row i t) n 0 (omega (arith, row_long l i t)))

  -- a row that misses the last entry's position knows the others
  pub known_before : {W D : ℕ} → (a : Lanes W D) → length (row_of (entries_in l.plan.graph l.table.now) i) ≤ n + 1
      → count_by (λ p. not (bit a.known.items p)) ((lifted_checks l).row i t) ≡ 1
      → bit a.known.items (place_at l i n t) ≡ false
      → count_by (λ p. not (bit a.known.items p)) (take n ((lifted_checks l).row i t)) ≡ 0
  known_before a all one out =
      grind (arith, lacking_next (bit a.known.items), take_all (n + 1) ((lifted_checks l).row i t), row_long l i t)

-- what one more entry adds in a row
fit : (o k b : Bool) (x y w : ℕ) → y ≡ x + cond (not k) 1 0 → (k ≡ true → b ≡ true) → y ≤ w
    → (o ≡ true → w ≡ 1) → cond {A = ℕ} (o && not (x == 0)) 1 0 + cond (o && not b) 1 0 ≤ cond (o && not (y == 0)) 1 0
fit o k b x y w next known few one = grind (arith, nat_tests)

-- the rows of a lane that have a position outside a set among the first n entries
abbrev pub misses : Lifted → ℕ → List ℕ → (ℕ → Bool) → ℕ → ℕ → Bool
misses l i ones K n t = is_set ones t && not (count_by (λ p. not (K p)) (take n ((lifted_checks l).row i t)) == 0)

-- a lane marks rows of a row of blocks that have one unknown position each, and the row block needs no look
pub record HasOnes {W D : ℕ} (l : Lifted) (i : ℕ) (ones : List ℕ) (a : Lanes W D) : Type 0 where
  pub table : IsTable l.table.now
  pub block : i < (lifted_checks l).rows
  pub lanes : AreLanes (lifted_checks l) a
  pub one : (t : ℕ) → t < l.plan.z → is_set ones t ≡ true
      → count_by (λ p. not (bit a.known.items p)) ((lifted_checks l).row i t) ≡ 1
  pub own : NeedsNoLook (lifted_checks l) i a.seen

-- the first n entries of a row of blocks were taken for the rows of a lane
pub record IsTaking {W D : ℕ} (l : Lifted) (i : ℕ) (ones : List ℕ) (n : ℕ) (old new : Lanes W D)
    (before after : Order) : Type 0 where
  pub fixes : Fixes (lifted_checks l) (bit old.known.items) old new before after
  pub few : length fixes.steps ≤ marked_count (misses l i ones (bit old.known.items) n) l.plan.z
  pub pairs : step_pairs (lifted_checks l) fixes.steps
      ≡ length fixes.steps * length (row_of (entries_in l.plan.graph l.table.now) i)
  pub whole : (t : ℕ) → t < l.plan.z → is_set ones t ≡ true
      → count_by (λ p. not (bit new.known.items p)) (take n ((lifted_checks l).row i t)) ≡ 0
  pub own : NeedsNoLook (lifted_checks l) i new.seen
  pub others : SeesOthers (lifted_checks l) i ones old.seen new.seen

module _ {W D : ℕ} {l : Lifted} {i : ℕ} {ones : List ℕ} {a : Lanes W D} (r : HasOnes l i ones a) where
  abbrev c : Checks
  c = lifted_checks l

  abbrev row : List Entry
  row = row_of (entries_in l.plan.graph l.table.now) i

  abbrev K : ℕ → Bool
  K = bit a.known.items

  -- before the first entry whose position a row misses
  pub taking_start : (n : ℕ) (x : Order)
      → ((t : ℕ) → t < l.plan.z → is_set ones t ≡ true
      → count_by (λ p. not (bit a.known.items p)) (take n (c.row i t)) ≡ 0) → IsTaking l i ones n a a x x
  taking_start n x known = record {
    fixes = fixes_none c K a x r.lanes;
    few = omega arith;
    pairs = omega (arith, step_pairs-none c);
    whole = known;
    own = r.own;
    others = λ h t k _ _ _ _. refl;
  }

  -- at most the rows of the lane
  lacking_most : (n : ℕ) → marked_count (misses l i ones K n) l.plan.z ≤ marked_count (is_set ones) l.plan.z
  lacking_most n = marked_more (misses l i ones K n) (is_set ones) (λ t h. grind arith) l.plan.z

  module _ (n : ℕ) (m : Lanes W D) {x y : Order} (within_row : n < length row) (so_far : IsTaking l i ones n a m x y) where
    abbrev e : Entry
    e = entry_in l i n

    K_known : Within K (bit m.known.items)
    K_known = known_more c K a m so_far.fixes

    lacking_more : marked_count (misses l i ones K n) l.plan.z + marked_count (missing_at l e ones m) l.plan.z
        ≤ marked_count (misses l i ones K (n + 1)) l.plan.z
    lacking_more = marked_two (misses l i ones K n) (missing_at l e ones m) (misses l i ones K (n + 1)) l.plan.z
        (λ t below. fit _ _ _ _ _ _ (lacking_next l i n t within_row K) (K_known (place_at l i n t))
        (sum_by-take-le (λ p. cond (not (K p)) 1 0) (c.row i t) (n + 1)) (r.one t below))

    -- the counts know of the positions of the next entry that are known
    pub taking_seen : (t : ℕ) → t < l.plan.z → has_seen m.seen i n t ≡ bit m.known.items (place_at l i n t)
    taking_seen t below =
        let inside : n < length (c.row i t) = omega (arith, within_row, row_long l i t) in
        rw (← position_is l i n t within_row)
        (so_far.fixes.lanes.seen.fresh i t n r.block below inside (so_far.own t n below inside))

    -- and the next entry has a lane
    pub taking_entry : slice_index m.seen.starts i + n < length m.seen.lanes.items
    taking_entry =
        entry_inside c m.known.items m.seen so_far.fixes.lanes.seen i n 0 r.block (omega (arith, within_row, row_long l i 0))

    -- the steps find room
    pub taking_room : length y.list.items + marked_count (missing_at l e ones m) l.plan.z
        ≤ length x.list.items + marked_count (is_set ones) l.plan.z
    taking_room = omega (
      arith,
      ap length so_far.fixes.adds.order,
      length-append x.list.items (told x.kept so_far.fixes.steps),
      told_few x.kept so_far.fixes.steps,
      lacking_more,
      lacking_most (n + 1),
    )

    module _ (sums : List ℕ) (d : Lanes W D) {w : Order} (took : TakesLane l i n e ones sums m d y w)
        (sums_are : (t : ℕ) → t < l.plan.z → is_set sums t ≡ parity (bit a.bits.items) (c.row i t)) where
      row_is : e.row ≡ i
      row_is = eqb-true e.row i (filter_passes (λ (x : Entry). x.row == i) (entries_in l.plan.graph l.table.now) n
          (record { row = 0; col = 0; values = [] }) within_row)

      column : (e.col + 1) * l.plan.z ≤ c.size
      column = row_columns l.table.now l.plan.graph (numbers l.plan) r.table l.plan.sound.size_some i n
          (record { row = 0; col = 0; values = [] }) within_row

      there : (t : ℕ) → t < l.plan.z → stands (place_at l i n t) (c.row i t) ≡ true
      there t below = rw (← position_is l i n t within_row) (stands_at (c.row i t) n (omega (arith, row_long l i t)))

      seen : AreSeen c d.known.items d.seen
      seen = seen_still l i n ones sums m d r.table r.block within_row so_far.fixes.lanes so_far.own took

      right : (w : ℕ → Bool) → Meets c w → HasBits m.known.items m.bits.items w → (t : ℕ) → t < l.plan.z
          → missing_at l e ones m t ≡ true → w (place_at l i n t) ≡ is_set sums t
      right w meets has t below h =
          let p = place_at l i n t in
          let sound = checks_sound _ _ (numbers l.plan) r.table l.plan.sound.size_some in
          let only = only_at l i n e ones sums K m d took so_far.fixes.lanes seen l.plan.sound.size_some r.block row_is column
          K_known there r.one t below h in
          let out = outside (bit a.known.items) (bit m.known.items) (known_more c K a m so_far.fixes) p
          (not-true (bit m.known.items p) (and_parts (is_set ones t) (not (bit m.known.items p)) h).1) in
          forced_bit w (bit a.bits.items) K p (c.row i t) (sound.distinct i t r.block below)
          (Meets-each c w meets i t r.block below) only
          (r.lanes.blank p out)
          (λ q k. has q (K_known q k) ∙ so_far.fixes.kept q k) ∙ sym (sums_are t below)

      pub taking_more : IsTaking l i ones (n + 1) a d x w
      taking_more =
          let f = take_fixes l i n e ones sums K m d took so_far.fixes.lanes seen l.plan.sound.size_some r.block row_is column
          K_known there r.one right in
          let long = ap length f.1 ∙ steps_count _ _ l.plan.z in
          let alike = step_pairs-alike c (rotated_step l.plan.z e.row e.col (value_in l.plan.set e % l.plan.z))
          (missing_at l e ones m) (length row) l.plan.z (λ t below. ap (λ r. length (c.row r t)) row_is ∙ row_long l i t) in
          record {
            fixes = fixes_then {K = K} {M = K} (λ p k. k) so_far.fixes f.0;
            few = omega (arith, length-append so_far.fixes.steps f.0.steps, long, so_far.few, lacking_more);
            pairs = step_pairs-join c so_far.fixes.steps f.0.steps (so_far.fixes.steps ++ f.0.steps) (length row) refl so_far.pairs
                (ap (step_pairs c) f.1 ∙ alike ∙ ap (λ m. m * length row) (sym long));
            whole = λ t below set_there.
                let knows = take_knows l i n e ones sums K m d took so_far.fixes.lanes seen l.plan.sound.size_some r.block row_is
                column K_known there r.one t below set_there in
                let fewer = count_fewer (bit m.known.items) (bit d.known.items) (known_more c K m d f.0) (take n (c.row i t)) in
                grind (arith, lacking_next l i n t within_row (bit d.known.items), knows, fewer, so_far.whole t);
            own = own_still l i n ones sums m d r.table r.block within_row so_far.fixes.lanes so_far.own took;
            others = λ h t k hr below kl out.
                others_still l i n ones sums m d r.table r.block within_row so_far.fixes.lanes so_far.own took h t k hr below kl out
                ∙ so_far.others h t k hr below kl out;
          }

  -- after all entries are taken
  pub taking_done : (n : ℕ) (d : Lanes W D) {x y : Order} → length row ≤ n → IsTaking l i ones n a d x y
      → IsBlockSought c i ones a d x y
  taking_done n d all so_far =
      let few : length so_far.fixes.steps ≤ marked_count (is_set ones) l.plan.z = omega (arith, so_far.few, lacking_most n) in
      record {
        fixes = so_far.fixes;
        few = few;
        searched = rw (row_long l i 0) (omega (arith, so_far.pairs, mul-le-mul_right (length row) few));
        whole = λ t below h. grind (arith, take_all n (c.row i t), row_long l i t, so_far.whole t);
        own = so_far.own;
        others = so_far.others;
      }

  -- a row of blocks that has such a row has an entry
  pub some_entry : 0 < marked_count (is_set ones) l.plan.z → 0 < length row
  some_entry some =
      let none = λ (le : length row ≤ 0).
      no_marks (is_set ones) l.plan.z
      (λ t below. grind (arith, r.one t, count_by-le-length (λ p. not (K p)) (c.row i t), row_long l i t)) in
      grind (arith, cases_lt, none)

-- a row block none of whose rows is searched
pub sought_none : {W D : ℕ} → (c : Checks) (i : ℕ) (ones : List ℕ) (a : Lanes W D) (x : Order) → AreLanes c a
    → NeedsNoLook c i a.seen → ((t : ℕ) → t < c.lanes → is_set ones t ≡ false) → IsBlockSought c i ones a a x x
sought_none c i ones a x lanes own none = record {
  fixes = fixes_none c (bit a.known.items) a x lanes;
  few = omega arith;
  searched = omega (arith, step_pairs-none c);
  whole = λ t below has. grind (arith, none t);
  own = own;
  others = λ h t k _ _ _ _. refl;
}
