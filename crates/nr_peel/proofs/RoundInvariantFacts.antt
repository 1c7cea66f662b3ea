-- What is kept from turn to turn: counts catch up, rows fix positions, and then their counts fall to none.
use Rattle.nr_peel.proofs.Common.{false≢true, nat_tests, ◌≡◌, ◌≢◌, ℕ, ◌+◌, ◌-◌, ◌*◌}
use Rattle.nr_peel.proofs.Common.{◌^◌, ◌<◌, ◌≤◌, ◌||◌, ◌++◌, if◌then◌else◌, Bool, true, false, List}
use Rattle.nr_peel.proofs.Common.{length, refl, sym, ap, ◌∙◌, arith, length-append, slice_index, sum, vec_capacity, cases_eq}
use Rattle.nr_peel.proofs.Common.{bit, is_set, marked_count, marked-le}
use Rattle.nr_peel.proofs.Common.{mul-le-mul_left, mul-le-mul_right, Checks, work_of, IsHeld, Keeps, Fixes, IsBlockSought}
use Rattle.nr_peel.proofs.Common.{Lanes, Sweep, has_count, step_pairs, Order, Progress, DueCounts, TurnsGoOn, Passes, full_rows}
use Rattle.nr_peel.proofs.Common.{CountsOthers, has_seen, is_behind, RowsSettle, all_pairs, spent_pairs, Reaches, after_steps}
use Rattle.nr_peel.{proofs.Common.HasRoom, proofs.Common.told, specs.inside.Searches.IsQuiet, specs.inside.Searches.Visits}
use Rattle.nr_peel.specs.inside.Searches.{may_wait}
use Rattle.nr_peel.{specs.inside.Settled.CatchesUp, proofs.MarkedFacts.marked_zero, proofs.SeenCountFacts.caught_counts}
use Rattle.nr_peel.proofs.FixOrderFacts.{after_accepted, goes_none, goes_then, accepted_after}
use Rattle.nr_peel.proofs.PairSumFacts.{spent_le, spent_more, sum_below-same}
use Rattle.nr_peel.proofs.StepPairFacts.{step_pairs-append, told_pairs}
use Rattle.nr_peel.proofs.SweepStepFacts.{fixed_twice, known_more, told_all, told_few}
use Rattle.nr_peel.proofs.TallyFacts.{block_marked, none_and_one, ones_all, ones_fall, ones_in, ones_one, ones_pairs, searched_most}
use Rattle.nr_peel.proofs.TallyFacts.{spent_searched, sum_falls, zeros_gain, zeros_more}

-- ---- what is known is kept

pub keeps_then : {W D : ℕ} → (c : Checks) (a b d : Lanes W D) {x y w : Order} → Keeps c a b x y → Keeps c b d y w
    → Keeps c a d x w
keeps_then c a b d one two =
    record {
      known = λ p e. two.known p (one.known p e);
      bits = λ p e. two.bits p (one.known p e) ∙ one.bits p e;
      words = λ w meets has. two.words w meets (one.words w meets has);
      reaches = λ G r. two.reaches G (one.reaches G r);
      order = goes_then _ _ _ one.order two.order;
      same = two.same ∙ one.same;
    }

keeps_same : {W D : ℕ} → (c : Checks) (a b : Lanes W D) (x : Order) → b.known ≡ a.known → b.bits ≡ a.bits
    → Keeps c a b x x
keeps_same c a b x known bits = record {
  known = λ p k. ap (λ v. bit v.items p) known ∙ k;
  bits = λ p k. ap (λ v. bit v.items p) bits;
  words = λ w meets has. rw (known, bits) has;
  reaches = λ G r. record {
    steps = r.steps;
    are = r.are;
    accepted = r.accepted;
    reached = λ p. ap (λ v. bit v.items p) known ∙ r.reached p;
  };
  order = goes_none x.list.items;
  same = refl;
}

fixes_reach : {W D : ℕ} → (c : Checks) (old new : Lanes W D) {x y : Order} → Fixes c (bit old.known.items) old new x y
    → (G : ℕ → Bool) → Reaches c G old.known.items x → Reaches c G new.known.items y
fixes_reach c old new {x} {y} f G r = record {
  steps = r.steps ++ f.steps;
  are = λ kept. (
      let was = sym f.adds.same ∙ kept in
      f.adds.order ∙ ap (λ v. v ++ told x.kept f.steps) (r.are was) ∙ ap (λ v. r.steps ++ v) (told_all x.kept f.steps was)
      );
  accepted = accepted_after c G r.steps f.steps r.accepted
      (f.accepted (after_steps c G r.steps) (λ p k. after_accepted c G r.steps p r.accepted ∙ sym (r.reached p) ∙ k));
  reached = λ p. fixed_twice r.steps f.steps (G p) (bit old.known.items p) (bit new.known.items p) p (r.reached p) (f.known p);
}

pub fixes_keep : {W D : ℕ} → (c : Checks) (old new : Lanes W D) {x y : Order} → Fixes c (bit old.known.items) old new x y
    → Keeps c old new x y
fixes_keep c old new {x} f = record {
  known = known_more c (bit old.known.items) old new f;
  bits = f.kept;
  words = f.words;
  reaches = fixes_reach c old new f;
  order = record { more = told x.kept f.steps; is = f.adds.order };
  same = f.adds.same;
}

pub on_none : {W D : ℕ} → {c : Checks} {a : Sweep W D} {p : Progress} → IsHeld c a p → TurnsGoOn c a a p p
on_none {c} {a} {p} h = grind (arith, keeps_same c a.lanes a.lanes p.order refl refl)

pub on_then : {W D : ℕ} → {c : Checks} {a b d : Sweep W D} {p q r : Progress} → TurnsGoOn c a b p q → TurnsGoOn c b d q r
    → TurnsGoOn c a d p r
on_then {c} {a} {b} {d} one two = grind (arith, one, two, keeps_then c a.lanes b.lanes d.lanes one.keeps two.keeps)

-- ---- a row block is passed over

-- one that has caught up, and has no count of one
pub idle_visits : {W D : ℕ} → {c : Checks} {i : ℕ} {last : Bool} {a : Sweep W D} {p : Progress} → IsHeld c a p
    → i < c.rows → is_behind a.lanes.seen i ≡ false
    → ((t : ℕ) → t < c.lanes → slice_index a.counts.items (i * c.lanes + t) ≢ 1) → Visits c i last false a a p p
idle_visits {c} {i} {last} {a} h row rested none = record {
  on = on_none h;
  rises = λ e. absurd (false≢true e);
  known = λ _. refl;
  others = λ _ g t other below. refl;
  quiet = λ _ _. (
    caught_counts c a.lanes.seen a.lanes.known.items a.counts.items i row h.counted
        (λ t k tl kl. h.lanes.seen.fresh i t k row tl kl (h.lanes.seen.rested i t k row tl kl rested)),
    none,
  );
}

-- one that may wait, before the last pass
pub waiting_visits : {W D : ℕ} → {c : Checks} {i : ℕ} {last : Bool} {a : Sweep W D} {p : Progress} → IsHeld c a p
    → last ≡ false → may_wait c a.lanes.known.items i ≡ true → Visits c i last false a a p p
waiting_visits {c} {i} {last} {a} h early waits = record {
  on = on_none h;
  rises = λ e. absurd (false≢true e);
  known = λ _. refl;
  others = λ _ g t other below. refl;
  quiet = λ _ done. absurd (false≢true (rw (early, waits) at done));
}

-- ---- a turn may begin

pub held_few : {W D : ℕ} → {c : Checks} {a : Sweep W D} {p : Progress} → IsHeld c a p
    → p.touches + sum a.counts.items < 2 ^ 64
held_few {c} {a} h = omega (arith, h.most, h.small, spent_le c a.counts.items)

pub held_roomy : {W D : ℕ} → {c : Checks} {a : Sweep W D} {p : Progress} → IsHeld c a p
    → work_of a.counts + 2 * sum a.counts.items < 2 ^ 63
held_roomy {c} {a} h = omega (arith, h.worked, h.most, h.small, spent_le c a.counts.items)

-- there is room for a step of each row with a count of one
pub held_room : {W D : ℕ} → {c : Checks} {a : Sweep W D} {p : Progress} {i : ℕ} → IsHeld c a p → i < c.rows
    → HasRoom p.order (length p.order.list.items + marked_count (λ t. has_count 1 a.counts.items (i * c.lanes + t)) c.lanes)
held_room {c} {a} {p} {i} h block kept =
    omega (
      arith,
      h.order_room kept,
      h.order_few,
      block_marked c (has_count 1 a.counts.items) i block,
      none_and_one
          a.counts.items (c.rows * c.lanes),
    )

-- ---- the counts catch up

pub caught_held : {W D : ℕ} → {c : Checks} {i : ℕ} {a b : Sweep W D} {p q : Progress} → IsHeld c a p
    → CatchesUp c i a b p q → IsHeld c b q
caught_held {c} {i} {a} {b} {p} {q} h caught =
    let paid : q.touches ≤ c.lanes * b.counts.operations = omega (arith, ap (λ r. r.touches) caught.2, caught.1.paid, h.paid) in
    grind (arith, paid, zeros_more a.counts.items b.counts.items, spent_more c a.counts.items b.counts.items)

pub caught_on : {W D : ℕ} → {c : Checks} {i : ℕ} {a b : Sweep W D} {p q : Progress} → IsHeld c a p → CatchesUp c i a b p q
    → TurnsGoOn c a b p q
caught_on {c} {i} {a} {b} {p} {q} h caught =
    let held = caught_held h caught in
    grind (arith, held, zeros_more a.counts.items b.counts.items, keeps_same c a.lanes b.lanes p.order)

-- no row was found: nothing but the counts' work changes
pub none_visits : {W D : ℕ} → {c : Checks} {i : ℕ} {last : Bool} {a b d : Sweep W D} {p q : Progress} (ones : List ℕ)
    → IsHeld c a p → CatchesUp c i a b p q → d.lanes ≡ b.lanes → d.counts.items ≡ b.counts.items
    → d.counts.lanes ≡ b.counts.lanes
    → work_of d.counts ≤ work_of b.counts → b.counts.operations ≤ d.counts.operations
    → marked_count (is_set ones) c.lanes ≡ 0
    → ((t : ℕ) → t < c.lanes → slice_index b.counts.items (i * c.lanes + t) ≡ 1 → is_set ones t ≡ true)
    → Visits c i last false a d p q
none_visits {c} {i} {last} {a} {b} {d} {p} {q} ones h caught lanes items counts worked more none all =
    let held = caught_held h caught in
    let paid : q.touches ≤ c.lanes * d.counts.operations = omega (arith, held.paid, mul-le-mul_left c.lanes more) in
    let keeps = keeps_same c b.lanes d.lanes q.order (ap (λ s. s.known) lanes) (ap (λ s. s.bits) lanes) in
    let same : TurnsGoOn c b d q q = grind (arith, held, paid, keeps) in
    record {
      on = on_then (caught_on h caught) same;
      rises = λ e. absurd (grind (arith, nat_tests));
      known = λ _. ap (λ s. s.known) lanes ∙ caught.1.known;
      others = λ _ g t other below. rw items (caught.1.others g t other below);
      quiet = λ _ _. (
        rw (lanes, items) caught.1.caught,
        λ t below one. grind (arith, nat_tests, marked_zero (is_set ones) c.lanes none t below, all t below),
      );
    }

-- ---- rows fix positions

module _ {W D : ℕ} {c : Checks} {i d : ℕ} {b : Sweep W D} {q : Progress} (block : i < c.rows)
    (alike : (t : ℕ) → length (c.row i t) ≡ d) (h : IsHeld c b q) (ones : List ℕ) where
  abbrev found : ℕ
  found = marked_count (is_set ones) c.lanes

  -- the counts of all other rows are still those of what they don't know of
  pub sought_counted : (m : Lanes W D) (n : DueCounts) {x y : Order} → IsBlockSought c i ones b.lanes m x y
      → n.items ≡ b.counts.items → CountsOthers c i ones m.seen n.items
  sought_counted m n sought items g t row below other =
      let same = sum_below-same (λ k. if has_seen m.seen g k t then 0 else 1) (λ k. if has_seen b.lanes.seen g k t then 0 else 1)
      (length (c.row g t)) (λ k kl. ap (λ s. if s then 0 else 1) (sought.others g t k row below kl other)) in
      ap (λ v. slice_index v (g * c.lanes + t)) items ∙ h.counted g t row below ∙ sym same

  module _ (some : 0 < c.lanes) where
    -- all pairs of these rows
    found_most : found * d ≤ all_pairs c
    found_most = omega (arith, ones_pairs c some i ones d block alike, searched_most c (ones_in c i ones))

    -- the visits and the operations fit
    pub found_fit : found ≤ 384 → q.touches + found * (d + 1) < 2 ^ 64
    found_fit few = omega (arith, found_most, h.most, h.small, spent_le c b.counts.items)

    pub found_roomy : (n : DueCounts) → work_of n ≤ work_of b.counts + 3 * (found * d) → n.operations + 1 < 2 ^ 64
    found_roomy n worked = omega (arith, worked, found_most, h.worked, h.most, h.small, spent_le c b.counts.items)

    module _ (one : (t : ℕ) → t < c.lanes → is_set ones t ≡ true → slice_index b.counts.items (i * c.lanes + t) ≡ 1)
        (m : Lanes W D) (n : DueCounts) {order : Order} (sought : IsBlockSought c i ones b.lanes m q.order order)
        (items : n.items ≡ b.counts.items) (lanes : n.lanes ≡ b.counts.lanes)
        (worked : work_of n ≤ work_of b.counts + 3 * (found * d)) (more : b.counts.operations + d ≤ n.operations)
        (e : Sweep W D) (settled : RowsSettle c i ones m e.lanes n e.counts) (r : Progress) (given : r.given ≡ q.given)
        (steps_are : r.order ≡ order) (touches : r.touches ≡ q.touches + found * (d + 1)) where
      abbrev u : ℕ → Bool
      u = ones_in c i ones

      falls : (k : ℕ) → slice_index e.counts.items k + (if u k then 1 else 0) ≡ slice_index b.counts.items k
      falls = rw items at (ones_fall c some i ones n.items e.counts.items settled.falls)

      ones_are : (k : ℕ) → u k ≡ true → slice_index b.counts.items k ≡ 1
      ones_are = ones_one c some i ones b.counts.items one

      zeros : full_rows c b + found ≤ full_rows c e
      zeros = omega (arith, zeros_gain c u b.counts.items e.counts.items falls ones_are, ones_all c some i ones block)

      spent : spent_pairs c b.counts.items + found * d ≤ spent_pairs c e.counts.items
      spent = omega (arith, spent_searched c u b.counts.items e.counts.items falls ones_are, ones_pairs c some i ones d block alike)

      long : length e.counts.items ≡ length b.counts.items
      long = settled.counts_long ∙ ap length items

      total : sum e.counts.items + found ≡ sum b.counts.items
      total = omega (
        arith,
        sum_falls u b.counts.items e.counts.items long falls,
        ap (marked_count u) h.counts_long,
        ones_all c some i ones block,
      )

      steps : r.order.list.items ≡ q.order.list.items ++ told q.order.kept sought.fixes.steps
      steps = ap (λ v. v.list.items) steps_are ∙ sought.fixes.adds.order

      steps_pairs : step_pairs c r.order.list.items ≤ step_pairs c q.order.list.items + found * d
      steps_pairs = omega (
        arith,
        ap (step_pairs c) steps,
        step_pairs-append c q.order.list.items (told q.order.kept sought.fixes.steps),
        told_pairs c q.order.kept sought.fixes.steps,
        sought.searched,
        ap (λ x. found * x) (alike 0),
      )

      more_operations : b.counts.operations + d + 1 ≤ e.counts.operations
      more_operations = omega (arith, more, settled.paid)

      found_held : 0 < found → IsHeld c e r
      found_held rows = record {
        lanes = settled.lanes;
        counts_lanes = settled.counts_lanes ∙ lanes ∙ h.counts_lanes;
        counts_long = long ∙ h.counts_long;
        counted = settled.counted;
        order_few = omega (
          arith,
          ap length steps,
          length-append q.order.list.items (told q.order.kept sought.fixes.steps),
          told_few q.order.kept sought.fixes.steps,
          sought.few,
          zeros,
          h.order_few,
        );
        order_room = λ kept. omega (
          arith,
          ap (λ v. vec_capacity v.list) steps_are,
          sought.fixes.adds.capacity,
          h.order_room (sym sought.fixes.adds.same ∙ sym (ap (λ v. v.kept) steps_are) ∙ kept),
        );
        least = omega (arith, steps_pairs, total, touches, h.least);
        most = omega (arith, spent, total, touches, h.most);
        worked = omega (arith, settled.worked, worked, touches, h.worked, rows);
        paid = omega (arith, mul-le-mul_right (d + 1) (marked-le (is_set ones) c.lanes), mul-le-mul_left c.lanes more_operations);
        small = h.small;
      }

      pub found_visits : 0 < found → (last : Bool) (a : Sweep W D) {p : Progress} → TurnsGoOn c a b p q
          → Visits c i last true a e p r
      found_visits rows last a on =
          let keeps =
          rw (← steps_are) at (keeps_then c b.lanes m e.lanes (fixes_keep c b.lanes m sought.fixes)
          (keeps_same c m e.lanes order settled.known settled.bits)) in
          let here : TurnsGoOn c b e q r = grind (arith, found_held rows, keeps, zeros) in
          record {
            on = on_then on here;
            rises = λ _. omega (arith, on.full, zeros, rows);
            known = λ no. absurd (grind (arith, nat_tests));
            others = λ no. absurd (grind (arith, nat_tests));
            quiet = λ no. absurd (grind (arith, nat_tests));
          }

-- ---- turn after turn

pub passes_none : {W D : ℕ} → {c : Checks} {last : Bool} {a : Sweep W D} {p : Progress} → IsHeld c a p
    → Passes c 0 last false a a p p
passes_none {c} {last} {a} h =
    record { on = on_none h; rises = λ e. absurd (grind (arith, nat_tests)); quiet = λ _ g none. absurd (omega (arith, none)) }

pub passes_more : {W D : ℕ} → {c : Checks} {n : ℕ} {last found more : Bool} {a b d : Sweep W D} {p q r : Progress}
    → Passes c n last found a b p q → Visits c n last more b d q r → Passes c (n + 1) last (found || more) a d p r
passes_more {c} {n} {last} {found} {more} {a} {b} {d} first second = record {
  on = on_then first.on second.on;
  rises = λ e. grind (arith, nat_tests, first.rises, second.rises, first.on.full, second.on.full);
  quiet = λ no g below done.
      let known = second.known (grind (arith, nat_tests)) in
      let still = λ (other : g ≢ n).
      quiet_still c g b d known
      (λ t lane. second.others (grind (arith, nat_tests)) g t other lane)
      (first.quiet (grind (arith, nat_tests)) g (omega (arith, below, other)) (rw known at done)) in
      grind (arith, nat_tests, cases_eq g n, still, second.quiet);
}
  where
    quiet_still : {W D : ℕ} → (c : Checks) (g : ℕ) (b d : Sweep W D) → d.lanes.known ≡ b.lanes.known
        → ((t : ℕ) → t < c.lanes
        → slice_index d.counts.items (g * c.lanes + t) ≡ slice_index b.counts.items (g * c.lanes + t)) → IsQuiet c b g
        → IsQuiet c d g
    quiet_still c g b d known same quiet =
        (λ t below. rw known (same t below ∙ quiet.0 t below), λ t below one. quiet.1 t below (sym (same t below) ∙ one))

-- a pass that found a row, last or not
pub passes_found : {W D : ℕ} → {c : Checks} {n m : ℕ} {last other : Bool} {a b : Sweep W D} {p q : Progress}
    → Passes c n last true a b p q → Passes c m other true a b p q
passes_found {c} {n} {m} {last} {other} {a} {b} first =
    record { on = first.on; rises = first.rises; quiet = λ no. absurd (false≢true (sym no)) }

-- a pass alone, where no last one is made
pub passes_early : {W D : ℕ} → {c : Checks} {n : ℕ} {other found : Bool} {a b : Sweep W D} {p q : Progress}
    → Passes c n false found a b p q → other ≡ false → Passes c n other found a b p q
passes_early {c} {n} {other} {found} {a} {b} first none =
    record { on = first.on; rises = first.rises; quiet = λ no g below done. first.quiet no g below (rw none at done) }

-- a pass after another one
pub passes_then : {W D : ℕ} → {c : Checks} {n m : ℕ} {last other found more : Bool} {a b d : Sweep W D} {p q r : Progress}
    → Passes c n last found a b p q → Passes c m other more b d q r → Passes c m other more a d p r
passes_then {c} {n} {m} {last} {other} {found} {more} {a} {b} {d} first second = record {
  on = on_then first.on second.on;
  rises = λ e. omega (arith, first.on.full, second.rises e);
  quiet = second.quiet;
}

-- a last pass after one that found none
pub passes_last : {W D : ℕ} → {c : Checks} {n : ℕ} {last other found more : Bool} {a b d : Sweep W D} {p q r : Progress}
    → Passes c n last found a b p q → Passes c n true more b d q r → Passes c n other more a d p r
passes_last {c} {n} {last} {other} {found} {more} {a} {b} {d} first second = record {
  on = on_then first.on second.on;
  rises = λ e. omega (arith, first.on.full, second.rises e);
  quiet = λ no g below _. second.quiet no g below refl;
}

-- fewer rows are left
pub rows_fewer : {W D : ℕ} → (c : Checks) (a b : Sweep W D) → full_rows c a < full_rows c b
    → c.rows * c.lanes - full_rows c b < c.rows * c.lanes - full_rows c a
rows_fewer c a b more = omega (arith, more, marked-le (has_count 0 b.counts.items) (c.rows * c.lanes))
