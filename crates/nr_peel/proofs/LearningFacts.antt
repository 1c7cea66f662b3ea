-- Positions that are given while what is known is in order, and what a peeler is then.
use Rattle.nr_peel.proofs.Common.{◌≡◌, ℕ, ◌<◌, ◌≤◌, ◌||◌, Bool, true, false, length, refl, sym, ap}
use Rattle.nr_peel.proofs.Common.{◌∙◌, arith, [], nat_lt, or_left, or_right, true≢false, bit, numbers, IsTable, Checks}
use Rattle.nr_peel.proofs.Common.{is_fixed_by, GivesPositions, IsAnySettled, IsStarted, IsSettled, Peeling, any_view, unknown_in}
use Rattle.nr_peel.proofs.Common.{HasBits, fillers, left_of, IsHeld, Keeps, Reaches, IsBlankSweep, lifted_checks, sweep_view}
use Rattle.nr_peel.proofs.Common.{AreLanes, Lanes, Lifted, Progress, Sweep, Order, CountsUnseen, AnySweep}
use Rattle.nr_peel.specs.{Peeling.core_size, inside.Searches.IsDone}
use Rattle.nr_peel.{specs.inside.Learning.Learns, proofs.FixOrderFacts.all_accepted_within, proofs.FixOrderFacts.goes_taken}
use Rattle.nr_peel.proofs.FillerFacts.{fillers_fit, fillers_long, fillers_there, fillers_within}
use Rattle.nr_peel.proofs.{LeftPositionFacts.stuck_has, LeftPositionFacts.stuck_stops, SweepViewFacts.sweep_peeled}
use Rattle.nr_peel.{proofs.TableGridFacts.checks_sound, specs.Peeling.HasEachStopping, specs.Peeling.StopsWhereLeft}
use Rattle.std.proofs.Common.{subst}
use Rattle.nr_peel.specs.declared.any_sweep.AnySweep.TheVariants as variant

module _ {W D : ℕ} {c : Checks} {H V : ℕ → Bool} {a d : Lanes W D} (lanes : AreLanes c a) (h : GivesPositions c H V a d) where
  pub heard_known : (p : ℕ) → bit a.known.items p ≡ true → bit d.known.items p ≡ true
  heard_known p e = h.known p ∙ or_left (bit a.known.items p) (H p) e

  heard_bits : (p : ℕ) → bit a.known.items p ≡ true → bit d.bits.items p ≡ bit a.bits.items p
  heard_bits p e = grind (arith, h.bits p)

  heard_taken : (p : ℕ) → H p ≡ true → bit a.known.items p ≡ false → bit d.bits.items p ≡ V p
  heard_taken p heard out = grind (arith, h.bits p, lanes.blank p out)

  heard_words : (w : ℕ → Bool) → HasBits a.known.items a.bits.items w → ((p : ℕ) → H p ≡ true → w p ≡ V p)
      → HasBits d.known.items d.bits.items w
  heard_words w has are p e = grind (arith, has p, are p, h.bits p, lanes.blank p, h.known p)

  -- what is known is reached from the positions that were given before and those that are given now
  heard_reaches : (G F : ℕ → Bool) (x : Order) → ((p : ℕ) → F p ≡ (G p || H p)) → Reaches c G a.known.items x
      → Reaches c F d.known.items x
  heard_reaches G F x more r = record {
    steps = r.steps;
    are = r.are;
    accepted = all_accepted_within c G F r.steps (λ p k. more p ∙ or_left (G p) (H p) k) r.accepted;
    reached = λ p. grind (arith, h.known p, more p, r.reached p);
  }

-- the counts are in order before they are updated
pub heard_held : {W D : ℕ} → (c : Checks) (H V : ℕ → Bool) (a d : Sweep W D) (x y : Progress) → IsHeld c a x
    → GivesPositions c H V a.lanes d.lanes → d.counts ≡ a.counts → y.order ≡ x.order → y.touches ≡ x.touches
    → IsHeld c d y
heard_held c H V a d x y held h counts order touches =
    let unseen_still : CountsUnseen c d.lanes.seen d.counts.items =
    λ i t row below. rw (counts, h.seen.lanes, h.seen.starts) (held.counted i t row below) in
    grind (arith, unseen_still, held, h)

-- the fillers are known
fillers_known : {W D : ℕ} → (l : Lifted) (b : Progress) (s : Sweep W D) → IsSettled l b s → (p : ℕ) → l.plan.kdash ≤ p
    → p < l.plan.k → bit s.lanes.known.items p ≡ true
fillers_known l b s h p low below =
    h.reaches.reached p ∙ or_left (bit b.given.items p) (is_fixed_by h.reaches.steps p) (h.fillers p low below)

-- what follows can be fixed after positions are given
pub may_go_on : {W D : ℕ} → (l : Lifted) (H V : ℕ → Bool) (x y : Progress) (a d : Sweep W D) → IsSettled l x a
    → GivesPositions (lifted_checks l) H V a.lanes d.lanes → d.counts ≡ a.counts → y.order ≡ x.order
    → y.touches ≡ x.touches
    → IsTable l.table.now
    × (IsHeld (lifted_checks l) d y × ((p : ℕ) → l.plan.kdash ≤ p → p < l.plan.k → bit d.lanes.known.items p ≡ true))
may_go_on l H V x y a d was h counts order touches =
    let held = heard_held (lifted_checks l) H V a d x y was.held h counts order touches in
    (was.table, (held, λ p low below. heard_known was.held.lanes h p (fillers_known l x a was p low below)))

module _ {W D : ℕ} (l : Lifted) (b : Progress) (new : Sweep W D) (held : IsHeld (lifted_checks l) new b)
    (quiet : (i : ℕ) → i < (lifted_checks l).rows → IsDone (lifted_checks l) b.order.kept new i)
    (left : b.left ≡ left_of l.plan.kdash new.lanes.known.items) (table : IsTable l.table.now) where
  settled_from : length b.given.items ≡ (lifted_checks l).size
      → Reaches (lifted_checks l) (bit b.given.items) new.lanes.known.items b.order
      → ((p : ℕ) → l.plan.kdash ≤ p → p < l.plan.k → bit b.given.items p ≡ true) → IsSettled l b new
  settled_from long reaches fillers = grind arith

  -- what follows from positions that were given
  pub learned_settled : (H V : ℕ → Bool) (x : Progress) (old : Sweep W D) (mid : Lanes W D) → IsSettled l x old
      → GivesPositions (lifted_checks l) H V old.lanes mid → length b.given.items ≡ length x.given.items
      → ((p : ℕ) → bit b.given.items p ≡ (bit x.given.items p || H p))
      → Keeps (lifted_checks l) mid new.lanes x.order b.order → IsSettled l b new
  learned_settled H V x old mid was h long given keeps =
      settled_from (long ∙ was.given_long)
      (keeps.reaches (bit b.given.items)
      (heard_reaches was.held.lanes h (bit x.given.items) (bit b.given.items) x.order given was.reaches))
      (λ p low below. given p ∙ or_left (bit x.given.items p) (H p) (was.fillers p low below))

  -- what follows from the fillers alone
  pub filled_settled : (blank : Sweep W D) (mid : Lanes W D) (x : Order) → x.list.items ≡ []
      → IsBlankSweep (lifted_checks l) blank
      → GivesPositions (lifted_checks l) (bit b.given.items) (bit []) blank.lanes mid
      → b.given.items ≡ fillers (lifted_checks l) (numbers l.plan) → Keeps (lifted_checks l) mid new.lanes x b.order
      → IsSettled l b new
  filled_settled blank mid x empty start h given keeps =
      let none : Reaches (lifted_checks l) (λ p. false) blank.lanes.known.items x =
      record { steps = []; are = λ _. empty; accepted = refl; reached = start.blank.unknown } in
      settled_from (ap length given ∙ fillers_long (lifted_checks l) (numbers l.plan))
      (keeps.reaches (bit b.given.items) (heard_reaches start.blank.lanes h (λ p. false) (bit b.given.items) x (λ p. refl) none))
      (λ p low below. ap (λ v. bit v p) given ∙ fillers_there (lifted_checks l) (numbers l.plan) p low below (fillers_fit l))

pub learned : {W D : ℕ} → (l : Lifted) (H V : ℕ → Bool) (x y : Progress) (old new : Sweep W D) (mid : Lanes W D)
    → IsSettled l x old → GivesPositions (lifted_checks l) H V old.lanes mid
    → ((p : ℕ) → bit y.given.items p ≡ (bit x.given.items p || H p))
    → Keeps (lifted_checks l) mid new.lanes x.order y.order → x.touches ≤ y.touches
    → Learns H V (sweep_view l x old) (sweep_view l y new)
learned l H V x y old new mid was h given keeps visited =
    let lanes = was.held.lanes in
    record {
      code = record { table = refl; graph = refl; numbers = refl; recorded = keeps.same };
      given = given;
      known = λ p e. keeps.known p (heard_known lanes h p e);
      bits = λ p e. keeps.bits p (heard_known lanes h p e) ∙ heard_bits lanes h p e;
      taken = λ p heard out. keeps.bits p (h.known p ∙ or_right (bit old.lanes.known.items p) (H p) heard)
          ∙ heard_taken lanes h p heard out;
      words = λ w meets has are. keeps.words w meets (heard_words lanes h w has are);
      steps = goes_taken x.order.list.items y.order.list.items keeps.order;
      visited = visited;
    }

pub started : {W D : ℕ} → (l : Lifted) (b : Progress) (new : Sweep W D) (blank : Sweep W D) (mid : Lanes W D) {x : Order}
    → IsBlankSweep (lifted_checks l) blank → GivesPositions (lifted_checks l) (bit b.given.items) (bit []) blank.lanes mid
    → b.given.items ≡ fillers (lifted_checks l) (numbers l.plan) → Keeps (lifted_checks l) mid new.lanes x b.order
    → IsSettled l b new
    → IsStarted l.table.now l.plan.graph (numbers l.plan) (sweep_view l b new)
started l b new blank mid start h given keeps is = record {
  table = refl;
  graph = refl;
  numbers = refl;
  given = given;
  words = λ w meets zero.
      keeps.words w meets (heard_words start.blank.lanes h w (λ p e. absurd (true≢false (sym e ∙ start.blank.unknown p)))
      (λ p e. zero p (fillers_within (lifted_checks l) (numbers l.plan) p (ap (λ v. bit v p) (sym given) ∙ e))));
  peeled = sweep_peeled l b new is;
}

pub kdash_fits : {W D : ℕ} → (l : Lifted) (b : Progress) (s : Sweep W D) → IsSettled l b s
    → l.plan.kdash ≤ length s.lanes.known.items
kdash_fits l b s h = omega (arith, h.held.lanes.known_long, l.plan.sound.held, fillers_fit l)

-- the positions that aren't known are a stopping set, and contain every other stopping set
abbrev pub Sticks : Peeling → Type 0
Sticks v = StopsWhereLeft v (unknown_in v.known) × HasEachStopping v (unknown_in v.known)

sweep_stuck : {W D : ℕ} → (l : Lifted) (b : Progress) (s : Sweep W D) → IsSettled l b s → b.order.kept ≡ true
    → Sticks (sweep_view l b s)
sweep_stuck l b s h kept =
    let v = sweep_view l b s in
    let peeled = sweep_peeled l b s h in
    let closed = λ (p : ℕ). peeled.closed p (or_left b.order.kept (nat_lt p (core_size v)) kept) in
    let sound = checks_sound l.table.now l.plan.graph (numbers l.plan) h.table l.plan.sound.size_some in
    (stuck_stops v peeled closed sound (kdash_fits l b s h), stuck_has v peeled closed sound l.plan.kdash)

pub any_stuck : (l : Lifted) (b : Progress) (s : AnySweep) (v : Peeling) → any_view l b s ≡ v → IsAnySettled l b s
    → b.order.kept ≡ true → Sticks v
any_stuck l b (variant.One s) v is h kept = subst (λ x. Sticks x) is (sweep_stuck l b s h kept)
any_stuck l b (variant.Two s) v is h kept = subst (λ x. Sticks x) is (sweep_stuck l b s h kept)
any_stuck l b (variant.Three s) v is h kept = subst (λ x. Sticks x) is (sweep_stuck l b s h kept)
any_stuck l b (variant.Four s) v is h kept = subst (λ x. Sticks x) is (sweep_stuck l b s h kept)
any_stuck l b (variant.Six s) v is h kept = subst (λ x. Sticks x) is (sweep_stuck l b s h kept)
