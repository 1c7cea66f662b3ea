-- A copy of a sweep is settled where the sweep is.
use Rattle.nr_peel.proofs.Common.{◌≡◌, ℕ, arith, bit, refl, Checks, Progress, Sweep}
use Rattle.nr_peel.proofs.Common.{AreLanes, AreSeen, CountsUnseen, IsHeld, IsSettled, Reaches, lifted_checks}
use Rattle.nr_peel.proofs.Common.{AnySweep, IsAnySettled, Lifted, Peeling, any_view, ap, length, sym, ◌∙◌}
use Rattle.nr_peel.specs.inside.Copies.{AnySweepsFit, IsAnyHeld, IsSameProgress, IsSameSeen, Serves}
use Rattle.nr_peel.specs.Peeling.{checks_for}
use Rattle.nr_peel.specs.declared.any_sweep.AnySweep.TheVariants as variant

module _ {W D : ℕ} (c : Checks) (a b : Sweep W D) (known : b.lanes.known ≡ a.lanes.known) (bits : b.lanes.bits ≡ a.lanes.bits)
    (seen : IsSameSeen a.lanes.seen b.lanes.seen) (counts : b.counts ≡ a.counts) where
  seen_copied : AreSeen c a.lanes.known.items a.lanes.seen → AreSeen c b.lanes.known.items b.lanes.seen
  seen_copied are = record {
    starts = rw seen.starts are.starts;
    enough = rw (seen.starts, seen.lanes) are.enough;
    long = rw seen.lanes are.long;
    within = rw (known, seen.starts, seen.lanes) are.within;
    fresh = rw (known, seen.stale, seen.starts, seen.lanes) are.fresh;
    holders = rw seen.holders are.holders;
    rested = rw (seen.behind, seen.stale) are.rested;
    whole = rw (known, seen.whole) are.whole;
    all = rw seen.all are.all;
  }

  lanes_copied : AreLanes c a.lanes → AreLanes c b.lanes
  lanes_copied are = record {
    known_long = rw known are.known_long;
    bits_long = rw bits are.bits_long;
    known_lanes = rw known are.known_lanes;
    bits_lanes = rw bits are.bits_lanes;
    blank = rw (known, bits) are.blank;
    seen = seen_copied are.seen;
    words = are.words;
    short = are.short;
    fit = are.fit;
  }

  counted_copied : CountsUnseen c a.lanes.seen a.counts.items → CountsUnseen c b.lanes.seen b.counts.items
  counted_copied are = rw (counts, seen.starts, seen.lanes) are

  held_copied : (p q : Progress) → IsSameProgress p q → IsHeld c a p → IsHeld c b q
  held_copied p q same held = record {
    lanes = lanes_copied held.lanes;
    counts_lanes = rw counts held.counts_lanes;
    counts_long = rw counts held.counts_long;
    counted = counted_copied held.counted;
    order_few = rw (same.steps, counts) held.order_few;
    order_room = λ kept. omega (arith, held.order_room (rw same.kept at kept), same.room);
    least = rw (same.steps, same.touches, counts) held.least;
    most = rw (same.touches, counts) held.most;
    worked = rw (same.touches, counts) held.worked;
    paid = rw (same.touches, counts) held.paid;
    small = held.small;
  }

  reaches_copied : (p q : Progress) → IsSameProgress p q → Reaches c (bit p.given.items) a.lanes.known.items p.order
      → Reaches c (bit q.given.items) b.lanes.known.items q.order
  reaches_copied p q same reaches = record {
    steps = reaches.steps;
    are = rw (same.kept, same.steps) reaches.are;
    accepted = rw same.given reaches.accepted;
    reached = rw (known, same.given) reaches.reached;
  }

-- a sweep that knows the same serves as well
pub sweep_serves : {W D : ℕ} → (a b : Sweep W D) → b.lanes.known ≡ a.lanes.known → b.lanes.bits ≡ a.lanes.bits
    → IsSameSeen a.lanes.seen b.lanes.seen → b.counts ≡ a.counts → Serves a b
sweep_serves a b known bits seen counts l p q same is =
    let c = lifted_checks l in
    let settled : IsSettled l q b = record {
      table = is.table;
      given_long = rw same.given is.given_long;
      held = held_copied c a b known bits seen counts p q same is.held;
      quiet = rw (same.kept, known, counts) is.quiet;
      reaches = reaches_copied c a b known bits seen counts p q same is.reaches;
      fillers = rw same.given is.fillers;
      left = rw (same.left, known) is.left;
    } in
    (settled, rw (same.given, same.steps, same.kept, same.touches, known, bits, counts) refl)

-- a settled sweep is one of the code
any_held : (l : Lifted) (p : Progress) (s : AnySweep) → IsAnySettled l p s → IsAnyHeld (lifted_checks l) s
any_held l p (variant.One s) is = (p, is.held)
any_held l p (variant.Two s) is = (p, is.held)
any_held l p (variant.Three s) is = (p, is.held)
any_held l p (variant.Four s) is = (p, is.held)
any_held l p (variant.Six s) is = (p, is.held)

given_long : (l : Lifted) (p : Progress) (s : AnySweep) → IsAnySettled l p s
    → length p.given.items ≡ (lifted_checks l).size
given_long l p (variant.One s) is = is.given_long
given_long l p (variant.Two s) is = is.given_long
given_long l p (variant.Three s) is = is.given_long
given_long l p (variant.Four s) is = is.given_long
given_long l p (variant.Six s) is = is.given_long

-- two peelers of one code
module _ (l m : Lifted) (p q : Progress) (s t : AnySweep) (a b : Peeling) (own : any_view l p s ≡ a)
    (other : any_view m q t ≡ b) (same : checks_for a ≡ checks_for b) (is : IsAnySettled l p s) (are : IsAnySettled m q t) where
  checks_alike : lifted_checks l ≡ lifted_checks m
  checks_alike = ap checks_for own ∙ same ∙ sym (ap checks_for other)

  pub given_alike : length p.given.items ≡ length q.given.items
  given_alike = given_long l p s is ∙ ap (λ c. c.size) checks_alike ∙ sym (given_long m q t are)

  pub fits_any : AnySweepsFit s t
  fits_any = (lifted_checks l, any_held l p s is, rw checks_alike (any_held m q t are))
