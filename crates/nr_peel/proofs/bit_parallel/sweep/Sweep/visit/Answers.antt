use Rattle.nr_peel.proofs.Common.{nat_tests, if◌then◌else◌, ◌==◌, ◌≡◌, ℕ, ◌+◌, ◌*◌, length, refl, sym, ap}
use Rattle.nr_peel.proofs.Common.{◌∙◌, arith, mul-le-mul_right, entries_in, is_set, lifted_checks, marked_count, row_of}
use Rattle.nr_peel.proofs.Common.{Entry, Sweep, List, IsHeld, ◌<◌, ◌≤◌, ◌^◌}
use Rattle.nr_peel.proofs.RowEntryFacts.{row_long}
use Rattle.nr_peel.proofs.RoundInvariantFacts.{caught_held, caught_on, found_fit, found_roomy, found_visits, held_few, held_room}
use Rattle.nr_peel.proofs.RoundInvariantFacts.{held_roomy, idle_visits, none_visits, sought_counted, waiting_visits}
use Rattle.nr_peel.proofs.bit_parallel.sweep.Sweep.visit.Goals.{After-row}
use Rattle.nr_peel.proofs.bit_parallel.sweep.Sweep.visit.Given as given
use Rattle.nr_peel.proofs.bit_parallel.sweep.Sweep.visit.Goals as goal

-- a row block that is passed over
pub returns-then-not-is_due : goal.returns-then-not-is_due
returns-then-not-is_due g c = idle_visits c.requires.held c.requires.block (sym c.is_behind.ensures ∙ c.if-not-is_behind.true)
    (rw c.requires.held.counts_lanes at c.is_due.ensures c.if-not-is_due.true)

-- and one that waits, before the last pass
pub returns-then-may_wait : goal.returns-then-may_wait
returns-then-may_wait g c =
    waiting_visits c.requires.held c.if-not-last.true (c.may_wait.ensures c.if-may_wait.true)

pub may_wait-requires : goal.may_wait-requires
may_wait-requires g c = (omega (arith, c.requires.held.lanes.words), (c.requires.block, c.requires.held.lanes))

-- the counts of the row block exist
pub is_due-requires : goal.is_due-requires
is_due-requires g c = (
  omega arith,
  rw (c.requires.held.counts_lanes, c.requires.held.counts_long)
      (mul-le-mul_right c.args.lifted.now.plan.z (omega (arith, c.requires.block))),
)

-- ---- the counts catch up, and rows with a count of one are searched

-- The sum of the counts bounds all visits to come, so no number overflows.
pub catch_up-caught-requires : goal.catch_up-caught-requires
catch_up-caught-requires g c =
    let h = c.requires.held in
    grind (arith, held_few h, held_roomy h)

pub count_visits-requires : goal.count_visits-requires
count_visits-requires g c = omega (arith, held_few c.requires.held, c.catch_up-caught.ensures.visits_are)

-- what holds before the counts catch up holds after it
pub search_block-ones-requires : goal.search_block-ones-requires
search_block-ones-requires g c =
    let h = caught_held c.requires.held (c.catch_up-caught.result, c.catch_up-caught.ensures, c.count_visits.ensures) in
    grind (arith, h, held_room h c.requires.block, held_roomy h)

-- no row was found, so nothing but the work of the counts has changed
pub returns-then-rows-eq0 : goal.returns-then-rows-eq0
returns-then-rows-eq0 g c =
    let none : marked_count (is_set c.search_block-ones.result) c.args.lifted.now.plan.z ≡ 0 =
    omega
    (arith, c.if-rows-eq0.true, c.lane_count-rows.ensures.marked c.args.lifted.now.plan.z c.search_block-ones.ensures.clear) in
    let same = c.search_block-ones.ensures.none none in
    rw same.1 (none_visits c.search_block-ones.result c.requires.held
    (c.catch_up-caught.result, c.catch_up-caught.ensures, c.count_visits.ensures) same.0 c.search_block-ones.ensures.counts
    c.search_block-ones.ensures.lanes (omega (arith, rw none at c.search_block-ones.ensures.worked))
    (omega (arith, c.search_block-ones.ensures.operations)) none c.search_block-ones.ensures.all)

-- ---- rows were found

-- a search that finds some is at least one operation an entry
found_paid : (o w x d q : ℕ) → 0 < x → o + w + (if x == 0 then 0 else d) ≤ q → o + d ≤ q
found_paid o w x d q some least = grind (arith, nat_tests)

module _ (g : given.Over) (c : After-row g) where
  abbrev ones : List ℕ
  ones = c.search_block-ones.result

  abbrev row : List Entry
  row = row_of (entries_in c.args.lifted.now.plan.graph c.args.lifted.now.table.now) c.args.i

  alike : (t : ℕ) → length ((lifted_checks c.args.lifted.now).row c.args.i t) ≡ length row
  alike t = row_long c.args.lifted.now c.args.i t

  rows : c.from.result ≡ marked_count (is_set ones) c.args.lifted.now.plan.z
  rows = c.from.ensures ∙ c.lane_count-rows.ensures.marked c.args.lifted.now.plan.z c.search_block-ones.ensures.clear

  held : IsHeld (lifted_checks c.args.lifted.now)
      (record { lanes = c.catch_up-caught.new.self; counts = c.catch_up-caught.new.counts }) c.count_visits.new.self
  held = caught_held c.requires.held (c.catch_up-caught.result, c.catch_up-caught.ensures, c.count_visits.ensures)

  visits : c.from.result * (length c.row.result.now + 1) ≡ marked_count (is_set ones) c.args.lifted.now.plan.z * (length row + 1)
  visits = ap (λ m. m * (length c.row.result.now + 1)) rows
      ∙ ap (λ (r : List Entry). marked_count (is_set ones) c.args.lifted.now.plan.z * (length r + 1)) c.row.ensures

  visits_fit : c.count_visits.new.self.touches + c.from.result * (length c.row.result.now + 1) < 2 ^ 64
  visits_fit =
      let few : marked_count (is_set ones) c.args.lifted.now.plan.z ≤ 384 =
      omega (arith, rows, c.from.ensures, c.lane_count-rows.ensures.few) in
      omega (arith, visits, found_fit c.requires.block alike held ones c.args.lifted.now.plan.sound.size_some few)

pub overflow_mul-visits : goal.overflow_mul-visits
overflow_mul-visits g c = omega (arith, visits_fit g (goal.at.overflow_mul-visits g c).After-row)

pub count_visits-requires-2 : goal.count_visits-requires-2
count_visits-requires-2 g c = omega (arith, visits_fit g (goal.at.count_visits-requires-2 g c).After-row)

-- the search left lanes and counts as settling wants them
pub settle-requires : goal.settle-requires
settle-requires g c =
    let at = (goal.at.settle-requires g c).After-row in
    let e = c.search_block-ones.ensures in
    let h = held g at in
    let counted = sought_counted c.requires.block (alike g at) h
    (ones g at) c.search_block-ones.new.self c.search_block-ones.new.counts e.sought e.counts in
    let room = found_roomy c.requires.block (alike g at) h
    (ones g at) c.args.lifted.now.plan.sound.size_some c.search_block-ones.new.counts e.worked in
    let long = rw (← e.counts) at h.counts_long in
    let one = rw (← e.counts) at e.ones in
    (omega arith, (omega arith, (omega arith, assumption (e.sought, e.lanes ∙ h.counts_lanes, long, counted, one, room))))

-- the rows that were found are settled, and their visits are counted
pub returns : goal.returns
returns g c =
    let at = (goal.at.returns g c).After-row in
    let state : Sweep g.row.W g.row.D = record { lanes = c.settle.new.self; counts = c.settle.new.counts } in
    let some : 0 < marked_count (is_set (ones g at)) c.args.lifted.now.plan.z =
    grind (arith, nat_tests, rows g at, c.from.ensures, c.if-rows-eq0.false) in
    rw c.count_visits-2.ensures
    (found_visits c.requires.block (alike g at) (held g at) (ones g at) c.args.lifted.now.plan.sound.size_some
    c.search_block-ones.ensures.ones c.search_block-ones.new.self c.search_block-ones.new.counts
    c.search_block-ones.ensures.sought c.search_block-ones.ensures.counts c.search_block-ones.ensures.lanes
    c.search_block-ones.ensures.worked (found_paid _ _ _ _ _ some c.search_block-ones.ensures.operations) state c.settle.ensures _
    refl refl (ap (λ v. c.count_visits.new.self.touches + v) (visits g at)) some c.args.last c.args.self.now
    (caught_on c.requires.held (c.catch_up-caught.result, c.catch_up-caught.ensures, c.count_visits.ensures)))
