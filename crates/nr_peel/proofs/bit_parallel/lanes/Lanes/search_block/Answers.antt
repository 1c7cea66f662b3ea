use Rattle.nr_peel.proofs.Common.{rows_most, cond-most, if◌then◌else◌, nat_tests, Bool, ◌≤◌, ◌-◌, due_in, bit}
use Rattle.nr_peel.proofs.Common.{◌≡◌, ℕ, ◌+◌, ◌*◌, ◌<◌, ◌==◌, true, length, sym, ap, ◌∙◌, arith}
use Rattle.nr_peel.proofs.Common.{slice_index, eq-eqb, eqb-true, is_set, marked_count, marked-same, has_count, missing_at, HasRoom}
use Rattle.nr_peel.proofs.{DueBlockFacts.search_cost, LaneMarkFacts.none_marked, RowEntryFacts.column_fits, RowEntryFacts.entry_in}
use Rattle.nr_peel.proofs.EntryTakeFacts.{HasOnes, some_entry, sought_none, taking_done, taking_entry, taking_more, taking_room}
use Rattle.nr_peel.proofs.EntryTakeFacts.{taking_seen, taking_start}
use Rattle.nr_peel.proofs.bit_parallel.lanes.Lanes.search_block.Goals.{After-lane_count}
use Rattle.nr_peel.proofs.bit_parallel.lanes.Lanes.search_block.Given as given
use Rattle.nr_peel.proofs.bit_parallel.lanes.Lanes.search_block.Goals as goal

-- each row of the lane has a count of one
one : (g : given.Over) (c : After-lane_count g) (t : ℕ) → t < c.args.lifted.now.plan.z → is_set c.ones-ones.result t ≡ true
    → slice_index c.args.counts.now.items (c.args.i * c.args.lifted.now.plan.z + t) ≡ 1
one g c t below there = eqb-true _ 1 (sym ((rw c.requires.same at c.ones-ones.ensures.ones) t below) ∙ there)

-- and no other row has
all : (g : given.Over) (c : After-lane_count g) (t : ℕ) → t < c.args.lifted.now.plan.z
    → slice_index c.args.counts.now.items (c.args.i * c.args.lifted.now.plan.z + t) ≡ 1 → is_set c.ones-ones.result t ≡ true
all g c t below is = (rw c.requires.same at c.ones-ones.ensures.ones) t below ∙ eq-eqb _ 1 is

-- and so one position that isn't known
read : (g : given.Over) (c : After-lane_count g) → HasOnes c.args.lifted.now c.args.i c.ones-ones.result c.args.self.now
read g c = record {
  own = c.requires.own;
  table = c.requires.table;
  block = c.requires.block;
  lanes = c.requires.lanes;
  one = λ t below there. sym (c.requires.counted t below) ∙ one g c t below there;
}

-- how many rows the lane marks
counted : (g : given.Over) (c : After-lane_count g)
    → c.lane_count.result ≡ marked_count (is_set c.ones-ones.result) c.args.lifted.now.plan.z
counted g c = c.lane_count.ensures.marked c.args.lifted.now.plan.z (rw c.requires.same at c.ones-ones.ensures.clear)

pub first_missing-from-requires : goal.first_missing-from-requires
first_missing-from-requires g c =
    grind (arith, (read g (goal.at.first_missing-from-requires g c).After-lane_count).one)

pub count_operations-requires : goal.count_operations-requires
count_operations-requires g c = (omega arith, omega (arith, cond-most (bit c.args.counts.now.due c.args.i)))

pub loop-k-init : goal.loop-k-init
loop-k-init g c = taking_start (read g (goal.at.loop-k-init g c).After-lane_count) c.first_missing-from.result.0 c.args.order.now
    c.first_missing-from.ensures.known

-- the entries before left the lanes in order, with room for the steps of the rows that still miss a position
pub fix_lane-requires : goal.fix_lane-requires
fix_lane-requires g c =
    let l = c.args.lifted.now in
    let i = c.args.i in
    let k = c.loop-k.k in
    let r = read g (goal.at.fix_lane-requires g c).After-lane_count in
    let within = rw c.row-row.ensures at c.loop-k-test.true in
    let so_far = c.loop-k.invariant in
    let lanes = so_far.fixes.lanes in
    let fits = column_fits l i k c.requires.table within in
    let block : i < 46 = omega (arith, c.requires.block, rows_most l.plan.graph) in
    let entry = taking_entry r k c.loop-k.self within so_far in
    let seen = taking_seen r k c.loop-k.self within so_far in
    let known = rw (← lanes.known_long) at fits.1 in
    let bits = rw (← lanes.bits_long) at fits.1 in
    let clear = rw c.requires.same at c.ones-ones.ensures.clear in
    let rows = marked-same (is_set c.ones-ones.result) (λ t. has_count 1 c.args.counts.now.items (i * l.plan.z + t)) l.plan.z
    (rw c.requires.same at c.ones-ones.ensures.ones) in
    let room = taking_room r k c.loop-k.self within so_far in
    let free : HasRoom c.loop-k.order (length c.loop-k.order.list.items
    + marked_count (missing_at l (entry_in l i k) c.ones-ones.result c.loop-k.self) l.plan.z) =
    λ kept. omega (arith, room, rows, c.requires.room (sym so_far.fixes.adds.same ∙ kept), so_far.fixes.adds.capacity) in
    rw c.row-row.ensures (omega arith, (omega arith, assumption (lanes, block, entry, seen, known, bits, fits, clear, free)))

pub loop-k-preserved : goal.loop-k-preserved
loop-k-preserved g c =
    let within = rw c.row-row.ensures at c.loop-k-test.true in
    let took = rw c.row-row.ensures at c.fix_lane.ensures in
    let sums = rw c.row-row.ensures at c.row_sum-sums.ensures.sums in
    taking_more (read g (goal.at.loop-k-preserved g c).After-lane_count) c.loop-k.k c.loop-k.self within c.loop-k.invariant
    c.row_sum-sums.result c.fix_lane.new.self took sums

-- a row block without a count of one

pub returns-then-lane_count-eq0-clause-sought : goal.returns-then-lane_count-eq0-clause-sought
returns-then-lane_count-eq0-clause-sought g c =
    let at = (goal.at.returns-then-lane_count-eq0-clause-sought g c).After-lane_count in
    let nothing : marked_count (is_set c.ones-ones.result) c.args.lifted.now.plan.z ≡ 0 =
    omega (arith, counted g at, c.if-lane_count-eq0.true) in
    sought_none _ _ _ _ _ c.requires.lanes c.requires.own
    (λ t below. none_marked _ _ (rw c.requires.same at c.ones-ones.ensures.clear) nothing t)

pub returns-then-lane_count-eq0-clause-ones : goal.returns-then-lane_count-eq0-clause-ones
returns-then-lane_count-eq0-clause-ones g c = one g (goal.at.returns-then-lane_count-eq0-clause-ones g c).After-lane_count

pub returns-then-lane_count-eq0-clause-all : goal.returns-then-lane_count-eq0-clause-all
returns-then-lane_count-eq0-clause-all g c = all g (goal.at.returns-then-lane_count-eq0-clause-all g c).After-lane_count

pub returns-then-lane_count-eq0-clause-clear : goal.returns-then-lane_count-eq0-clause-clear
returns-then-lane_count-eq0-clause-clear g c = rw c.requires.same at c.ones-ones.ensures.clear

pub returns-then-lane_count-eq0-clause-operations : goal.returns-then-lane_count-eq0-clause-operations
returns-then-lane_count-eq0-clause-operations g c =
    let at = (goal.at.returns-then-lane_count-eq0-clause-operations g c).After-lane_count in
    let nothing : marked_count (is_set c.ones-ones.result) c.args.lifted.now.plan.z ≡ 0 =
    omega (arith, counted g at, c.if-lane_count-eq0.true) in
    rw nothing (omega (arith, c.ones-ones.ensures.operations))

pub returns-then-lane_count-eq0-clause-worked : goal.returns-then-lane_count-eq0-clause-worked
returns-then-lane_count-eq0-clause-worked g c =
    let at = (goal.at.returns-then-lane_count-eq0-clause-worked g c).After-lane_count in
    let nothing : marked_count (is_set c.ones-ones.result) c.args.lifted.now.plan.z ≡ 0 =
    omega (arith, counted g at, c.if-lane_count-eq0.true) in
    omega (arith, (rw c.requires.same at c.ones-ones.ensures.paid) nothing)

-- a row block that is searched

pub returns-clause-ones : goal.returns-clause-ones
returns-clause-ones g c = one g (goal.at.returns-clause-ones g c).After-lane_count

pub returns-clause-all : goal.returns-clause-all
returns-clause-all g c = all g (goal.at.returns-clause-all g c).After-lane_count

pub returns-clause-clear : goal.returns-clause-clear
returns-clause-clear g c = rw c.requires.same at c.ones-ones.ensures.clear

pub returns-clause-none : goal.returns-clause-none
returns-clause-none g c = λ nothing. absurd
    (omega (arith, nothing, counted g (goal.at.returns-clause-none g c).After-lane_count, c.if-lane_count-eq0.false))

pub returns-clause-counts : goal.returns-clause-counts
returns-clause-counts g c = ap (λ s. s.items) c.count_operations.ensures ∙ c.ones-ones.ensures.items

pub returns-clause-lanes : goal.returns-clause-lanes
returns-clause-lanes g c = ap (λ s. s.lanes) c.count_operations.ensures ∙ c.ones-ones.ensures.lanes

pub returns-clause-sought : goal.returns-clause-sought
returns-clause-sought g c =
    let at = (goal.at.returns-clause-sought g c).After-lane_count in
    let all = rw c.row-row.ensures at c.loop-k-test.false in
    taking_done (read g at) c.loop-k.k c.loop-k.self all c.loop-k.invariant

-- what the search reads is paid by the row block's work
pub returns-clause-worked : goal.returns-clause-worked
returns-clause-worked g c =
    let at = (goal.at.returns-clause-worked g c).After-lane_count in
    let entry = some_entry (read g at) (omega (arith, counted g at, c.if-lane_count-eq0.false)) in
    let cost = search_cost c.lane_count.result _ (omega (arith, c.if-lane_count-eq0.false)) entry _ c.first_missing-from.ensures.few
    (λ one. omega (arith, c.first_missing-from.ensures.least one, ap length c.row-row.ensures)) in
    let looked = cond-most (bit c.args.counts.now.due c.args.i) in
    rw (← counted g at)
    (omega (
      arith,
      ap (λ s. s.operations) c.count_operations.ensures,
      ap (λ s. due_in s.due) c.count_operations.ensures,
      ap length c.row-row.ensures,
    ))

-- what was read was counted

least : (o p q d r f x : ℕ) (a : Bool) → p ≡ o + (if a then 1 else 0) → q ≡ p + (r + 2 * d - f) → f ≤ d
    → o + (if a then 1 else 0) + (if x == 0 then 0 else d) ≤ q
least o p q d r f x a looked counts inside = grind (arith, nat_tests)

pub returns-clause-operations : goal.returns-clause-operations
returns-clause-operations g c =
    let long = ap length c.row-row.ensures in
    least _ _ _ _ c.first_missing-from.result.1 c.first_missing-from.result.0 _ _ c.ones-ones.ensures.operations
    (rw long at (ap (λ s. s.operations) c.count_operations.ensures)) (rw long at c.first_missing-from.ensures.inside)
