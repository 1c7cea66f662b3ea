use Rattle.nr_peel.proofs.Common.{rows_most, marked-le, refl, sym, ◌∙◌, ◌≡◌, ◌+◌, ◌*◌, ◌<◌, ◌≤◌}
use Rattle.nr_peel.proofs.Common.{◌^◌, ◌==◌, length, slice_index, mul-le-mul_right, arith, eqb-true, true, false}
use Rattle.nr_peel.proofs.Common.{lifted_checks, is_set, entries_in, row_of, Lifted, is_stale, ℕ}
use Rattle.nr_peel.proofs.{GivenLaneFacts.rows_few, MarkedFacts.marked_all, MarkedFacts.marked_full, MarkedFacts.marked_zero}
use Rattle.nr_peel.proofs.RowEntryFacts.{column_fits, row_long}
use Rattle.nr_peel.proofs.SeenCountFacts.{below_true, entry_inside, falls_none, looking_all, looks_at, looks_enough, looks_next}
use Rattle.nr_peel.proofs.SeenCountFacts.{looks_skip, looks_whole, paid_once}
use Rattle.nr_peel.proofs.bit_parallel.lanes.Lanes.catch_up.Goals.{After-from-col, then-is_stale+else-take_whole+else-count-ne0}
use Rattle.nr_peel.proofs.bit_parallel.lanes.Lanes.catch_up.Goals.{else-is_stale, then-is_stale+else-take_whole+then-count-ne0}
use Rattle.nr_peel.proofs.bit_parallel.lanes.Lanes.catch_up.Given as given
use Rattle.nr_peel.proofs.bit_parallel.lanes.Lanes.catch_up.Goals as goal

-- ---- the entry that the loop is at

module _ (g : given.Over) (c : After-from-col g) where
  abbrev l : Lifted
  l = c.args.lifted.now

  inside : c.loop-k.k < length (row_of (entries_in l.plan.graph l.table.now) c.args.i)
  inside = rw c.row-row.ensures at c.loop-k-test.true

  same : c.loop-k.counts.lanes ≡ l.plan.z
  same = c.loop-k.invariant.counts_lanes ∙ c.requires.same

  -- its column exists
  column : c.from-col.result < 68
  column = rw (c.from-col.ensures, c.row-row.ensures) (column_fits l c.args.i c.loop-k.k c.requires.table inside).0

  -- and its place among the lanes
  place : slice_index c.loop-k.self.seen.starts c.args.i + c.loop-k.k < length c.loop-k.self.seen.lanes.items
  place =
      entry_inside (lifted_checks l) c.loop-k.self.known.items c.loop-k.self.seen c.loop-k.invariant.lanes.seen c.args.i c.loop-k.k
      0 c.requires.block
      (omega (arith, inside, row_long l c.args.i 0))

  -- the counts of the row block exist
  block : (c.args.i + 1) * c.loop-k.counts.lanes ≤ length c.loop-k.counts.items
  block =
      rw (c.loop-k.invariant.counts_lanes, c.requires.same, c.loop-k.invariant.counts_long, c.requires.long)
      (mul-le-mul_right l.plan.z (omega (arith, c.requires.block)))

  room : c.loop-k.counts.operations + 1 < 2 ^ 64
  room = omega (arith, c.loop-k.invariant.worked, c.loop-k.invariant.visits_are, c.requires.roomy)

pub is_stale-requires : goal.is_stale-requires
is_stale-requires g c =
    grind (arith, rows_few c.args.lifted.now.plan.graph, column g (goal.at.is_stale-requires g c).After-from-col)

pub lane-known-requires : goal.lane-known-requires
lane-known-requires g c =
    let there = inside g (goal.at.lane-known-requires g c).After-from-col in
    grind (arith, c.loop-k.invariant.lanes, column_fits c.args.lifted.now c.args.i c.loop-k.k c.requires.table there)

pub take_whole-requires : goal.take_whole-requires
take_whole-requires g c =
    let at = (goal.at.take_whole-requires g c).After-from-col in
    grind (arith, rows_most c.args.lifted.now.plan.graph, place g at, column g at)

pub take_news-fresh-requires : goal.take_news-fresh-requires
take_news-fresh-requires g c =
    let at = (goal.at.take_news-fresh-requires g c).After-from-col in
    grind (arith, rows_most c.args.lifted.now.plan.graph, place g at, column g at, c.take_whole.ensures.no)

-- ---- a column that became known at once

-- the lane of all rows marks all of them
pub lower-requires : goal.lower-requires
lower-requires g c =
    let at = (goal.at.lower-requires g c).After-from-col in
    let l = c.args.lifted.now in
    let e = c.take_whole.ensures in
    let yes = c.if-take_whole.true in
    let inv = c.loop-k.invariant in
    let looked = looks_whole l c.requires.block (inside g at) inv.lanes (rw (c.from-col.ensures, c.row-row.ensures) refl)
    (e.yes yes) (e.none yes) (e.lanes yes) (e.looked yes) in
    let enough = looks_enough l c.loop-k.self.seen.all c.requires.table c.requires.block (inside g at) inv looked in
    let all = (e.looked yes).all in
    let z = same g at in
    let each = λ (t : ℕ) (tl : t < c.loop-k.counts.lanes). inv.lanes.seen.all t ∙ below_true t l.plan.z (rw z at tl) in
    (omega arith, (omega arith, (block g at, (λ _. rw all each, (rw (z, all) enough, room g at)))))

-- The counts of the row block fall by one in each row: the counts knew of none of the entry's positions, and all are known.
pub loop-k-preserved-then-take_whole : goal.loop-k-preserved-then-take_whole
loop-k-preserved-then-take_whole g c =
    let at = (goal.at.loop-k-preserved-then-take_whole g c).After-from-col in
    let l = c.args.lifted.now in
    let z = l.plan.z in
    let inv = c.loop-k.invariant in
    let e = c.take_whole.ensures in
    let yes = c.if-take_whole.true in
    let r = c.lower.ensures in
    let looked = looks_whole l c.requires.block (inside g at) inv.lanes (rw (c.from-col.ensures, c.row-row.ensures) refl)
    (e.yes yes) (e.none yes) (e.lanes yes) (e.looked yes) in
    rw c.from-visits.ensures
    (looks_next l c.loop-k.self.seen.all c.requires.table c.requires.block
    (inside g at) inv looked c.lower.new.self z c.requires.long
    (rw (same g at, (e.looked yes).all) at r.falls) r.long r.lanes (omega (arith, r.operations, r.due, l.plan.sound.size_some))
    (paid_once z z _ _ (omega arith) r.operations)
    (sym (marked_all (is_set c.loop-k.self.seen.all) z (λ t tl. inv.lanes.seen.all t ∙ below_true t z tl))))

-- ---- a column of which some positions are new

-- a lane with as many marks as rows marks all of them
pub lower-requires-then-count-ne0 : goal.lower-requires-then-count-ne0
lower-requires-then-count-ne0 g c =
    let at = (goal.at.lower-requires-then-count-ne0 g c).After-from-col in
    let l = c.args.lifted.now in
    let z = l.plan.z in
    let e = c.take_news-fresh.ensures in
    let inv = c.loop-k.invariant in
    let count = c.lane_count-count.ensures.marked z (e.clear z (rw inv.lanes.known_lanes at c.lane-known.ensures.clear)) in
    let whole = λ (full : (c.lane_count-count.result == z) ≡ true).
    marked_full (is_set c.take_news-fresh.result) z (omega (arith, count, eqb-true c.lane_count-count.result z full)) in
    let looked = looks_at l c.row-row.ensures c.loop-k-test.true inv.lanes c.from-col.ensures
    c.rotation-rotation.ensures.value c.lane-known.ensures.bits
    (c.take_whole.ensures.no c.if-take_whole.false) e.lanes e.looked e.fresh in
    let enough = looks_enough l c.take_news-fresh.result c.requires.table c.requires.block (inside g at) inv looked in
    (omega arith, (omega arith, (block g at, (rw (same g at) whole, (rw (same g at) enough, room g at)))))

-- The next entry was looked at. If rows had news the counts fall by these. If none had, or the column needs no look,
-- they stay.
pub loop-k-preserved : goal.loop-k-preserved
loop-k-preserved g c =
    let at = (goal.at.loop-k-preserved g c).After-from-col in
    let l = c.args.lifted.now in
    let z = l.plan.z in
    let inv = c.loop-k.invariant in
    elim c.if-is_stale.branch [
      | then-is_stale+else-take_whole+then-count-ne0 w ↦
          let e = w.take_news-fresh.ensures in
          let r = w.lower-then-count-ne0.ensures in
          let looked = looks_at l c.row-row.ensures c.loop-k-test.true inv.lanes c.from-col.ensures
          w.rotation-rotation.ensures.value w.lane-known.ensures.bits
          (w.take_whole.ensures.no w.if-take_whole.false) e.lanes e.looked e.fresh in
          let count = w.lane_count-count.ensures.marked z (e.clear z (rw inv.lanes.known_lanes at w.lane-known.ensures.clear)) in
          let paid = paid_once z w.lane_count-count.result _ _
          (omega (arith, count, marked-le (is_set w.take_news-fresh.result) z)) r.operations in
          rw (w.self-is, w.counts-is, w.visits-is, w.from-visits-then-count-ne0.ensures)
          (looks_next l w.take_news-fresh.result c.requires.table c.requires.block
          (inside g at) inv looked w.lower-then-count-ne0.new.self
          w.lane_count-count.result c.requires.long (rw (same g at) at r.falls) r.long r.lanes
          (omega (arith, r.operations, r.due, w.if-count-ne0.true)) paid count)
      | then-is_stale+else-take_whole+else-count-ne0 w ↦
          let e = w.take_news-fresh.ensures in
          let looked = looks_at l c.row-row.ensures c.loop-k-test.true inv.lanes c.from-col.ensures
          w.rotation-rotation.ensures.value w.lane-known.ensures.bits
          (w.take_whole.ensures.no w.if-take_whole.false) e.lanes e.looked e.fresh in
          let count = w.lane_count-count.ensures.marked z (e.clear z (rw inv.lanes.known_lanes at w.lane-known.ensures.clear)) in
          let none = marked_zero (is_set w.take_news-fresh.result) z (omega (arith, count, w.if-count-ne0.false)) in
          let still : c.loop-k.visits + 0 ≡ c.loop-k.visits = omega arith in
          rw (w.self-is, w.counts-is, w.visits-is, ← still)
          (looks_next l w.take_news-fresh.result c.requires.table c.requires.block
          (inside g at) inv looked c.loop-k.counts 0 c.requires.long
          (λ h t tl. falls_none _ (c.args.i == h) _ (none t tl)) refl refl (omega arith) (omega arith)
          (omega (arith, count, w.if-count-ne0.false)))
      | else-is_stale w ↦
          let skipped : is_stale c.loop-k.self.seen c.args.i c.from-col.result ≡ false =
          sym c.is_stale.ensures ∙ w.if-is_stale.false in
          rw (w.self-is, w.counts-is, w.visits-is)
          (looks_skip l c.requires.block inv (rw (c.from-col.ensures, c.row-row.ensures) at skipped))
    ]

pub returns : goal.returns
returns g c =
    let l = c.args.lifted.now in
    looking_all c.loop-k.invariant c.requires.block (rows_few l.plan.graph)
    (λ t. omega (arith, rw c.row-row.ensures at c.loop-k-test.false, row_long l c.args.i t))
    c.mark_caught_up.new.self c.mark_caught_up.ensures.others c.mark_caught_up.ensures.behind
