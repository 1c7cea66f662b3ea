use Rattle.nr_peel.proofs.Common.{◌∙◌, ◌<◌, [], arith, inl, inr, cases_eq, length, take, take_all, entries_in, row_of}
use Rattle.nr_peel.proofs.{Common.length-set, Common.All-weaker, Common.rows_most, RowEntryFacts.column_fits}
use Rattle.nr_peel.proofs.SeenLaneFacts.{held_here, held_still, is_held}
use Rattle.nr_peel.proofs.bit_parallel.seen_lanes.find_holders.Goals.{After-from}
use Rattle.std.proofs.lemmas.List.Elements.{All-more}
use Rattle.nr_peel.proofs.bit_parallel.seen_lanes.find_holders.Goals as goal

-- the column of an entry has a place among the holders
fits : (c : After-from) → c.from.result < length c.loop-entry.holders
fits c =
    let column = column_fits c.args.lifted.now c.loop-i.i c.loop-entry.entry-index c.requires
    (rw c.row-entry-items.ensures at c.loop-entry-test.true) in
    omega (arith, rw c.row-entry-items.ensures at c.from.ensures)

pub bounds-holders-from : goal.bounds-holders-from
bounds-holders-from c = omega (arith, c.loop-entry.invariant.long, fits (goal.at.bounds-holders-from c).After-from)

pub bounds-holders-from-in-loop-entry : goal.bounds-holders-from-in-loop-entry
bounds-holders-from-in-loop-entry c =
    omega (arith, c.loop-entry.invariant.long, fits (goal.at.bounds-holders-from-in-loop-entry c).After-from)

-- one more entry is marked, and none is lost
pub loop-entry-preserved : goal.loop-entry-preserved
loop-entry-preserved c =
    let l = c.args.lifted.now in
    let row = row_of (entries_in l.plan.graph l.table.now) c.loop-i.i in
    let k = c.loop-entry.entry-index in
    let inside : k < length row = rw c.row-entry-items.ensures at c.loop-entry-test.true in
    let short : c.loop-i.i < 64 = omega (arith, rows_most l.plan.graph, c.loop-i-test.true, c.rows-i-end.ensures) in
    let there = fits (goal.at.loop-entry-preserved c).After-from in
    record {
      held =
          λ h below. All-weaker (is_held c.loop-entry.holders h) _
          (λ e one. held_still c.loop-entry.holders c.from.result c.loop-i.i e.col h there short (omega (arith, below, short)) one)
          (row_of (entries_in l.plan.graph l.table.now) h) (c.loop-entry.invariant.held h below);
      here = All-more (is_held _ c.loop-i.i) row k (record { row = 0; col = 0; values = [] }) inside
          (All-weaker (is_held c.loop-entry.holders c.loop-i.i) _
          (λ e one. held_still c.loop-entry.holders c.from.result c.loop-i.i e.col c.loop-i.i there short short one) (take k row)
          c.loop-entry.invariant.here)
          (rw (← (rw c.row-entry-items.ensures at c.from.ensures))
          (held_here c.loop-entry.holders c.from.result c.loop-i.i there short));
      long = length-set _ _ _ ∙ c.loop-entry.invariant.long;
    }

-- one more row block
pub loop-i-preserved : goal.loop-i-preserved
loop-i-preserved c =
    let l = c.args.lifted.now in
    let row = row_of (entries_in l.plan.graph l.table.now) c.loop-i.i in
    record {
      held = λ h below. elim (cases_eq h c.loop-i.i) [
        | inl e ↦
            rw e (rw (take_all c.loop-entry.entry-index row (rw c.row-entry-items.ensures at c.loop-entry-test.false))
            at c.loop-entry.invariant.here)
        | inr ne ↦ c.loop-entry.invariant.held h (omega (arith, below, ne))
      ];
      long = c.loop-entry.invariant.long;
    }

pub returns : goal.returns
returns c = λ i below. c.loop-i.invariant.held i (omega (arith, below, c.rows-i-end.ensures))
