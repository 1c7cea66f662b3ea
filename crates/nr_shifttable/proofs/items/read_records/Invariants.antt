use Rattle.nr_shifttable.proofs.Common.{◌≡◌, ◌+◌, ◌≤◌, [], length, items_from, AreBefore, records_of}
use Rattle.nr_shifttable.proofs.items.read_records.Given as goal

-- The items so far, followed by those of the records left, are all. The items' keys are below `past`, and there are no
-- more records than octets.
abbrev pub invariant-loop-items : goal.invariant-loop-items
invariant-loop-items l = record {
  said : items_from (l.number + 1) l.items.items l.records ≡ items_from 1 [] (records_of l.text);
  before : AreBefore l.past l.items.items;
  few : l.number + length l.records ≤ length l.text;
}

-- each turn that goes on takes a record
abbrev pub decreases-loop-items : goal.decreases-loop-items
decreases-loop-items l = length l.records
