use Rattle.nr_files.proofs.Common.{[], ◌≡◌, ◌+◌, ◌≤◌, fields_of, length, transmissions_from}
use Rattle.nr_files.proofs.RefusalFacts.{with_front}
use Rattle.nr_files.proofs.schedule.read_transmissions.Given as goal

-- the transmissions so far, followed by those of the records left, are all; and each turn takes a record
abbrev pub invariant-loop-number : goal.invariant-loop-number
invariant-loop-number l = record {
  said : with_front l.earlier.transmissions.items
      (transmissions_from l.blocks l.width (l.number + 1) l.earlier.transmissions.items l.records)
      ≡ transmissions_from l.blocks (length (fields_of l.fn.row)) 2 [] l.fn.records;
  few : l.number + length l.records ≤ length l.fn.records + 1;
}

-- each turn that goes on takes a record
abbrev pub decreases-loop-number : goal.decreases-loop-number
decreases-loop-number l = length l.records
