-- The places so far are in the words, and no marks after them.
use Rattle.nr_blockdesk.proofs.MarkFacts.{IsGathered}
use Rattle.nr_blockdesk.proofs.marks.gather.Given as goal

abbrev pub invariant-loop-j : goal.invariant-loop-j
invariant-loop-j l = IsGathered l.places l.from l.marks l.bits l.j
