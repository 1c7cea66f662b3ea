use Rattle.nr_interleave.proofs.{Common.arith, OctetFacts.back-2, OctetFacts.back-4, OctetFacts.back-6, OctetFacts.back-8}
use Rattle.nr_interleave.proofs.SpreadFacts.{one-row}
use Rattle.nr_interleave.proofs.spread_onto.Goals as goal

pub by_columns-requires-clause-masks : goal.by_columns-requires-clause-masks
by_columns-requires-clause-masks c = back-2

pub by_columns-requires-in-4-clause-masks : goal.by_columns-requires-in-4-clause-masks
by_columns-requires-in-4-clause-masks c = back-4

pub by_columns-requires-in-6-clause-masks : goal.by_columns-requires-in-6-clause-masks
by_columns-requires-in-6-clause-masks c = back-6

pub by_columns-requires-in-8-clause-masks : goal.by_columns-requires-in-8-clause-masks
by_columns-requires-in-8-clause-masks c = back-8

pub returns-in-1-clause-items : goal.returns-in-1-clause-items
returns-in-1-clause-items c = grind (arith, one-row)
