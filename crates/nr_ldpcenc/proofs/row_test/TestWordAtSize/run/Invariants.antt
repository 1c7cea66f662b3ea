-- The rows of blocks so far are met.
use Rattle.nr_ldpcenc.proofs.{Common.bit, Common.entries_in, MetRowFacts.AreMet}
use Rattle.nr_ldpcenc.proofs.row_test.TestWordAtSize.run.Given as goal

abbrev pub invariant-loop-i : goal.invariant-loop-i
invariant-loop-i g l = AreMet (entries_in l.plan.graph l.table) l.plan.set l.i g.row.Z (bit l.self.bits.now.items)
