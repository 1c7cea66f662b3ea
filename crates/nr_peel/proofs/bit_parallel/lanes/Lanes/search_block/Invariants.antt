use Rattle.nr_peel.proofs.EntryTakeFacts.{IsTaking}
use Rattle.nr_peel.proofs.bit_parallel.lanes.Lanes.search_block.Given as goal

-- the entries so far were taken, or their positions were known
abbrev pub invariant-loop-k : goal.invariant-loop-k
invariant-loop-k g l = IsTaking l.lifted l.i l.ones l.k l.initial.self l.self l.initial.order l.order
