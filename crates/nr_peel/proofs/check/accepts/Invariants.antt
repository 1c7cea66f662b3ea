use Rattle.nr_peel.proofs.{Common.bit, Common.lifted_checks, FixOrderFacts.IsWeighed}
use Rattle.nr_peel.proofs.check.accepts.Given as goal

-- what the positions of the row so far show
abbrev pub invariant-loop-entry : goal.invariant-loop-entry
invariant-loop-entry l =
    IsWeighed (bit l.known.items) ((lifted_checks l.lifted).row l.fn.step.row l.fn.step.lane) l.fn.step.pos l.there l.entry-index
