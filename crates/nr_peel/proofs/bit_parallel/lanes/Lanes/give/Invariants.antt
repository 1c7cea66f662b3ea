use Rattle.nr_peel.proofs.{Common.bit, Common.news, GivenLaneFacts.AreGiven}
use Rattle.nr_peel.proofs.bit_parallel.lanes.Lanes.give.Given as goal

-- the columns before column j are given
abbrev pub invariant-loop-j : goal.invariant-loop-j
invariant-loop-j g l =
    AreGiven l.lifted.plan.z (news (bit l.heard.items) l.initial.self) (bit l.values.items) l.j l.initial.self l.self
