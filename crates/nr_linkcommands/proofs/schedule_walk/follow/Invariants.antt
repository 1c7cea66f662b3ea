use Rattle.nr_linkcommands.proofs.Common.{[], drop, rounds_ended, take, ◌≡◌, scheduled}
use Rattle.nr_linkcommands.{specs.inside.Walks.turns_text, proofs.RunTextFacts.IsLeft}
use Rattle.nr_linkcommands.proofs.schedule_walk.follow.Given as goal

-- The lines of the transmissions so far are written, and no put failed. What is kept of these transmissions and of the
-- rounds that they ended is kept.
abbrev pub invariant-loop-index : goal.invariant-loop-index
invariant-loop-index g l = record {
  lines : IsLeft (g.O.Sink.written l.fn.out) (g.O.Sink.written l.out)
      (turns_text g.W.Walk.words l.ready (take l.index (scheduled l.ready)) (drop l.index (scheduled l.ready)))
      (turns_text g.W.Walk.words l.ready [] (scheduled l.ready));
  keeps : g.W.Walk.Keeps l.walk l.ready (take l.index (scheduled l.ready)) (drop l.index (scheduled l.ready))
      (rounds_ended [] (take l.index (scheduled l.ready)));
  sound : g.O.Sink.failures l.out ≡ g.O.Sink.failures l.fn.out;
}
