use Rattle.nr_linkcommands.proofs.Common.{[], flat_map, length, map, process_count, range_with_len, round_of, rounds_ended}
use Rattle.nr_linkcommands.proofs.{Common.◌++◌, Common.◌-◌, Common.◌≡◌, Common.scheduled, RunTextFacts.IsLeft}
use Rattle.nr_linkcommands.specs.inside.Walks.{last_text, round_text}
use Rattle.nr_linkcommands.proofs.schedule_walk.end_all.Given as goal

-- the lines of the processes so far are written, what is kept of their rounds is kept, and no put failed
abbrev pub invariant-loop-process : goal.invariant-loop-process
invariant-loop-process g l = record {
  lines : IsLeft (g.O.Sink.written l.fn.out) (g.O.Sink.written l.out)
      (flat_map (λ p. round_text g.W.Walk.words l.ready p (round_of p (scheduled l.ready))) (range_with_len l.process
      (process_count l.ready.schedule.now.by_process (length l.ready.senders.items) - l.process)))
      (last_text g.W.Walk.words l.ready);
  keeps : g.W.Walk.Keeps l.walk l.ready (scheduled l.ready) []
      (rounds_ended [] (scheduled l.ready) ++ map (λ p. (p, round_of p (scheduled l.ready))) (range_with_len 0 l.process));
  sound : g.O.Sink.failures l.out ≡ g.O.Sink.failures l.fn.out;
}
