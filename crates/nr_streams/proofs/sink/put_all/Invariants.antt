use Rattle.nr_streams.proofs.Common.{length, ◌-◌, ◌≡◌, ◌≤◌, take, with_text}
use Rattle.nr_streams.proofs.sink.put_all.Given as goal

-- the first octets of the text are written, up to the place reached, and no put failed
abbrev pub invariant-loop-at : goal.invariant-loop-at
invariant-loop-at g l = record {
  in_range : l.at ≤ length l.text;
  written : g.S.Sink.written l.sink ≡ with_text (g.S.Sink.written l.initial.sink) (take l.at l.text);
  sound : g.S.Sink.failures l.sink ≡ g.S.Sink.failures l.initial.sink;
}

abbrev pub decreases-loop-at : goal.decreases-loop-at
decreases-loop-at g l = length l.text - l.at
