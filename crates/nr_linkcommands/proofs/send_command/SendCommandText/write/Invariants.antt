use Rattle.nr_linkcommands.proofs.Common.{take, with_text, ◌≡◌, transmission_lines}
use Rattle.nr_linkcommands.proofs.send_command.SendCommandText.write.Given as goal

-- the lines of the transmissions so far are written, and no put failed
abbrev pub invariant-loop-transmission : goal.invariant-loop-transmission
invariant-loop-transmission g l = record {
  written : g.O.Sink.written l.out ≡ with_text (g.O.Sink.written l.fn.out)
      (transmission_lines l.ready.senders.items (take l.transmission-index l.ready.schedule.now.transmissions.items));
  sound : g.O.Sink.failures l.out ≡ g.O.Sink.failures l.fn.out;
}
