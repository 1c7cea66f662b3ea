use Rattle.nr_linkcommands.proofs.Common.{drop, err_from_is_err_and, flat_map, take, writes_behind, ◌+◌, transmission_line}
use Rattle.nr_linkcommands.proofs.{Common.transmission_lines, SendLemmas.lines-parts}
use Rattle.nr_linkcommands.proofs.send_command.SendCommandText.write.Goals as goal

-- the lines before it are written, and a part of its own line
pub returns-in_err-write_transmission-clause-text : goal.returns-in_err-write_transmission-clause-text
returns-in_err-write_transmission-clause-text g c =
    let p = err_from_is_err_and c.from_residual.result c.from_residual.ensures.1 in
    let senders = c.args.ready.now.senders.items in
    let schedule = c.args.ready.now.schedule.now.transmissions.items in
    let same = c.deref-transmission-items.ensures.value in
    let line = transmission_line senders in
    let i = c.loop-transmission.transmission-index in
    writes_behind _ _ _ c.from_residual.result p.0 _ _ (transmission_lines senders (take i schedule))
    (line c.transmission-item.result) (flat_map line (drop (i + 1) schedule)) p.1 p.2
    (lines-parts line schedule i c.transmission-item.result c.transmission-item.result (rw same at c.loop-transmission-test.true)
    (rw same at c.transmission-item.is)) c.loop-transmission.invariant.written c.in_err-write_transmission.ensures.text
