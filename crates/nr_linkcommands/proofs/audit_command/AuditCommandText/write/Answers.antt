use Rattle.nr_linkcommands.proofs.Common.{Piece, [], arith, flat_map-append, turns, writes_last, audit_words}
use Rattle.nr_linkcommands.proofs.RunTextFacts.{first-stopped}
use Rattle.nr_linkcommands.proofs.audit_command.AuditCommandText.write.Goals as goal

pub returns-in_err-follow-clause-text : goal.returns-in_err-follow-clause-text
returns-in_err-follow-clause-text g c =
    let b = c.args.ready.now.schedule.now.by_process in
    rw (flat_map-append (λ (piece : Piece). piece.1)
    (turns b (audit_words b) c.args.ready.now.senders.items [] c.args.ready.now.schedule.now.transmissions.items))
    (first-stopped _ _ c.from_residual.result _ _ _ c.from_residual.ensures.1 c.in_err-follow.ensures.text)

pub returns-clause-text : goal.returns-clause-text
returns-clause-text g c = grind (arith, flat_map-append, writes_last)
