use Rattle.nr_linkcommands.proofs.Common.{Err, Ok, arith, err-is, err_from_is_err_and, sym, writes_none}
use Rattle.nr_linkcommands.proofs.SendLemmas.{answer_line-some}
use Rattle.nr_linkcommands.proofs.send_command.write_sent.Goals as goal

pub returns-in_err-bits-clause-text : goal.returns-in_err-bits-clause-text
returns-in_err-bits-clause-text g c = grind (arith, err_from_is_err_and, writes_none, answer_line-some)

pub returns-in_err-put_line-in-Ok-clause-text : goal.returns-in_err-put_line-in-Ok-clause-text
returns-in_err-put_line-in-Ok-clause-text g c =
    let said = sym (rw c.in-Ok.is at c.in_ok-bits.ensures.said) in
    rw (err-is c.from_residual-in_err-put_line-in-Ok.result _ c.from_residual-in_err-put_line-in-Ok.ensures.1, said)
    (c.in_err-put_line-in-Ok.ensures.text _ (answer_line-some _ _ (Ok c.in-Ok.bits.items)) c.sent_line.ensures)

pub returns-in_ok-put_line-in-Ok-clause-text : goal.returns-in_ok-put_line-in-Ok-clause-text
returns-in_ok-put_line-in-Ok-clause-text g c =
    let said = sym (rw c.in-Ok.is at c.in_ok-bits.ensures.said) in
    rw said (c.in_ok-put_line-in-Ok.ensures.text _ (answer_line-some _ _ (Ok c.in-Ok.bits.items)) c.sent_line.ensures)

pub returns-in_err-put_line-in-Err-clause-text : goal.returns-in_err-put_line-in-Err-clause-text
returns-in_err-put_line-in-Err-clause-text g c =
    let said = sym (rw c.in-Err.is at c.in_ok-bits.ensures.said) in
    rw (err-is c.from_residual-in_err-put_line-in-Err.result _ c.from_residual-in_err-put_line-in-Err.ensures.1, said)
    (c.in_err-put_line-in-Err.ensures.text _ (answer_line-some _ _ (Err c.in-Err.fault)) c.refused_line.ensures)

pub returns-in_ok-put_line-in-Err-clause-text : goal.returns-in_ok-put_line-in-Err-clause-text
returns-in_ok-put_line-in-Err-clause-text g c =
    let said = sym (rw c.in-Err.is at c.in_ok-bits.ensures.said) in
    rw said (c.in_ok-put_line-in-Err.ensures.text _ (answer_line-some _ _ (Err c.in-Err.fault)) c.refused_line.ensures)
