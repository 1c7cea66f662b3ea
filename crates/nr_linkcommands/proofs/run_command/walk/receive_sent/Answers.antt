-- The lines of the code blocks are never empty, because there is a code block.
use Rattle.nr_linkcommands.proofs.Common.{err_from_is_err_and, writes_none}
use Rattle.nr_linkcommands.proofs.RunLineFacts.{left_lines-some, on_ok-any}
use Rattle.nr_linkcommands.proofs.run_command.walk.receive_sent.Goals as goal

pub returns-in_err-after-clause-text : goal.returns-in_err-after-clause-text
returns-in_err-after-clause-text g c = λ list holds.
    let sound = c.plans_are_sound.ensures _ _ _ c.is_sound.ensures.planned in
    let p = err_from_is_err_and c.from_residual.result c.from_residual.ensures.1 in
    writes_none _ _ p.0 _ p.1 p.2 (left_lines-some _ _ c.args.sender.now.link _ sound.some)

pub returns-clause-text : goal.returns-clause-text
returns-clause-text g c = λ list holds.
    let is = c.in_ok-after.ensures list holds in
    let sound = c.plans_are_sound.ensures _ _ _ c.is_sound.ensures.planned in
    c.put_line.ensures.text _ (left_lines-some _ _ c.args.sender.now.link _ sound.some)
    (rw (c.insert-kept.ensures.value, is.same_link, is.recorded.same) at c.left_lines.ensures)

pub returns-clause-held : goal.returns-clause-held
returns-clause-held g c = on_ok-any c.put_line.result (rw c.insert-kept.ensures.value c.in_ok-after.ensures)
