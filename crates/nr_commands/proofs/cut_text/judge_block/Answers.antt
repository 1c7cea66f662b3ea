use Rattle.nr_commands.proofs.Common.{◌≡◌, Ok, length, ap, sym, ◌∙◌, refl, bits_of, attached, numbers, length-bits_of}
use Rattle.nr_commands.proofs.Common.{err-is}
use Rattle.nr_commands.proofs.BlockTextFacts.{block_lines-unpicked, block_lines-unplanned, block_lines-planned}
use Rattle.nr_crcattach.specs.Attachment.{attached_length}
use Rattle.nr_commands.proofs.cut_text.judge_block.Goals as goal

pub returns-in_err-graph-clause-said : goal.returns-in_err-graph-clause-said
returns-in_err-graph-clause-said c =
    rw (err-is c.from_residual.result _ c.from_residual.ensures.1)
    (block_lines-unpicked _ _ _ c.args.octets.now refl _ c.in_err-graph.ensures)

pub returns-in_err-plan_for-clause-said : goal.returns-in_err-plan_for-clause-said
returns-in_err-plan_for-clause-said c =
    let long : c.attached_len.result ≡ length (attached (bits_of c.args.octets.now)) =
    c.attached_len.ensures ∙ ap attached_length (sym (length-bits_of c.args.octets.now))
    ∙ sym (c.attachment_lengthens.ensures.block (bits_of c.args.octets.now)) in
    rw (err-is c.from_residual-in_err-plan_for.result _ c.from_residual-in_err-plan_for.ensures.1)
    (block_lines-unplanned _ _ _ c.args.octets.now refl _ _ _ c.in_ok-graph.ensures long
    c.in_err-plan_for.ensures.refused)

pub returns-clause-said : goal.returns-clause-said
returns-clause-said c =
    let plan = c.in_ok-plan_for.field-0 in
    let long : plan.b ≡ length (attached (bits_of c.args.octets.now)) = c.in_ok-plan_for.ensures.for_these.1
    ∙ c.attached_len.ensures ∙ ap attached_length (sym (length-bits_of c.args.octets.now))
    ∙ sym (c.attachment_lengthens.ensures.block (bits_of c.args.octets.now)) in
    rw (block_lines-planned _ _ _ c.args.octets.now refl _ plan.graph (numbers plan) (ap Ok c.in_ok-plan_for.ensures.for_these.0
    ∙ c.in_ok-graph.ensures) long plan.planned) refl
