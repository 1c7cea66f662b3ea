use Rattle.nr_calls.proofs.Common.{sym, ap, ◌∙◌, arith, length, numbers}
use Rattle.nr_bitvec.proofs.OctetListFacts.{length-bits_of}
use Rattle.nr_crcattach.specs.Attachment.{attached_length}
use Rattle.nr_calls.proofs.cutting.cut_block.Goals as goal

pub attach-requires : goal.attach-requires
attach-requires c = grind (arith, length-bits_of)

pub cut-requires-clause-whole : goal.cut-requires-clause-whole
cut-requires-clause-whole c = grind (arith, length-bits_of)

pub returns-clause-long : goal.returns-clause-long
returns-clause-long c =
    ap length c.in_ok-bits.ensures
    ∙ c.code_blocks_are_long.ensures.bits c.args.plan.now.graph c.args.plan.now.b
    (numbers c.args.plan.now) c.in_ok-whole.whole.items c.args.r c.args.plan.now.planned
    (ap length c.in_ok-whole.ensures ∙ c.attachment_lengthens.ensures.block c.in_ok-block.block.items
    ∙ ap attached_length (ap length c.in_ok-block.ensures ∙ length-bits_of c.args.octets.now) ∙ sym c.requires.whole)
    c.requires.there
