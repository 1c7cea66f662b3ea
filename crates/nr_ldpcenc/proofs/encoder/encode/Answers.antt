use Rattle.nr_ldpcenc.proofs.Common.{sym, ap, ◌∙◌, arith, length-replicate, numbers, block_checks, codeword, word_of}
use Rattle.nr_ldpcenc.proofs.CodewordFacts.{begins_filled, kdash_inside}
use Rattle.nr_ldpcenc.proofs.encoder.encode.Goals as goal

pub begin-requires : goal.begin-requires
begin-requires c = grind (arith, length-replicate, kdash_inside)

pub returns-clause-word : goal.returns-clause-word
unfolding codeword
returns-clause-word c =
    let plan = c.args.plan.now in
    c.fill.ensures.completed ∙ ap (word_of (block_checks c.args.table.now plan.graph (numbers plan)))
    (begins_filled plan.graph plan.b (numbers plan) plan.sound c.args.bits.now.items c.in-Ok.word c.begin.new.self c.requires
    c.in-Ok.ensures c.begin.ensures)

pub returns-clause-plain : goal.returns-clause-plain
unfolding codeword
returns-clause-plain c =
    let plan = c.args.plan.now in
    let begins = begins_filled plan.graph plan.b (numbers plan) plan.sound c.args.bits.now.items c.in-Ok.word c.begin.new.self
    c.requires c.in-Ok.ensures c.begin.ensures in
    rw (c.fill.ensures.completed, begins)
    (c.codewords_are_plain.ensures c.args.table.now plan.graph plan.b (numbers plan) c.args.bits.now.items c.has.ensures.table
    (sym c.has.ensures.value ∙ c.if-not-has.false) plan.planned c.requires)
