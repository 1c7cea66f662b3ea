-- The fields are read from the first on; if one is no number, there are none.
use Rattle.nr_shifttable.proofs.Common.{ap, ◌∙◌, arith, length-set, fields_of, short_number}
use Rattle.nr_shifttable.proofs.ItemFacts.{no-field, numbers-all, numbers-more, numbers-none}
use Rattle.nr_shifttable.proofs.items.short_numbers.Goals as goal

pub returns-in_err-get : goal.returns-in_err-get
returns-in_err-get c = absurd (no-field (fields_of c.args.row.now) c.loop-i.i (omega arith) c.in_err-get.ensures.value)

pub returns-in_err-numbers : goal.returns-in_err-numbers
returns-in_err-numbers c =
    c.from_residual-in_err-numbers.ensures
    ∙ numbers-none (fields_of c.args.row.now) c.loop-i.i c.in_ok-get.field-0.now c.loop-i.numbers c.in_ok-get.ensures.value
    (c.in_err-numbers.ensures ∙ ap short_number c.stripped.ensures) c.loop-i.invariant.said

pub loop-i-preserved : goal.loop-i-preserved
loop-i-preserved c = record {
  said = numbers-more (fields_of c.args.row.now) c.loop-i.i c.in_ok-numbers.field-0 c.in_ok-get.field-0.now c.loop-i.numbers
      c.in_ok-get.ensures.value
      (c.in_ok-numbers.ensures ∙ ap short_number c.stripped.ensures) (omega arith) c.loop-i.invariant.said;
  room = length-set c.loop-i.numbers c.loop-i.i c.in_ok-numbers.field-0 ∙ c.loop-i.invariant.room;
}

pub returns : goal.returns
returns c = numbers-all (fields_of c.args.row.now) c.loop-i.i c.loop-i.numbers (omega arith) (omega arith) c.loop-i.invariant.said
