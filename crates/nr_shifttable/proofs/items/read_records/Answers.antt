-- Each record adds its item, or its fault is the file's.
use Rattle.nr_shifttable.proofs.Common.{List, inr, ap, sym, ◌+◌, ◌∙◌, arith, item_of, Item, err_from_is_err_and}
use Rattle.nr_shifttable.proofs.{Common.fields_of, ItemFacts.items-end, ItemFacts.items-fault, ItemFacts.items-more}
use Rattle.std.proofs.lemmas.Bool.Decides.{when_false, when_true}
use Rattle.nr_shifttable.proofs.items.read_records.Goals as goal

pub returns-in_err-found : goal.returns-in_err-found
returns-in_err-found c =
    let before = when_true _ _ c.if-branch.true c.in_ok-next.ensures.next in
    let p = err_from_is_err_and c.from_residual-in_err-found.result c.from_residual-in_err-found.ensures.1 in
    let judged = ap (λ (items : List Item). item_of (c.loop-items.number + 1) items (fields_of c.next.new.row))
    (sym c.deref.ensures.value) ∙ sym c.item_of.ensures in
    let said = items-fault (c.loop-items.number + 1) c.loop-items.items.items c.loop-items.records c.next.new.self
    (fields_of c.next.new.row) c.in_err-found.field-0.0
    _ before (judged ∙ c.in_err-found.was) c.loop-items.invariant.said in
    rw (p.1, p.2) (inr said)

pub loop-items-preserved : goal.loop-items-preserved
loop-items-preserved c = grind (arith, when_true, items-more)

pub returns : goal.returns
returns c = grind (arith, when_false, items-end)
