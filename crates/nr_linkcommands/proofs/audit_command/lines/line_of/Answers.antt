use Rattle.nr_linkcommands.proofs.Common.{IfOk-weaker, ap, arith, left, nat_tests, sym, ◌∙◌, ◌≡◌, heard_of, order_line}
use Rattle.nr_linkcommands.proofs.AuditFacts.{IsPeelerOf, audit_line-order, audit_line-stuck, gained-steps, unknown-unfixed}
use Rattle.nr_linkcommands.proofs.audit_command.lines.line_of.Goals as goal

-- no position is left, so the steps are all that peeling gained
pub returns-then-left-eq0 : goal.returns-then-left-eq0
returns-then-left-eq0 c =
    let link = c.args.receiver.now.link in
    let records = c.args.receiver.now.heard in
    let of : IsPeelerOf link (heard_of records c.args.r) c.peeler-peeler.result.now = record {
      table = c.peeler-peeler.ensures.table;
      graph = c.peeler-peeler.ensures.graph;
      numbers = c.peeler-peeler.ensures.numbers;
      positions = c.peeler-peeler.ensures.given;
      peeled = c.peeler-peeler.ensures.peeled;
      recorded = c.gained.ensures.recorded;
    } in
    let none : left link records c.args.r ≡ 0 = omega (arith, c.left.ensures) in
    IfOk-weaker c.order_line.result _ _
    (λ line is. is ∙ ap (order_line c.args.number c.args.r)
    (c.gained.ensures.value ∙ gained-steps link (heard_of records c.args.r) c.peeler-peeler.result.now of)
    ∙ sym (audit_line-order c.args.number link records c.args.r none)) c.order_line.ensures

pub returns : goal.returns
returns c = grind (arith, nat_tests, unknown-unfixed, audit_line-stuck)
