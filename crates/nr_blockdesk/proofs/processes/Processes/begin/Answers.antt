use Rattle.nr_blockdesk.proofs.Common.{rules, length, sym, ap, ◌∙◌, Ok, common_steps, ProcessesView}
use Rattle.nr_blockdesk.proofs.CallFacts.{begin-after}
use Rattle.nr_blockdesk.proofs.processes.Processes.begin.Goals as goal

pub returns-clause-begins : goal.returns-clause-begins
returns-clause-begins c = record {
  receiver = c.in_ok-receiver.receiver;
  has = search (rules, common_steps);
  said = search rules;
  empty = c.in_ok-receiver.ensures.empty;
}

pub returns-clause-after : goal.returns-clause-after
returns-clause-after c =
    let long = ap (λ (s : ProcessesView). length s.places) (sym c.self.view_is) ∙ c.self.invariant in
    begin-after c.args.self.now _ c.args.p c.args.a (Ok tt) long c.requires (search rules) (returns-clause-begins c) (search rules)

pub returns-in_err-receiver-clause-after : goal.returns-in_err-receiver-clause-after
returns-in_err-receiver-clause-after c =
    let long = ap (λ (s : ProcessesView). length s.places) (sym c.self.view_is) ∙ c.self.invariant in
    begin-after c.args.self.now _ c.args.p c.args.a c.from_residual.result long c.requires (search rules) (search rules)
    (search rules)
