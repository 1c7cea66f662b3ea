use Rattle.nr_blockdesk.proofs.Common.{length, rules, sym, ap, ◌∙◌, common_steps, ProcessesView}
use Rattle.nr_blockdesk.proofs.CallFacts.{take-after, take-answer}
use Rattle.nr_blockdesk.proofs.processes.Processes.take.Goals as goal

pub returns-clause-takes : goal.returns-clause-takes
returns-clause-takes c = record {
  before = c.in-Some.receiver;
  after = c.take.new.self;
  had = search (rules, common_steps);
  has = search (rules, common_steps);
  takes = c.take.ensures;
}

pub returns-clause-after : goal.returns-clause-after
returns-clause-after c =
    let long = ap (λ (s : ProcessesView). length s.places) (sym c.self.view_is) ∙ c.self.invariant in
    take-after c.args.self.now _ c.args.p _ c.take.result long c.requires.place (returns-clause-takes c)
    (search (rules, common_steps))

pub returns-clause-answers : goal.returns-clause-answers
returns-clause-answers c = take-answer c.args.self.now _ c.args.p _ c.take.result c.requires.place (returns-clause-takes c)
