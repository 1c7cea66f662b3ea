use Rattle.nr_calls.proofs.Common.{map, Ok, ap, sym, ◌∙◌, reception, verdict, heard_octet}
use Rattle.nr_calls.proofs.OutcomeListFacts.{outcomes_after}
use Rattle.nr_blockdesk.specs.declared.outcome.Outcome.{Outcome}
use Rattle.nr_calls.proofs.receiving.hear_next.Goals as goal

pub returns-clause-outcome : goal.returns-clause-outcome
returns-clause-outcome c = λ list recorded. c.in_ok-outcome.ensures.outcome list recorded
    ∙ ap (λ (o : Outcome). Ok (verdict o)) (sym c.in_ok-noted.ensures.same)

pub returns-clause-outcomes : goal.returns-clause-outcomes
returns-clause-outcomes c = λ list recorded before.
    outcomes_after c.args.receiver.now.link list (reception c.args.tx.now (map heard_octet c.args.octets.now))
    (verdict c.in_ok-outcome.outcome) _ _
    (c.in_ok-outcome.ensures.outcome list recorded) before c.in_ok-noted.ensures.pushed
