use Rattle.nr_calls.proofs.Common.{map, ap, sym, ◌∙◌, reception, verdict, heard_octet, one_more_said}
use Rattle.nr_calls.proofs.OutcomeListFacts.{outcomes_after}
use Rattle.nr_calls.specs.Packed.{unpacked_part}
use Rattle.nr_calls.proofs.packed.hear_next_packed.Goals as goal

pub returns-clause-outcomes : goal.returns-clause-outcomes
returns-clause-outcomes c = λ list recorded before.
    let link = c.args.receiver.now.link in
    let tx = c.args.tx.now in
    outcomes_after link list (reception tx (map heard_octet (unpacked_part tx.g c.args.bits.now c.args.known.now)))
    (verdict c.in_ok-outcome.outcome) _ _
    (ap (λ places. one_more_said link list (reception tx places)) (sym c.in_ok-marks.ensures)
    ∙ c.in_ok-outcome.ensures.outcome list recorded) before c.in_ok-noted.ensures.pushed
