use Rattle.nr_peel.proofs.{Common.rules, Common.arith, Common.numbers, Common.set_below, LeftPositionFacts.stops_out}
use Rattle.nr_peel.proofs.{StoppingCheckFacts.stops_orders, TableGridFacts.checks_sound}
use Rattle.nr_peel.proofs.check.check_stuck.Goals as goal

pub invariant_of-lifted : goal.invariant_of-lifted
invariant_of-lifted c = search (rules, set_below)

pub returns-clause-yes : goal.returns-clause-yes
returns-clause-yes c = grind arith

pub returns-clause-out : goal.returns-clause-out
returns-clause-out c = λ y q member.
    stops_out _ _ _ _ q (checks_sound _ _ (numbers c.args.plan.now) c.tables_are_sound.ensures c.args.plan.now.sound.size_some)
    ((returns-clause-yes c).0 y) member

pub returns-clause-no_order : goal.returns-clause-no_order
returns-clause-no_order c = λ y steps.
    stops_orders _ _ _ _ steps
    (checks_sound _ _ (numbers c.args.plan.now) c.tables_are_sound.ensures c.args.plan.now.sound.size_some)
    ((returns-clause-yes c).0 y)
