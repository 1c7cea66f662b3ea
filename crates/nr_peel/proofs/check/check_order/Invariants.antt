use Rattle.nr_peel.proofs.{Common.◌≡◌, Common.length, Common.bit, Common.numbers, Common.block_checks, FixOrderFacts.IsJudged}
use Rattle.nr_peel.proofs.check.check_order.Given as goal

-- the steps so far are accepted, and their positions are marked
abbrev pub invariant-loop-step : goal.invariant-loop-step
invariant-loop-step l = record {
  judged : IsJudged (block_checks l.table l.plan.graph (numbers l.plan))
      (bit l.initial.known.items) l.steps l.known.items l.step-index;
  long : length l.known.items ≡ length l.initial.known.items;
  room : l.known.room ≡ l.initial.known.room;
}
