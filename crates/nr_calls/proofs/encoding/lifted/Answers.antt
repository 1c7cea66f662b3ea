use Rattle.nr_calls.proofs.{Common.◌*◌, Common.ap, Common.refl, Common.ne_eqb, LiftingSizeFacts.not_lifted}
use Rattle.nr_calls.proofs.encoding.lifted.Goals as goal

pub returns-in_default-clause-said : goal.returns-in_default-clause-said
returns-in_default-clause-said c = (
  not_lifted c.args.graph c.args.z _ (ap (λ n. n * c.args.z) c.held_columns.ensures)
      (rw c.in-Ok.ensures.planned (ne_eqb _ _ c.if-plan-z.false)),
  refl,
)

pub returns-in_default-2-clause-said : goal.returns-in_default-2-clause-said
returns-in_default-2-clause-said c = (
  not_lifted c.args.graph c.args.z _ (ap (λ n. n * c.args.z) c.held_columns.ensures) (rw c.in_default.ensures.refused refl),
  refl,
)
