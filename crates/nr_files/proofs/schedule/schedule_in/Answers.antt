use Rattle.nr_files.proofs.Common.{ap, arith, inr, length, refl, schedule_of, sym, ◌∙◌}
use Rattle.nr_files.proofs.{RefusalFacts.err-is, ScheduleFacts.headed-refused}
use Rattle.std.proofs.lemmas.Bool.Decides.{when_false, when_true}
use Rattle.nr_files.proofs.schedule.schedule_in.Goals as goal

pub returns-then-not-branch : goal.returns-then-not-branch
unfolding schedule_of
returns-then-not-branch c =
    let none = when_false _ _ c.if-not-branch.true c.in_ok-next.ensures.next in
    inr (rw none.0 refl)

pub returns-then-not-is_header : goal.returns-then-not-is_header
unfolding schedule_of
returns-then-not-is_header c =
    let some = when_true _ _ c.if-not-branch.false c.in_ok-next.ensures.next in
    inr (rw (some, sym c.is_header.ensures ∙ c.if-not-is_header.true) refl)

pub read_transmissions-requires-clause-few : goal.read_transmissions-requires-clause-few
read_transmissions-requires-clause-few c =
    omega (arith, ap length (when_true _ _ c.if-not-branch.false c.in_ok-next.ensures.next))

pub returns-in_err-read_transmissions : goal.returns-in_err-read_transmissions
returns-in_err-read_transmissions c =
    let some = when_true _ _ c.if-not-branch.false c.in_ok-next.ensures.next in
    rw (err-is c.from_residual-in_err-read_transmissions.result _ c.from_residual-in_err-read_transmissions.ensures.1)
    (headed-refused c.args.blocks _ _ _ _ some (sym c.is_header.ensures ∙ c.if-not-is_header.false)
    c.in_err-read_transmissions.ensures)

pub returns : goal.returns
unfolding schedule_of
returns c =
    let some = when_true _ _ c.if-not-branch.false c.in_ok-next.ensures.next in
    rw (
      some,
      sym c.is_header.ensures ∙ c.if-not-is_header.false,
      c.in_ok-read_transmissions.ensures,
      c.has_column-by_process.ensures,
    ) refl
