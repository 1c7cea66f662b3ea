-- Each record adds its transmission, or its fault is the file's.
use Rattle.nr_files.proofs.Common.{ap, ◌+◌, arith, length, fields_of}
use Rattle.nr_files.proofs.RefusalFacts.{with_front-none, err-is}
use Rattle.nr_files.proofs.ScheduleFacts.{turn-end, turn-ok, turn-refused}
use Rattle.std.proofs.lemmas.Bool.Decides.{when_false, when_true}
use Rattle.nr_files.proofs.schedule.read_transmissions.Goals as goal

pub loop-number-init : goal.loop-number-init
loop-number-init c = record { said = rw (c.requires.none, c.len-width.ensures) (with_front-none _); few = omega arith }

pub returns-in_err-transmission : goal.returns-in_err-transmission
returns-in_err-transmission c =
    let some = when_true _ _ c.if-branch.true c.in_ok-next.ensures.next in
    rw (err-is c.from_residual-in_err-transmission.result _ c.from_residual-in_err-transmission.ensures.1)
    (turn-refused _ _ (c.loop-number.number + 1) _ c.loop-number.records _ c.loop-number.invariant.said
    c.next.new.self (fields_of c.next.new.row) _ some c.in_err-transmission.ensures)

pub loop-number-preserved : goal.loop-number-preserved
loop-number-preserved c =
    let some = when_true _ _ c.if-branch.true c.in_ok-next.ensures.next in
    record {
      said = rw c.in_ok-push.ensures
          (turn-ok _ _ (c.loop-number.number + 1) _ c.loop-number.records _ c.loop-number.invariant.said
          c.next.new.self (fields_of c.next.new.row) _ some c.in_ok-transmission.ensures);
      few = omega (arith, ap length some);
    }

pub returns : goal.returns
returns c =
    let end = when_false _ _ c.if-branch.false c.in_ok-next.ensures.next in
    turn-end _ _ (c.loop-number.number + 1) _ c.loop-number.records _ c.loop-number.invariant.said end.0
