use Rattle.nr_peel.proofs.Common.{◌≡◌, closure, ◌∙◌, arith, numbers, lifted_checks, slice}
use Rattle.nr_peel.proofs.{ClosureFacts.closure_closed, ClosureFacts.closure_keeps, TableGridFacts.checks_sound}
use Rattle.nr_peel.proofs.SliceSweepFacts.{held_most}
use Rattle.nr_peel.proofs.slices.sweep_all.Goals as goal

pub sweeps-init : goal.sweeps-init
sweeps-init c = grind (arith, closure_keeps)

pub sweeps-smaller : goal.sweeps-smaller
sweeps-smaller c =
    omega (arith, held_most (lifted_checks c.args.lifted.now) c.sweep.new.known, c.sweep.ensures.swept.more c.sweeps-test.true)

-- one sweep more keeps what is known, and stays inside the closure
pub sweeps-preserved : goal.sweeps-preserved
sweeps-preserved c =
    let l = c.args.lifted.now in
    let ck = lifted_checks l in
    let sound = checks_sound l.table.now l.plan.graph (numbers l.plan) c.requires.table l.plan.sound.size_some in
    let inv = c.sweeps.invariant in
    let done = c.sweep.ensures.swept.grows in
    record {
      up = λ j short p h. done.kept j short p (inv.up j short p h);
      inside =
          λ j short. done.inside j short (closure ck (slice c.args.known.now j))
          (closure_closed ck (slice c.args.known.now j) sound)
          (inv.inside j short);
      long = done.long ∙ inv.long;
      some_long = c.sweep.ensures.some_long ∙ inv.some_long;
      more_long = c.sweep.ensures.more_long ∙ inv.more_long;
    }

-- the last sweep found nothing, so all that follows is known
pub returns : goal.returns
returns c =
    let ck = lifted_checks c.args.lifted.now in
    let none = c.sweeps-test.false in
    let same : c.sweep.new.known ≡ c.sweeps.known = c.sweep.ensures.swept.still none in
    let inv = c.sweeps.invariant in
    record {
      kept = rw same inv.up;
      inside = rw same inv.inside;
      none = rw same (c.sweep.ensures.none none);
      long = grind (arith, same);
    }
