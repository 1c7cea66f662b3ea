use Rattle.nr_peel.proofs.any_sweep.AnySweep.new.Goals.{in-1+in_ok-start-in-1, in-2+in_ok-start-in-2, in-3+in_ok-start-in-3}
use Rattle.nr_peel.proofs.any_sweep.AnySweep.new.Goals.{in-4+in_ok-start-in-4, in_default+in_ok-start-in_default}
use Rattle.nr_peel.proofs.any_sweep.AnySweep.new.Goals as goal

pub returns-clause-started : goal.returns-clause-started
returns-clause-started c = elim c.match-div_ceil.branch [
  | in-1+in_ok-start-in-1 w ↦ rw (w.progress-is, w.result-is) w.in_ok-start-in-1.ensures.started
  | in-2+in_ok-start-in-2 w ↦ rw (w.progress-is, w.result-is) w.in_ok-start-in-2.ensures.started
  | in-3+in_ok-start-in-3 w ↦ rw (w.progress-is, w.result-is) w.in_ok-start-in-3.ensures.started
  | in-4+in_ok-start-in-4 w ↦ rw (w.progress-is, w.result-is) w.in_ok-start-in-4.ensures.started
  | in_default+in_ok-start-in_default w ↦ rw (w.progress-is, w.result-is) w.in_ok-start-in_default.ensures.started
]
