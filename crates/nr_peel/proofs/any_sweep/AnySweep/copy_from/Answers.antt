use Rattle.nr_peel.proofs.any_sweep.AnySweep.copy_from.Goals.{in-One-One, in-Two-Two, in-Three-Three, in-Four-Four, in-Six-Six}
use Rattle.nr_peel.proofs.any_sweep.AnySweep.copy_from.Goals as goal

pub returns : goal.returns
returns c = elim c.match-self.branch [
  | in-One-One w ↦ rw (w.in-One-One.is-1, w.self-is) w.copy_from.ensures
  | in-Two-Two w ↦ rw (w.in-Two-Two.is-1, w.self-is) w.copy_from-in-Two-Two.ensures
  | in-Three-Three w ↦ rw (w.in-Three-Three.is-1, w.self-is) w.copy_from-in-Three-Three.ensures
  | in-Four-Four w ↦ rw (w.in-Four-Four.is-1, w.self-is) w.copy_from-in-Four-Four.ensures
  | in-Six-Six w ↦ rw (w.in-Six-Six.is-1, w.self-is) w.copy_from-in-Six-Six.ensures
]
