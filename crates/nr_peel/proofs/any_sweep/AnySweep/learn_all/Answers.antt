use Rattle.nr_peel.proofs.any_sweep.AnySweep.learn_all.Goals as goal

pub returns-in-One-clause-learns : goal.returns-in-One-clause-learns
returns-in-One-clause-learns c = rw c.in-One.is c.learn_all.ensures.learns

pub returns-in-Two-clause-learns : goal.returns-in-Two-clause-learns
returns-in-Two-clause-learns c = rw c.in-Two.is c.learn_all-in-Two.ensures.learns

pub returns-in-Three-clause-learns : goal.returns-in-Three-clause-learns
returns-in-Three-clause-learns c = rw c.in-Three.is c.learn_all-in-Three.ensures.learns

pub returns-in-Four-clause-learns : goal.returns-in-Four-clause-learns
returns-in-Four-clause-learns c = rw c.in-Four.is c.learn_all-in-Four.ensures.learns

pub returns-in-Six-clause-learns : goal.returns-in-Six-clause-learns
returns-in-Six-clause-learns c = rw c.in-Six.is c.learn_all-in-Six.ensures.learns
