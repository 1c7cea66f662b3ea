use Rattle.nr_peel.proofs.{Common.arith, Common.refl, SeenLaneFacts.has_looked}
use Rattle.nr_peel.proofs.bit_parallel.seen_lanes.SeenLanes.fix.Goals as goal

pub returns-clause-looked : goal.returns-clause-looked
returns-clause-looked g c = has_looked c.args.self.now _ c.args.i c.args.j (omega arith) (omega arith) refl refl refl refl refl refl
