use Rattle.std.proofs.Common.{map}
use Rattle.nr_drawing.proofs.Common.{seeded, take, ◌≡◌}
use Rattle.nr_drawing.proofs.side.side_by_side.Given as goal

-- the seeds so far have generators
abbrev pub invariant-loop-seed : goal.invariant-loop-seed
invariant-loop-seed l = l.generators.items ≡ map seeded (take l.seed-index l.seeds)
