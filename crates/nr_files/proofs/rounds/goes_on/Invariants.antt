use Rattle.nr_files.{proofs.Common.◌≡◌, proofs.Common.drop, specs.Rounds.goes_on}
use Rattle.nr_files.proofs.rounds.goes_on.Given as goal

-- none of those so far is of the process
abbrev pub invariant-loop-transmission : goal.invariant-loop-transmission
invariant-loop-transmission l = record {
  others : goes_on l.process (drop l.transmission-index l.later) ≡ goes_on l.process l.later;
}
