use Rattle.nr_files.proofs.Common.{◌≡◌, ◌≤◌, drop, length, take, first_block, of_process, round_of}
use Rattle.nr_files.proofs.rounds.round_of.Given as goal

-- the round that the process is in after the transmissions so far: its first transmission, and its block
abbrev pub invariant-loop-index : goal.invariant-loop-index
invariant-loop-index l = record {
  low : l.begun.0 ≤ l.index;
  within : l.begun.0 ≤ length l.before;
  round : of_process l.process (drop l.begun.0 (take l.index l.before)) ≡ round_of l.process (take l.index l.before);
  block : l.begun.1 ≡ first_block (round_of l.process (take l.index l.before));
}
