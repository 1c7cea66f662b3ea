use Rattle.std.proofs.Common.{◌≡◌, length, take}
use Rattle.nr_calls.specs.Crossing.{AreBits}
use Rattle.nr_calls.specs.inside.Words.{joined}
use Rattle.nr_calls.proofs.many_sent.write_all.Given as goal

-- the bits of the lists so far
abbrev pub invariant-loop-bits : goal.invariant-loop-bits
invariant-loop-bits l = record {
  at_is : l.at ≡ length (joined (take l.bits-index l.parts));
  written : AreBits (joined (take l.bits-index l.parts)) (take l.at l.out);
}
