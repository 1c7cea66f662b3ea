-- The register has the parity bits of the bits that have entered.
use Rattle.nr_crcattach.proofs.Common.{◌≡◌, ◌<◌, ◌^◌, drop, take, crc_of, degree}
use Rattle.nr_crcattach.proofs.crc_range.Given as goal

abbrev pub invariant-loop-i : goal.invariant-loop-i
invariant-loop-i l = record {
  value : l.register ≡ crc_of l.poly (take l.i (drop l.from l.bits.items));
  fits : l.register < 2 ^ degree l.poly;
}
