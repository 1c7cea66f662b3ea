-- The register has the parity bits of the words that have entered, in the other order.
use Rattle.nr_crcattach.proofs.Common.{◌≡◌, ◌*◌, ◌<◌, ◌^◌, drop, take, crc_of, degree, flip}
use Rattle.nr_crcattach.proofs.crc_of_words.Given as goal

abbrev pub invariant-loop-i : goal.invariant-loop-i
invariant-loop-i l = record {
  value : flip (degree l.poly) l.register ≡ crc_of l.poly (take (64 * l.i) (drop l.from l.bits.items));
  fits : l.register < 2 ^ degree l.poly;
}
