-- The columns before column j are taken.
use Rattle.nr_ldpcenc.proofs.Common.{◌≡◌, ◌*◌, length, bit, col_bit, AreTwice, AgreeBelow}
use Rattle.nr_ldpcenc.proofs.doubled_columns.load_columns.Given as goal

abbrev pub invariant-loop-j : goal.invariant-loop-j
invariant-loop-j g l = record {
  twice : AreTwice g.row.Z l.j l.cols;
  same : AgreeBelow (l.j * g.row.Z) (bit l.bits.items) (col_bit g.row.Z l.cols);
  words : length l.cols ≡ length l.initial.cols;
}
