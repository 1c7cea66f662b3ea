-- the columns of the groups so far are put, as far as they fill words of the list
use Rattle.nr_interleave.proofs.Common.{◌≡◌, ◌+◌, ◌*◌, length, bit, ArePut}
use Rattle.nr_interleave.proofs.rows.by_rows.Given as goal

abbrev pub invariant-loop-group : goal.invariant-loop-group
invariant-loop-group g l = record {
  put : ArePut g.row.QM (λ r k. bit l.bits.items (l.from + (g.row.QM * k + r))) l.columns
      (64 * l.group) l.pending l.selected.items;
  long : length l.selected.items ≡ length l.initial.selected.items;
  room : l.selected.room ≡ l.initial.selected.room;
}
