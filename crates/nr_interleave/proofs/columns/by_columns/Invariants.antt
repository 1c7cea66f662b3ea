use Rattle.nr_interleave.proofs.Common.{◌≡◌, ◌+◌, ◌*◌, ◌++◌, take, interleaving_of}
use Rattle.nr_interleave.proofs.columns.by_columns.Given as goal

-- the columns so far are in the list, which has room for the others
abbrev pub invariant-loop-group : goal.invariant-loop-group
invariant-loop-group g l = record {
  spread : l.spread.items ≡ l.initial.spread.items ++ take (g.row.QM * (64 * l.group)) (interleaving_of g.row.QM l.bits.items);
  room : l.spread.room + g.row.QM * (64 * l.group) ≡ l.initial.spread.room;
}
