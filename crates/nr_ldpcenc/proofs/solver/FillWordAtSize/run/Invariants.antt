-- The columns so far are solved, and the first K bits are unchanged.
use Rattle.nr_ldpcenc.proofs.Common.{◌≡◌, ◌+◌, ◌*◌, length, bit, info_cols_of, lifting_of, IsSolvedTo, AgreeBelow}
use Rattle.nr_ldpcenc.specs.inside.Doubled.{HasColumns}
use Rattle.nr_ldpcenc.proofs.solver.FillWordAtSize.run.Given as goal

abbrev pub invariant-loop-i : goal.invariant-loop-i
invariant-loop-i g l = record {
  columns : HasColumns g.row.Z (info_cols_of l.plan.graph + 4) (info_cols_of l.plan.graph + l.i) l.cols l.bits.items;
  solved : IsSolvedTo (lifting_of l.table l.plan g.row.Z) l.i (bit l.bits.items);
  same_below : AgreeBelow (info_cols_of l.plan.graph * g.row.Z) (bit l.fn.self.bits.now.items) (bit l.bits.items);
  long : length l.bits.items ≡ length l.fn.self.bits.now.items;
}
