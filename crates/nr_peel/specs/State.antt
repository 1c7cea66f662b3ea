-- What contracts see of a peeler.
use Rattle.std.specs.Prelude.{ℕ, Bool, List}
use Rattle.nr_segment.specs.CodeBlock.{numbers}
use Rattle.nr_peel.specs.{Peeling.Peeling, declared.any_sweep.AnySweep.AnySweep}
use Rattle.nr_peel.specs.declared.any_sweep.AnySweep.TheVariants as variant
use Rattle.nr_peel.specs.declared.{lifted.Lifted.Lifted, progress.Progress.Progress}

-- the positions that are known, their bits, and the count of operations, whatever number of words the lanes take
abbrev pub any_known : AnySweep → List Bool
any_known (variant.One s) = s.lanes.known.items
any_known (variant.Two s) = s.lanes.known.items
any_known (variant.Three s) = s.lanes.known.items
any_known (variant.Four s) = s.lanes.known.items
any_known (variant.Six s) = s.lanes.known.items

abbrev pub any_bits : AnySweep → List Bool
any_bits (variant.One s) = s.lanes.bits.items
any_bits (variant.Two s) = s.lanes.bits.items
any_bits (variant.Three s) = s.lanes.bits.items
any_bits (variant.Four s) = s.lanes.bits.items
any_bits (variant.Six s) = s.lanes.bits.items

abbrev pub any_operations : AnySweep → ℕ
any_operations (variant.One s) = s.counts.operations
any_operations (variant.Two s) = s.counts.operations
any_operations (variant.Three s) = s.counts.operations
any_operations (variant.Four s) = s.counts.operations
any_operations (variant.Six s) = s.counts.operations

-- what is seen: beside these, the positions that were given, the steps, and the count of visits
abbrev pub view_of : Lifted → Progress → List Bool → List Bool → ℕ → Peeling
view_of l p known bits operations = record {
  table = l.table.now;
  graph = l.plan.graph;
  numbers = numbers l.plan;
  given = p.given.items;
  known = known;
  bits = bits;
  order = p.order.list.items;
  recorded = p.order.kept;
  touches = p.touches;
  operations = operations;
}

abbrev pub any_view : Lifted → Progress → AnySweep → Peeling
any_view l p s = view_of l p (any_known s) (any_bits s) (any_operations s)
