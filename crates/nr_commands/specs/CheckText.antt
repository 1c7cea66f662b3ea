-- The text of `check`.
use Rattle.std.specs.Prelude.{ℕ, List, [], ◌++◌, Result, Ok, if◌then◌else◌}
use Rattle.nr_graphpick.specs.declared.{Graph.Graph, Graph.TheVariants.One, Graph.TheVariants.Two}
use Rattle.nr_shifttable.specs.Accepted.{Entries, has_graph, table_said}
use Rattle.nr_refusal.specs.Refusal.{◌>>=◌, with_fault}
use Rattle.nr_commands.specs.{CheckLines.graph_line, declared.fault.RunFault.RunFault}
use Rattle.nr_commands.specs.declared.fault.RunFault.TheVariants as faults

-- the line of a base graph, if the table has it
unfoldable pub graph_lines : Entries → Graph → List ℕ
graph_lines table graph = if has_graph graph table then graph_line table graph else []

-- the lines of a table, base graph 1 first
unfoldable pub table_lines : Entries → List ℕ
table_lines table = graph_lines table One ++ graph_lines table Two

-- what `check` says of a shift table file: its text, or the first fault
unfoldable pub check_said : List ℕ → Result (List ℕ) RunFault
check_said file = do
  table ← with_fault faults.Table (table_said file)
  Ok (table_lines table)
