-- The line of `check`.
use Rattle.std.specs.Prelude.{ℕ, List, [], ◌∷◌, ◌++◌, length, codes}
use Rattle.std.specs.Fmt.{decimal}
use Rattle.nr_graphpick.specs.{Graph.digits_of, declared.Graph.Graph}
use Rattle.nr_shifttable.specs.Accepted.{Entries, entries_in}

-- the line of a base graph: how many entries it has
unfoldable pub graph_line : Entries → Graph → List ℕ
graph_line table graph =
    codes "graph " ++ digits_of graph ++ codes " entries " ++ decimal (length (entries_in graph table)) ++ 10 ∷ []
