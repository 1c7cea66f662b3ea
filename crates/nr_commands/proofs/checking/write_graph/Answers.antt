use Rattle.nr_commands.proofs.Common.{arith, with_text-nil}
use Rattle.nr_commands.proofs.CommandLemmas.{graph_lines-line, graph_lines-none, graph_line-some}
use Rattle.nr_commands.proofs.checking.write_graph.Goals as goal

pub returns-then-not-has-clause-text : goal.returns-then-not-has-clause-text
returns-then-not-has-clause-text g c = grind (arith, graph_lines-none, with_text-nil)

pub returns-clause-text : goal.returns-clause-text
returns-clause-text g c = grind (arith, graph_lines-line, graph_line-some)
