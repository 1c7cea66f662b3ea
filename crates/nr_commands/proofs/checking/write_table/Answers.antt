use Rattle.nr_commands.proofs.Common.{sym, [], refl, err_from_is_err_and, graph_lines, table_lines, with_text-nil}
use Rattle.nr_commands.proofs.WrittenLemmas.{writes_behind, writes_last}
use Rattle.nr_graphpick.specs.declared.Graph.TheVariants.{One, Two}
use Rattle.nr_commands.proofs.checking.write_table.Goals as goal

pub returns-in_err-write_graph-clause-text : goal.returns-in_err-write_graph-clause-text
unfolding table_lines
returns-in_err-write_graph-clause-text g c =
    let p = err_from_is_err_and c.from_residual.result c.from_residual.ensures.1 in
    writes_behind _ _ _ c.from_residual.result p.0 c.in_err-write_graph.field-0.0 _ [] (graph_lines c.args.table.now One)
    (graph_lines c.args.table.now Two) p.1 p.2 refl (sym (with_text-nil _)) c.in_err-write_graph.ensures.text

pub returns-clause-text : goal.returns-clause-text
unfolding table_lines
returns-clause-text g c = writes_last _ _ _ _ (graph_lines c.args.table.now One)
    (graph_lines c.args.table.now Two) c.in_ok-write_graph.ensures.text c.write_graph-2.ensures.text
