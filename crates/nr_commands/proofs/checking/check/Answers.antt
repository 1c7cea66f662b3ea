use Rattle.nr_commands.proofs.Common.{arith, err_from_is_err_and, check_said, table_lines}
use Rattle.nr_commands.proofs.CommandLemmas.{given-table-read, given-table-refused, table_refusal-put, delivers-refused}
use Rattle.nr_commands.proofs.CommandLemmas.{delivers-writes, writes_said}
use Rattle.std.proofs.lemmas.Option.{IfSome_then}
use Rattle.nr_commands.proofs.checking.check.Goals as goal

pub returns-in_err-table-clause-text : goal.returns-in_err-table-clause-text
returns-in_err-table-clause-text g c =
    let p = err_from_is_err_and c.from_residual.result c.from_residual.ensures.1 in
    λ same. IfSome_then (g.T.Source.remaining c.args.table.now) c.in_err-table.ensures.said
    (λ octets given. delivers-refused (g.O.Sink.written c.args.out.now) c.from_residual.result p.0 _ (check_said octets) p.1 p.2
    (table_refusal-put c.in_err-table.field-0.0)
    (given-table-refused _ octets c.in_err-table.field-0.0 (λ read. grind (arith, same, c.in_err-table.ensures.pulled)) given))

pub returns-clause-text : goal.returns-clause-text
returns-clause-text g c =
    λ same. IfSome_then (g.T.Source.remaining c.args.table.now) c.in_ok-table.ensures.said
    (λ octets given. delivers-writes _ _ c.write_table.result (check_said octets)
    (writes_said _ _ c.write_table.result (table_lines c.in_ok-table.table) (check_said octets)
    (given-table-read _ octets c.in_ok-table.table (λ read. cc) given) c.write_table.ensures.text))
