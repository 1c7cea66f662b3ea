use Rattle.nr_commands.proofs.{Common.arith, Common.err_from_is_err_and, WrittenLemmas.writes_none}
use Rattle.nr_commands.proofs.delivering.put_line.Goals as goal

pub returns-in_err-line-clause-text : goal.returns-in_err-line-clause-text
returns-in_err-line-clause-text g c = grind (arith, err_from_is_err_and, writes_none)
