use Rattle.nr_peel.proofs.SkippedRowFacts.{skipped_rows}
use Rattle.nr_peel.proofs.laws.skipped_rows_add_nothing.Goals as goal

pub returns : goal.returns
returns c = skipped_rows
