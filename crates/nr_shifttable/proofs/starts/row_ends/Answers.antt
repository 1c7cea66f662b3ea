use Rattle.nr_shifttable.proofs.{Common.refl, RowEndFacts.ends-none}
use Rattle.nr_shifttable.proofs.starts.row_ends.Goals as goal

pub loop-entry-init : goal.loop-entry-init
loop-entry-init c = record { ends = ends-none c.args.entries.now; room = refl; counted = refl }
