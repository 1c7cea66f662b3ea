use Rattle.nr_files.proofs.Common.{arith}
use Rattle.std.proofs.lemmas.List.{replicate-append-replicate}
use Rattle.nr_drawing.proofs.MarkWordFacts.{low-ones}
use Rattle.nr_files.proofs.marks.ones.Goals as goal

pub loop-i-init : goal.loop-i-init
loop-i-init c = grind arith

pub loop-i-preserved : goal.loop-i-preserved
loop-i-preserved c = record { so_far = grind (arith, low-ones, replicate-append-replicate); room = grind arith }

pub returns : goal.returns
returns c = grind arith
