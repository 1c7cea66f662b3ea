use Rattle.nr_peel.proofs.{Common.arith, DueBlockFacts.kept_new}
use Rattle.nr_peel.proofs.bit_parallel.row_counts.RowCounts.new.Goals as goal

pub invariant_of-result : goal.invariant_of-result
invariant_of-result g c =
    kept_new c.args.planes c.loop-i.due c.args.degrees.now c.requires.some c.requires.few c.requires.long c.requires.alike
    (λ h below. grind (arith, c.loop-i.invariant.ones h))
