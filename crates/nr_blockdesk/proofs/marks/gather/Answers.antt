use Rattle.nr_blockdesk.proofs.{Common.arith, Common.get_or_default, MarkFacts.gathered-more, MarkFacts.gathered-none}
use Rattle.nr_blockdesk.proofs.marks.gather.Goals as goal

pub loop-j-init : goal.loop-j-init
loop-j-init c = gathered-none c.args.places.now c.args.from

pub loop-j-preserved : goal.loop-j-preserved
loop-j-preserved c = grind (arith, gathered-more, get_or_default)

pub returns : goal.returns
returns c = λ j below. c.loop-j.invariant.part_masks j (omega (arith, below, c.loop-j-test.false))
