use Rattle.nr_commands.proofs.Common.{arith, err-is}
use Rattle.nr_commands.proofs.BlockTextFacts.{leads_first, leads_last, leads_more, leads_refused, lines_next, lines_none}
use Rattle.nr_commands.proofs.cut_text.judge.Goals as goal

pub returns-in_err-judge_block-clause-said : goal.returns-in_err-judge_block-clause-said
returns-in_err-judge_block-clause-said c =
    let next = lines_next c.args.rate2048 c.loop-index.index c.args.blocks.now _ (omega arith) c.index-blocks-index.is in
    rw (err-is c.from_residual.result _ c.from_residual.ensures.1) (leads_refused _ _ _ _ next _ c.loop-index.invariant
    (rw c.deref.ensures.value at c.in_err-judge_block.ensures.said))

pub loop-index-init : goal.loop-index-init
loop-index-init c = leads_first _

pub loop-index-preserved : goal.loop-index-preserved
loop-index-preserved c =
    let next = lines_next c.args.rate2048 c.loop-index.index c.args.blocks.now _ (omega arith) c.index-blocks-index.is in
    leads_more _ _ _ _ next c.loop-index.invariant (rw c.deref.ensures.value at c.in_ok-judge_block.ensures.said)

pub returns-clause-said : goal.returns-clause-said
returns-clause-said c =
    leads_last _ _ c.loop-index.invariant (lines_none c.args.rate2048 c.loop-index.index c.args.blocks.now (omega arith))
