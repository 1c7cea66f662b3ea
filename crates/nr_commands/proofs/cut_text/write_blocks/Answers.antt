use Rattle.nr_commands.proofs.Common.{arith, refl, ◌∙◌, err_from_is_err_and}
use Rattle.nr_commands.proofs.BlockTextFacts.{lines_next, lines_none, wrote_first, wrote_judged, wrote_last, wrote_more}
use Rattle.nr_commands.proofs.BlockTextFacts.{wrote_stopped}
use Rattle.nr_commands.proofs.cut_text.write_blocks.Goals as goal

pub write_block-requires-clause-judged : goal.write_block-requires-clause-judged
write_block-requires-clause-judged g c =
    let next = lines_next c.args.rate2048 c.loop-index.index c.args.blocks.now _ (omega arith) c.index-blocks-index.is in
    rw c.deref.ensures.value (wrote_judged _ _ _ _ next _ _ c.requires.judged c.loop-index.invariant.wrote)

pub returns-in_err-write_block-clause-text : goal.returns-in_err-write_block-clause-text
returns-in_err-write_block-clause-text g c =
    let p = err_from_is_err_and c.from_residual.result c.from_residual.ensures.1 in
    let next = lines_next c.args.rate2048 c.loop-index.index c.args.blocks.now _ (omega arith) c.index-blocks-index.is in
    wrote_stopped _ _ _ _ next _ _ _ c.from_residual.result p.0 _ p.1 p.2 c.requires.judged c.loop-index.invariant.wrote
    (rw c.deref.ensures.value at c.in_err-write_block.ensures.text)

pub loop-index-init : goal.loop-index-init
loop-index-init g c = record { wrote = wrote_first _ _; sound = refl }

pub loop-index-preserved : goal.loop-index-preserved
loop-index-preserved g c =
    let next = lines_next c.args.rate2048 c.loop-index.index c.args.blocks.now _ (omega arith) c.index-blocks-index.is in
    record {
      wrote =
          wrote_more _ _ _ _ next _ _ _ c.loop-index.invariant.wrote (rw c.deref.ensures.value at c.in_ok-write_block.ensures.text);
      sound = c.in_ok-write_block.ensures.put ∙ c.loop-index.invariant.sound;
    }

pub returns-clause-text : goal.returns-clause-text
returns-clause-text g c =
    wrote_last _ _ _ _ c.loop-index.invariant.wrote (lines_none c.args.rate2048 c.loop-index.index c.args.blocks.now (omega arith))
