use Rattle.nr_commands.{proofs.Common.arith, proofs.Common.err_from_is_err_and, specs.declared.fault.RunFault.TheVariants.Blocks}
use Rattle.nr_commands.proofs.CommandLemmas.{delivers-refused, delivers-writes, of_block-other, said_refused, writes-told}
use Rattle.nr_commands.proofs.CommandLemmas.{blocks_refusal-put, cut_said-read, given-refused}
use Rattle.nr_files.specs.declared.blocks.BlocksFault.TheVariants.{Read}
use Rattle.nr_commands.proofs.cutting.cut.Goals as goal

pub returns-in_err-blocks-clause-text : goal.returns-in_err-blocks-clause-text
returns-in_err-blocks-clause-text g c = grind (arith, err_from_is_err_and, delivers-refused, blocks_refusal-put, given-refused)

pub returns-in_err-judge-clause-text : goal.returns-in_err-judge-clause-text
returns-in_err-judge-clause-text g c = grind (arith, err_from_is_err_and, delivers-refused, of_block-other, cut_said-read)

pub returns-in_err-judge-clause-pulled : goal.returns-in_err-judge-clause-pulled
returns-in_err-judge-clause-pulled g c = grind (arith, err_from_is_err_and, of_block-other)

pub returns-in_err-judge-clause-put : goal.returns-in_err-judge-clause-put
returns-in_err-judge-clause-put g c = grind (arith, err_from_is_err_and, of_block-other)

pub returns-clause-text : goal.returns-clause-text
returns-clause-text g c = grind (arith, delivers-writes, cut_said-read)

pub returns-clause-untouched : goal.returns-clause-untouched
returns-clause-untouched g c = said_refused _ _ c.write_blocks.result _ c.write_blocks.ensures.text

pub returns-clause-pulled : goal.returns-clause-pulled
returns-clause-pulled g c = writes-told _ _ c.write_blocks.result _ (Blocks Read) _ _ c.write_blocks.ensures.text (λ is. cc)
    (λ is. cc) c.in_ok-blocks.ensures.pulled
