use Rattle.nr_commands.proofs.Common.{arith, ◌≡◌, ◌*◌, length, ap, ◌∙◌, err_from_is_err_and, bits_of, attached}
use Rattle.nr_commands.proofs.BlockTextFacts.{block_lines-planned, block_lines-some, block_lines-unpicked, block_lines-unplanned}
use Rattle.nr_commands.proofs.{Common.length-bits_of, BlockTextFacts.judged-not, BlockTextFacts.judged_none}
use Rattle.nr_commands.proofs.CommandLemmas.{writes_said}
use Rattle.nr_commands.proofs.cut_text.write_block.Goals as goal

pub returns-in_err-bits-clause-text : goal.returns-in_err-bits-clause-text
returns-in_err-bits-clause-text g c =
    let p = err_from_is_err_and c.from_residual.result c.from_residual.ensures.1 in
    judged_none _ _ p.0 _ c.requires.judged (block_lines-some _ _ _) p.1 p.2

pub returns-in_err-graph : goal.returns-in_err-graph
returns-in_err-graph g c =
    let size : c.len-a.result ≡ 8 * length c.args.octets.now = c.len-a.ensures.value ∙ ap length c.in_ok-bits.ensures
    ∙ length-bits_of c.args.octets.now in
    absurd (judged-not _ _ c.requires.judged (block_lines-unpicked _ _ _ _ size _ c.in_err-graph.ensures))

pub returns-in_err-attached-clause-text : goal.returns-in_err-attached-clause-text
returns-in_err-attached-clause-text g c =
    let p = err_from_is_err_and c.from_residual-in_err-attached.result c.from_residual-in_err-attached.ensures.1 in
    judged_none _ _ p.0 _ c.requires.judged (block_lines-some _ _ _) p.1 p.2

pub returns-in_err-plan : goal.returns-in_err-plan
returns-in_err-plan g c =
    let size : c.len-a.result ≡ 8 * length c.args.octets.now = c.len-a.ensures.value ∙ ap length c.in_ok-bits.ensures
    ∙ length-bits_of c.args.octets.now in
    let bits : c.in_ok-attached.attached.items ≡ attached (bits_of c.args.octets.now) =
    c.in_ok-attached.ensures ∙ ap attached c.in_ok-bits.ensures in
    let long : c.len.result ≡ length (attached (bits_of c.args.octets.now)) = c.len.ensures.value ∙ ap length bits in
    absurd (judged-not _ _ c.requires.judged
    (block_lines-unplanned _ _ _ _ size _ _ _ c.in_ok-graph.ensures long c.in_err-plan.ensures.refused))

pub returns-clause-text : goal.returns-clause-text
returns-clause-text g c = grind (arith, length-bits_of, writes_said, block_lines-planned)
