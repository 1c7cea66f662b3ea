use Rattle.nr_commands.proofs.Common.{◌++◌, [], List, ℕ, length, flat_map, ap, sym, ◌∙◌, refl, append_assoc}
use Rattle.nr_commands.proofs.Common.{range_with_len, err_from_is_err_and, numbers, code_bits, planned_lines, block_line}
use Rattle.nr_commands.proofs.Common.{attached_line, code_line, with_text, with_text-nil, with_text-append}
use Rattle.nr_commands.proofs.BlockTextFacts.{attached_line-some, block_line-some, code_lines-some}
use Rattle.nr_commands.proofs.WrittenLemmas.{writes_behind, writes_last}
use Rattle.nr_commands.proofs.cut_text.write_planned.Goals as goal

-- the line of the plan is the first part of the text
pub returns-in_err-put_line-clause-text : goal.returns-in_err-put_line-clause-text
unfolding planned_lines
returns-in_err-put_line-clause-text g c =
    let p = err_from_is_err_and c.from_residual.result c.from_residual.ensures.1 in
    let plan : List ℕ =
    block_line c.args.number c.args.a (length c.args.bits.now.items) c.args.plan.now.graph (numbers c.args.plan.now) in
    let bits : List ℕ = attached_line c.args.number c.args.bits.now.items in
    let codes : List ℕ = flat_map (λ r. code_line c.args.number r (code_bits (numbers c.args.plan.now) c.args.bits.now.items r))
    (range_with_len 0 c.args.plan.now.c) in
    let left = rw (sym c.requires.planned) at (c.in_err-put_line.ensures.text _ (block_line-some _ _ _ _ _) c.block_line.ensures) in
    writes_behind _ _ _ c.from_residual.result p.0 _ _ [] plan (bits ++ codes) p.1 p.2 (append_assoc plan bits codes)
    (sym (with_text-nil _)) left

pub returns-in_err-put_line-2-clause-text : goal.returns-in_err-put_line-2-clause-text
unfolding planned_lines
returns-in_err-put_line-2-clause-text g c =
    let p = err_from_is_err_and c.from_residual-in_err-put_line-2.result c.from_residual-in_err-put_line-2.ensures.1 in
    let before =
    rw (sym c.requires.planned) at (c.in_ok-put_line.ensures.text _ (block_line-some _ _ _ _ _) c.block_line.ensures) in
    writes_behind _ _ _ c.from_residual-in_err-put_line-2.result p.0 _ _ _ _ _ p.1 p.2 refl before
    (c.in_err-put_line-2.ensures.text _ (attached_line-some _ _) c.attached_line.ensures)

pub returns-clause-text : goal.returns-clause-text
unfolding planned_lines
returns-clause-text g c =
    let first = rw (sym c.requires.planned) at (c.in_ok-put_line.ensures.text _ (block_line-some _ _ _ _ _) c.block_line.ensures) in
    let before = c.in_ok-put_line-2.ensures.text _ (attached_line-some _ _) c.attached_line.ensures
    ∙ ap (λ w. with_text w (attached_line c.args.number c.args.bits.now.items)) first ∙ with_text-append _ _ _ in
    writes_last _ _ _ c.put_line-3.result _ _ before
    (c.put_line-3.ensures.text _ (code_lines-some _ _ _ c.args.plan.now.sound.some) c.code_lines.ensures)
