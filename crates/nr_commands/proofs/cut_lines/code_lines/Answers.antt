use Rattle.nr_commands.proofs.Common.{ℕ, List, [], ap, ◌++◌, ◌∙◌, numbers, code_bits, code_line}
use Rattle.nr_commands.proofs.BlockTextFacts.{flat_map-range_more}
use Rattle.nr_commands.proofs.cut_lines.code_lines.Goals as goal

pub loop-r-preserved : goal.loop-r-preserved
loop-r-preserved c =
    let code : ℕ → List ℕ = λ r. code_line c.args.number r (code_bits (numbers c.args.plan.now) c.args.bits.now.items r) in
    c.in_ok-push_code_line.ensures ∙ ap (λ (lines : List ℕ). lines ++ code c.loop-r.r) c.loop-r.invariant
    ∙ flat_map-range_more code [] c.loop-r.r
