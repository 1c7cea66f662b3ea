use Rattle.nr_commands.proofs.{Common.◌+◌, Common.map, Common.drop, Common.lines_from, BlockTextFacts.Leads}
use Rattle.nr_commands.proofs.cut_text.judge.Given as goal

-- the text of the blocks that are left is the rest of the text of all
abbrev pub invariant-loop-index : goal.invariant-loop-index
invariant-loop-index l = Leads
    (lines_from l.rate2048 (l.index + 1) (drop l.index (map (λ block. block.items) l.blocks)))
    (lines_from l.rate2048 1 (map (λ block. block.items) l.blocks))
