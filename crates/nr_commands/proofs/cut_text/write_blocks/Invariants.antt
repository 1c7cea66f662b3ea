use Rattle.nr_commands.proofs.{Common.◌≡◌, Common.◌+◌, Common.map, Common.drop, Common.lines_from, BlockTextFacts.Wrote}
use Rattle.nr_commands.proofs.cut_text.write_blocks.Given as goal

-- the lines of the blocks so far are written, and no put failed
abbrev pub invariant-loop-index : goal.invariant-loop-index
invariant-loop-index g l = record {
  wrote : Wrote (g.O.Sink.written l.fn.out) (g.O.Sink.written l.out)
      (lines_from l.rate2048 (l.index + 1) (drop l.index (map (λ block. block.items) l.blocks)))
      (lines_from l.rate2048 1 (map (λ block. block.items) l.blocks));
  sound : g.O.Sink.failures l.out ≡ g.O.Sink.failures l.fn.out;
}
