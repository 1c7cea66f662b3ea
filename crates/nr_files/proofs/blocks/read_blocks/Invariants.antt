use Rattle.nr_files.proofs.Common.{[], ◌≡◌, ◌++◌, ◌-◌, ◌<◌, ◌≤◌, List, length, map, ℕ, Consumes, lines_in}
use Rattle.nr_files.{proofs.Common.said_behind, specs.inside.Words.StateLeaves}
use Rattle.nr_files.proofs.blocks.read_blocks.Given as goal

-- a text of this length has come; the reader has its blocks, or a line was refused; and no pull has failed
abbrev pub invariant-loop-count : goal.invariant-loop-count
invariant-loop-count g l = record {
  within : l.length ≤ 100000000;
  come : (text : List ℕ) × (Consumes (g.B.Source.remaining l.fn.source) (g.B.Source.remaining l.source) text)
      × (length text ≡ l.length)
      × ((more : List ℕ) → StateLeaves l.reader.fault (said_behind [] (lines_in (text ++ more)))
      (said_behind (map (λ block. block.items) l.reader.blocks.items) (lines_in (l.reader.line.items ++ more))));
  sound : g.B.Source.failures l.source ≡ g.B.Source.failures l.fn.source;
  room : 0 < length l.piece;
}

-- each turn that goes on takes an octet
abbrev pub decreases-loop-count : goal.decreases-loop-count
decreases-loop-count g l = 100000000 - l.length
