use Rattle.nr_files.proofs.Common.{◌≡◌, ◌≤◌, ◌++◌, List, length, map, ℕ, lines_in, said_behind}
use Rattle.nr_files.proofs.blocks.reader.BlockReader.read_lines.Given as goal

-- the blocks of the reader and the rest of the piece make the same file as before
abbrev pub invariant-loop-end : goal.invariant-loop-end
invariant-loop-end l = record {
  within : length l.rest ≤ length l.piece;
  same : (more : List ℕ)
      → said_behind (map (λ block. block.items) l.fn.self.blocks.items) (lines_in (l.fn.self.line.items ++ (l.piece ++ more)))
      ≡ said_behind (map (λ block. block.items) l.self.blocks.items) (lines_in (l.self.line.items ++ (l.rest ++ more)));
}

-- each turn takes a line feed
abbrev pub decreases-loop-end : goal.decreases-loop-end
decreases-loop-end l = length l.rest
