use Rattle.nr_files.proofs.Common.{◌≡◌, take, is_ascii_hexdigit, list_all}
use Rattle.nr_files.proofs.blocks.all_digits.Given as goal

-- the characters so far
abbrev pub invariant-loop-character : goal.invariant-loop-character
invariant-loop-character l = l.all ≡ list_all is_ascii_hexdigit (take l.character-index l.line)
