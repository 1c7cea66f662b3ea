-- The marks so far are in the word, and none after them.
use Rattle.nr_files.proofs.Common.{◌≡◌, drop, take, low_first}
use Rattle.nr_bitvec.proofs.WordDigitFacts.{HasNone}
use Rattle.nr_files.proofs.marks.gather.Given as goal

abbrev pub invariant-loop-j : goal.invariant-loop-j
invariant-loop-j l = record {
  told : low_first l.j l.word ≡ take l.j (drop l.from l.marks);
  none : HasNone l.j l.word;
}
