use Rattle.nr_bitvec.proofs.Common.{◌≡◌, vec_capacity, Joins}
use Rattle.nr_bitvec.proofs.words.append_words.Given as goal

-- the words so far are appended, in the memory that was there
abbrev pub invariant-loop-i : goal.invariant-loop-i
invariant-loop-i l = record {
  joined : Joins l.len l.initial.words.items l.more l.words.items l.i;
  room : vec_capacity l.words ≡ vec_capacity l.initial.words;
}
