use Rattle.nr_bitvec.proofs.Common.{◌≡◌, vec_capacity, Merges}
use Rattle.nr_bitvec.proofs.bits.Bits.union_with.Given as goal

-- the words so far are merged, in the memory that was there
abbrev pub invariant-loop-i : goal.invariant-loop-i
invariant-loop-i l = record {
  merges : Merges l.initial.self-inside.words.items l.more-inside.words.items l.self-inside.words.items l.i;
  room : vec_capacity l.self-inside.words ≡ vec_capacity l.initial.self-inside.words;
  len : l.self-inside.len ≡ l.initial.self-inside.len;
  same : l.more-inside.len ≡ l.initial.self-inside.len;
}
