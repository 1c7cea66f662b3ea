use Rattle.nr_bitvec.proofs.Common.{◌≡◌, ◌+◌, ◌*◌, length, vec_capacity, Loads, followed}
use Rattle.nr_bitvec.proofs.words.push_windows.Given as goal

-- the words so far, in the memory that was there
abbrev pub invariant-loop-i : goal.invariant-loop-i
invariant-loop-i l = record {
  loads : Loads (followed l.initial.words.items l.from (64 * l.word + l.turn)) l.words.items (length l.initial.words.items + l.i);
  room : vec_capacity l.words ≡ vec_capacity l.initial.words;
}

abbrev pub invariant-loop-i-2 : goal.invariant-loop-i-2
invariant-loop-i-2 l = record {
  loads : Loads (followed l.initial.words.items l.from (64 * l.word + l.turn)) l.words.items (length l.initial.words.items + l.i);
  room : vec_capacity l.words ≡ vec_capacity l.initial.words;
}
