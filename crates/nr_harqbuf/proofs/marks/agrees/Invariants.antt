-- Whether the word agrees at the positions so far.
use Rattle.nr_harqbuf.proofs.Common.{◌≡◌, ℕ, ◌*◌, ◌<◌, true, bit}
use Rattle.nr_harqbuf.proofs.marks.agrees.Given as goal

abbrev pub invariant-loop-i : goal.invariant-loop-i
invariant-loop-i l = record {
  so_far : l.agreed ≡ true → (p : ℕ) → p < 64 * l.i → bit l.marks.heard.items p ≡ true
      → bit l.word.items p ≡ bit l.marks.value.items p;
  always : ((p : ℕ) → bit l.marks.heard.items p ≡ true → bit l.word.items p ≡ bit l.marks.value.items p) → l.agreed
      ≡ true;
}
