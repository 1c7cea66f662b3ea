use Rattle.nr_ratematch.proofs.Common.{◌≡◌, ◌≤◌, length, drop, mask_word_of}
use Rattle.nr_ratematch.proofs.mask.word_of.Given as goal

-- the number is that of the bits from place `at` on
abbrev pub invariant-loop-at : goal.invariant-loop-at
invariant-loop-at l = record {
  inside : l.at ≤ length l.bits;
  so_far : l.word ≡ mask_word_of (drop l.at l.bits);
}

abbrev pub decreases-loop-at : goal.decreases-loop-at
decreases-loop-at l = l.at
