-- The lengths so far, and how many of their code blocks are scheduled.
use Rattle.nr_ratematch.proofs.Common.{◌≡◌, length, map, range_with_len, is_scheduled, scheduled_count, length_of}
use Rattle.nr_ratematch.proofs.sharing.shares.Given as goal

abbrev pub invariant-loop-r : goal.invariant-loop-r
invariant-loop-r l = record {
  counted : l.before ≡ scheduled_count (is_scheduled l.mask) l.r;
  shared : l.lengths.items ≡ map (length_of (is_scheduled l.mask) l.c l.unit l.symbols) (range_with_len 0 l.r);
  long : length l.lengths.items ≡ l.r;
}
