use Rattle.nr_calls.proofs.Common.{arith, refl, get_or-replicate_same}
use Rattle.nr_calls.proofs.batch.masked.Goals as goal

pub loop-j-init : goal.loop-j-init
loop-j-init c = record {
  done = λ k lt. absurd (omega (arith, lt));
  later = λ k le. get_or-replicate_same 64 k 0;
  long = refl;
}
