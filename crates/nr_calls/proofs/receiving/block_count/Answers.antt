use Rattle.nr_calls.proofs.Common.{ap, Numbers}
use Rattle.nr_calls.proofs.receiving.block_count.Goals as goal

pub returns : goal.returns
returns c = ap (λ (n : Numbers). n.c) c.plan.ensures.numbers
