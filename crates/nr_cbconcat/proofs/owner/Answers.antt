use Rattle.std.proofs.Common.{rules}
use Rattle.nr_cbconcat.proofs.OwnerFacts.{owner-only}
use Rattle.nr_cbconcat.proofs.owner.Goals as goal

pub returns-then-place-length-clause-value : goal.returns-then-place-length-clause-value
returns-then-place-length-clause-value c = search (rules, owner-only)
