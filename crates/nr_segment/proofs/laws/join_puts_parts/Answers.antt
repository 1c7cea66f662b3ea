use Rattle.nr_segment.proofs.CodeBlockLemmas.{joined-part}
use Rattle.nr_segment.proofs.laws.join_puts_parts.Goals as goal

pub returns : goal.returns
returns c = joined-part
