use Rattle.std.proofs.Common.{rules}
use Rattle.nr_ends.proofs.ending.refusal_line.Goals as goal

pub returns : goal.returns
returns c = (c.first_line.result.now, c.first_line.ensures.one, search rules)
