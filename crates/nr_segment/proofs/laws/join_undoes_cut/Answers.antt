use Rattle.nr_segment.proofs.CodeBlockLemmas.{join-cut}
use Rattle.nr_segment.proofs.laws.join_undoes_cut.Goals as goal

pub returns : goal.returns
returns c = join-cut
