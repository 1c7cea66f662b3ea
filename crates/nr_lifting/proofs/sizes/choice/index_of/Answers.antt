use Rattle.nr_lifting.proofs.SetIndexFacts.{member_some}
use Rattle.nr_lifting.proofs.sizes.choice.index_of.Goals as goal

pub unwrap-requires : goal.unwrap-requires
unwrap-requires c = member_some c.args.z c.set_of.result c.requires c.set_of.ensures
