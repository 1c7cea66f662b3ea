use Rattle.nr_lifting.proofs.{Names.arith, SetIndexFacts.member_at, SetIndexFacts.member_past}
use Rattle.nr_lifting.proofs.sizes.choice.at_size.Goals as goal

pub at_0-requires-clause-size : goal.at_0-requires-clause-size
at_0-requires-clause-size g c = member_at c.args.z 0 c.requires.size (cc)

pub at_1-requires-clause-size : goal.at_1-requires-clause-size
at_1-requires-clause-size g c = member_at c.args.z 1 c.requires.size (cc)

pub at_2-requires-clause-size : goal.at_2-requires-clause-size
at_2-requires-clause-size g c = member_at c.args.z 2 c.requires.size (cc)

pub at_3-requires-clause-size : goal.at_3-requires-clause-size
at_3-requires-clause-size g c = member_at c.args.z 3 c.requires.size (cc)

pub at_4-requires-clause-size : goal.at_4-requires-clause-size
at_4-requires-clause-size g c = member_at c.args.z 4 c.requires.size (cc)

pub at_5-requires-clause-size : goal.at_5-requires-clause-size
at_5-requires-clause-size g c = member_at c.args.z 5 c.requires.size (cc)

pub at_6-requires-clause-size : goal.at_6-requires-clause-size
at_6-requires-clause-size g c = member_at c.args.z 6 c.requires.size (cc)

pub at_7-requires-clause-size : goal.at_7-requires-clause-size
at_7-requires-clause-size g c = member_at c.args.z 7 c.requires.size (cc)

-- no index is above 7
pub unreachable-requires : goal.unreachable-requires
unreachable-requires g c = member_past c.args.z c.index_of.result c.requires.size c.index_of.ensures (omega arith)
