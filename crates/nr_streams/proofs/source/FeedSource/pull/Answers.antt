-- Whether or not a failure is to come, the pull takes what the octets left, the buffer and the step allow.
use Rattle.nr_streams.proofs.{Common.nat_tests, Common.arith, FeedFacts.feed-pulls}
use Rattle.std.proofs.lemmas.Grind.{common_steps}
use Rattle.nr_streams.proofs.source.FeedSource.pull.Goals as goal

pub returns-clause-octets : goal.returns-clause-octets
returns-clause-octets c = grind (arith, common_steps, nat_tests, feed-pulls)
