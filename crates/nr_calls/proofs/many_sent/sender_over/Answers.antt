use Rattle.nr_calls.proofs.ManySentFacts.{block-few}
use Rattle.nr_calls.proofs.many_sent.sender_over.Goals as goal

pub sender_of-requires : goal.sender_of-requires
sender_of-requires c = block-few c.args.table.now c.args.settings c.args.octets.now c.args.link.now c.is_sound.ensures c.requires
