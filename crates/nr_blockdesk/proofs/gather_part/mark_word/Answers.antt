use Rattle.nr_blockdesk.proofs.ToldFacts.{word-marked}
use Rattle.nr_blockdesk.proofs.gather_part.mark_word.Goals as goal

pub returns-clause-items : goal.returns-clause-items
returns-clause-items c =
    word-marked c.args.list.now.items c.put.new.self.items c.args.at c.args.count c.window-before.result c.args.now
    c.requires.count c.window-before.ensures
    (record { within = c.put.ensures.within; before = c.put.ensures.before; after = c.put.ensures.after })
