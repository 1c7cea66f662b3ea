use Rattle.nr_blockdesk.proofs.Common.{◌≡◌, ◌<◌, get_or as slice_index_or, ap, arith, get_or_default, word, SenderView}
use Rattle.nr_blockdesk.proofs.{Common.carried, SenderFacts.length-words, SenderFacts.word-at}
use Rattle.nr_blockdesk.proofs.sender.Sender.word.Goals.{After-index}
use Rattle.nr_blockdesk.proofs.sender.Sender.word.Goals as goal

pub index-requires : goal.index-requires
index-requires c = grind (arith, length-words)

inside : (c : After-index) → c.args.r < c.self.inside.link.plan.c
inside c = omega (arith, ap (λ (v : SenderView). v.link.plan.c) c.self.view_is, c.requires)

value : (c : After-index) → c.index.result.now
    ≡ word c.self.inside.link
    (carried c.self.inside.link
    c.self.inside.words.items) c.args.r
value c = grind (arith, length-words, get_or_default, inside, slice_index_or, word-at)

pub returns-clause-value : goal.returns-clause-value
returns-clause-value c = rw (← c.self.view_is) (value (goal.at.returns-clause-value c).After-index)

pub returns-clause-meets : goal.returns-clause-meets
returns-clause-meets c = grind (arith, inside, value)
