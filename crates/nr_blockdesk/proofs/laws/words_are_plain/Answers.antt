use Rattle.nr_blockdesk.proofs.{Common.rules, LinkFacts.words-plain}
use Rattle.nr_blockdesk.proofs.laws.words_are_plain.Goals as goal

pub returns : goal.returns
returns c = search (rules, words-plain)
