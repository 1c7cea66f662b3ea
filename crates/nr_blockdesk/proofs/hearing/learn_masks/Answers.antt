use Rattle.nr_blockdesk.proofs.{Common.rules, HearingFacts.tied-news}
use Rattle.nr_blockdesk.proofs.hearing.learn_masks.Goals as goal

pub returns-clause-tied : goal.returns-clause-tied
returns-clause-tied g c = search (rules, tied-news)
