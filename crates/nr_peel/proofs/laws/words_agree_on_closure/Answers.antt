use Rattle.nr_peel.proofs.CodewordFacts.{words_agree}
use Rattle.nr_peel.proofs.laws.words_agree_on_closure.Goals as goal

pub returns : goal.returns
returns c = words_agree
