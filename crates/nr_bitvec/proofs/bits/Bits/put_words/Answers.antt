use Rattle.nr_bitvec.proofs.PutWordFacts.{put_words-clear, put_words-short, put_words-fits, put_words-packed, put_words-before}
use Rattle.nr_bitvec.proofs.{Common.rules, PutWordFacts.put_words-within, PutWordFacts.put_words-after, PutWordFacts.put_words-long}
use Rattle.nr_bitvec.proofs.bits.Bits.put_words.Goals as goal

pub append_words-requires-clause-clear : goal.append_words-requires-clause-clear
append_words-requires-clause-clear c = search (rules, put_words-clear)

pub append_words-requires-clause-fits : goal.append_words-requires-clause-fits
append_words-requires-clause-fits c = search (rules, put_words-fits)

pub append_words-requires-clause-short : goal.append_words-requires-clause-short
append_words-requires-clause-short c = search (rules, put_words-short)

pub invariant_of-self : goal.invariant_of-self
invariant_of-self c = search (rules, put_words-packed)

pub returns-clause-before : goal.returns-clause-before
returns-clause-before c = search (rules, put_words-before)

pub returns-clause-within : goal.returns-clause-within
returns-clause-within c = search (rules, put_words-within)

pub returns-clause-after : goal.returns-clause-after
returns-clause-after c = search (rules, put_words-after)

pub returns-clause-long : goal.returns-clause-long
returns-clause-long c = search (rules, put_words-long)
