-- The words of the first copy, and then of the second, as far as the loop has come.
use Rattle.nr_lifting.proofs.{Names.place, Names.◌+◌, PutWordFacts.IsPut}
use Rattle.nr_lifting.proofs.lanes.doubled_words.put_twice.Given as goal

abbrev pub invariant-loop-k : goal.invariant-loop-k
invariant-loop-k g l = IsPut l.at l.k (place l.lane) l.words l.initial.words

abbrev pub invariant-loop-i : goal.invariant-loop-i
invariant-loop-i g l = IsPut (l.at + g.row.W) l.i (λ t. place l.lane (t + l.up)) l.words l.initial.words
