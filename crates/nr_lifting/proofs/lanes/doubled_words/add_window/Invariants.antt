use Rattle.nr_lifting.proofs.{Names.place, Names.◌%◌, Names.◌*◌, Names.◌+◌, LaneBitFacts.IsMade}
use Rattle.nr_lifting.proofs.lanes.doubled_words.add_window.Given as goal

-- the words before word k have gained their places
abbrev pub invariant-loop-k : goal.invariant-loop-k
invariant-loop-k g l =
    IsMade l.k (λ t. (place l.initial.sum t + place l.words (64 * l.at + l.p + t)) % 2) l.sum l.initial.sum
