use Rattle.nr_lifting.proofs.{Names.max, Names.place, Names.◌+◌, Names.◌/◌, LaneBitFacts.IsMade, DoubledJoinFacts.moved}
use Rattle.nr_lifting.proofs.lanes.doubled_words.union_whole_words.Given as goal

-- the words before word k are joined
abbrev pub invariant-loop-k : goal.invariant-loop-k
invariant-loop-k g l = IsMade l.k (λ t. max (place l.initial.doubled t) (place l.words t)) l.doubled l.initial.doubled

-- the words before word m are joined in the second copy
abbrev pub invariant-loop-m : goal.invariant-loop-m
invariant-loop-m g l =
    IsMade (l.size / 64 + l.m) (λ t. max (place l.initial.doubled t) (moved l.size l.words t)) l.doubled l.initial.doubled
