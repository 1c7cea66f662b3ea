use Rattle.nr_lifting.proofs.{Names.max, Names.place, Names.◌*◌, Names.◌+◌, Names.◌/◌, LaneBitFacts.IsMade}
use Rattle.nr_lifting.proofs.DoubledJoinFacts.{Carries, moved}
use Rattle.nr_lifting.proofs.lanes.doubled_words.union_words.Given as goal

-- the words before word i are moved up, but for what they left over
abbrev pub invariant-loop-i : goal.invariant-loop-i
invariant-loop-i g l = record {
  made : IsMade l.i (λ t. moved l.size l.words (64 * (l.size / 64) + t)) l.up l.initial.up;
  carry : Carries l.size l.i l.words l.past;
}

-- the words before word k are joined
abbrev pub invariant-loop-k : goal.invariant-loop-k
invariant-loop-k g l = IsMade l.k (λ t. max (place l.initial.doubled t) (place l.words t)) l.doubled l.initial.doubled

-- the words before word m are joined at the places that they are moved up to
abbrev pub invariant-loop-m : goal.invariant-loop-m
invariant-loop-m g l =
    IsMade (l.size / 64 + l.m) (λ t. max (place l.initial.doubled t) (moved l.size l.words t)) l.doubled l.initial.doubled
