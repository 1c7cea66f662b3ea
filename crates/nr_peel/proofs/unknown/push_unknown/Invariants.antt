use Rattle.nr_peel.proofs.{Common.◌≡◌, Common.◌++◌, Common.filter, Common.range_with_len, UnknownFacts.is_missing}
use Rattle.nr_peel.proofs.unknown.push_unknown.Given as goal

-- the word's positions so far are added
abbrev pub invariant-loop-j : goal.invariant-loop-j
invariant-loop-j l = l.unknown.items ≡ l.initial.unknown.items ++ filter (is_missing l.word l.at) (range_with_len l.at l.j)
