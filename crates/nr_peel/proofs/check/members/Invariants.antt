use Rattle.nr_peel.proofs.Common.{◌≡◌, take, count_by, stands, lifted_checks}
use Rattle.nr_peel.proofs.check.members.Given as goal

-- how many of the row's positions so far are members
abbrev pub invariant-loop-entry : goal.invariant-loop-entry
invariant-loop-entry l =
    l.count ≡ count_by (λ p. stands p l.set) (take l.entry-index ((lifted_checks l.lifted).row l.row l.lane))
