use Rattle.nr_streams.proofs.Common.{◌≡◌, length, to_last_mark}
use Rattle.nr_streams.proofs.fields.to_last_mark.Given as goal

-- only blanks at the end have been left out
abbrev pub invariant-loop-last : goal.invariant-loop-last
invariant-loop-last l = to_last_mark l.field ≡ to_last_mark l.fn.field

abbrev pub decreases-loop-last : goal.decreases-loop-last
decreases-loop-last l = length l.field
