use Rattle.nr_streams.{proofs.Common.◌≡◌, proofs.Common.length, specs.Fields.from_first_mark}
use Rattle.nr_streams.proofs.fields.from_first_mark.Given as goal

-- only blanks at the start have been left out
abbrev pub invariant-loop-first : goal.invariant-loop-first
invariant-loop-first l = from_first_mark l.field ≡ from_first_mark l.fn.field

abbrev pub decreases-loop-first : goal.decreases-loop-first
decreases-loop-first l = length l.field
