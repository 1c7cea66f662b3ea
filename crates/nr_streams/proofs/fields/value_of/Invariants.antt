use Rattle.nr_streams.proofs.Common.{◌≡◌, take, digits_value}
use Rattle.nr_streams.proofs.fields.value_of.Given as goal

-- the value is that of the digits so far
abbrev pub invariant-loop-digit : goal.invariant-loop-digit
invariant-loop-digit l = l.value ≡ digits_value 10 (take l.digit-index l.digits)
