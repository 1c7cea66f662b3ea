use Rattle.nr_calls.proofs.Common.{◌≡◌, nat_le, take, list_all, is_coded}
use Rattle.nr_calls.proofs.encoding.are_coded.Given as goal

-- the result of the test for the octets so far
abbrev pub invariant-loop-octet : goal.invariant-loop-octet
invariant-loop-octet l = nat_le l.most 2 ≡ list_all is_coded (take l.octet-index l.octets)
