use Rattle.nr_shifttable.proofs.Common.{◌≡◌, ◌+◌, length, nat_lt, take, drop, list_all}
use Rattle.nr_shifttable.proofs.items.values_of.Given as goal

-- the values so far are in range, and are those that were read
abbrev pub invariant-loop-set : goal.invariant-loop-set
invariant-loop-set l = record {
  all : list_all (λ v. nat_lt v 65536) (drop 3 l.numbers) ≡ list_all (λ v. nat_lt v 65536) (drop (3 + l.set) l.numbers);
  front : take l.set l.values ≡ take l.set (drop 3 l.numbers);
  room : length l.values ≡ 8;
}
