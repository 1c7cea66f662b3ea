use Rattle.nr_shifttable.proofs.Common.{◌≡◌, ◌++◌, length, take, drop, option_map, fields_of, short_numbers}
use Rattle.nr_shifttable.proofs.items.short_numbers.Given as goal

-- the numbers so far, followed by those of the fields left, are those of all fields
abbrev pub invariant-loop-i : goal.invariant-loop-i
invariant-loop-i l = record {
  said : short_numbers (fields_of l.row)
      ≡ option_map (λ ns. take l.i l.numbers ++ ns) (short_numbers (drop l.i (fields_of l.row)));
  room : length l.numbers ≡ 11;
}
