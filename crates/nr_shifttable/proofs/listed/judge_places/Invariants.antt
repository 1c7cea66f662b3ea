use Rattle.nr_shifttable.proofs.Common.{◌≡◌, ◌+◌, ◌≤◌, drop, take, All, IsInside, item_kept, places_from}
use Rattle.nr_shifttable.proofs.Common.{places_said}
use Rattle.std.proofs.Common.{◌^◌}
use Rattle.nr_shifttable.proofs.listed.judge_places.Given as goal

-- the result for the rest is that for all; each entry so far is within its base graph and has a key of its own
abbrev pub invariant-loop-entry : goal.invariant-loop-entry
invariant-loop-entry l = record {
  said : places_from (l.number + 1) l.past (drop l.entry-index l.entries) ≡ places_said l.entries;
  inside : All (λ e. IsInside (item_kept e)) (take l.entry-index l.entries);
  few : l.number ≤ l.past;
  short : l.past ≤ 2 ^ 24;
}
