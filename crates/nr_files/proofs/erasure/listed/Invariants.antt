use Rattle.nr_files.proofs.Common.{◌≡◌, ◌+◌, ◌≤◌, map, list_any, range_with_len, is_within, begins_before, furthest}
use Rattle.std.specs.Prelude.{vec_len, vec_capacity}
use Rattle.nr_files.proofs.erasure.listed.Given as goal

-- the marks of the places so far, and how far the ranges that begin among them reach
abbrev pub invariant-loop-place : goal.invariant-loop-place
invariant-loop-place l = record {
  marks : l.marks.items ≡ map (λ m. list_any (is_within m) l.ranges) (range_with_len 0 l.place);
  end : l.end ≡ furthest (begins_before l.place) l.count l.ranges;
  room : vec_len l.marks + l.count ≤ vec_capacity l.marks + l.place;
}
