use Rattle.nr_files.proofs.Common.{◌≡◌, ◌==◌, length, drop, ranges_of}
use Rattle.nr_files.proofs.PlaceItemFacts.{with_ranges}
use Rattle.std.specs.List.{slice_split}
use Rattle.nr_files.proofs.place_fields.place_list.Given as goal

-- the ranges so far, followed by those of the items that are left, are those of all items
abbrev pub invariant-loop-item : goal.invariant-loop-item
invariant-loop-item l = with_ranges l.ranges.items
    (ranges_of (drop (length l.yielded) (slice_split (λ c. c == 32) l.fn.text)))
    ≡ ranges_of (slice_split (λ c. c == 32) l.fn.text)
