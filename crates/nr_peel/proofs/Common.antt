-- The names that several proof files of this crate cite, passed on from one place. Declares nothing.
pub use Rattle.std.proofs.Common.{Bool, List, [], add-one, add-suc, ap, append-nil, append_assoc, arith, cond, false, get_or}
pub use Rattle.std.proofs.Common.{get_or-set_other, get_or-set_same, if◌then◌else◌, inl, inr, length, length-append, map}
pub use Rattle.std.proofs.Common.{nat_le, nat_lt, not, refl, replicate, rules, set, suc, sym, take, true, zero, ℕ, ⊎_elim}
pub use Rattle.std.proofs.Common.{◌%◌, ◌&&◌, ◌*◌, ◌++◌, ◌+◌, ◌-◌, ◌/◌, ◌<◌, ◌==◌, ◌^◌}
pub use Rattle.std.proofs.Common.{◌||◌, ◌∙◌, ◌∷◌, ◌≡◌, ◌≢◌, ◌≤◌}
pub use Rattle.std.proofs.Math.Nat.{mod-eq_of_lt, mul-le-mul_left, mul-le-mul_right}
pub use Rattle.std.proofs.lemmas.Bool.{and_from, and_parts, cases_Bool, cases_eq, cases_lt, eq-eqb, eqb-true, false_from_ne_true}
pub use Rattle.std.proofs.lemmas.Bool.{false≢true, lt-ltb, ltb-true, ne_eqb, not-true, or_cases, or_left, or_right}
pub use Rattle.std.proofs.lemmas.{Bool.true_from_ne_false, Bool.true≢false, Bool.Decides.nat_tests}
pub use Rattle.std.proofs.lemmas.List.{get_or-map, get_or-replicate, get_or_default, get_or_past, length-map, length-replicate}
pub use Rattle.std.proofs.lemmas.{List.length-set, List.take_all, List.take_more, List.FromFn.length-range_with_len}
pub use Rattle.std.proofs.lemmas.List.{Elements.All-filter, Elements.All-weaker, Folds.list_any-append, Folds.list_any_more}
pub use Rattle.std.proofs.lemmas.List.Sums.{count_by-le-length, get_or-le-sum_by, sum_by-take-le, sum_by_more}
pub use Rattle.std.proofs.lemmas.Nat.{div-add-mod', div-mul-add, div_below, mod-mul-add, mod_below}
pub use Rattle.std.proofs.lemmas.Nat.Bits.{bit_at-lt, bit_at-trailing_zeros, bit_at-zero, bit_at_ones, bit_at_set_other}
pub use Rattle.std.proofs.lemmas.Nat.Bits.{bit_at_set_same, shr_and_one}
pub use Rattle.std.specs.{Int.bit_at, Int.bit_not, Int.trailing_zeros, Int.w64, List.filter, List.list_all, List.range_with_len}
pub use Rattle.std.specs.Int.RustNames.{bit_and, bit_or, count_ones}
pub use Rattle.std.specs.Prelude.{All, count_by, slice_index, sum, vec_capacity, ◌⊎◌}
pub use Rattle.nr_bitvec.proofs.{ListFacts.get_or-replicate_same, NumberFacts.cond-most, PlaceFacts.place-zeros}
pub use Rattle.nr_bitvec.specs.{Bit.bit, Bit.◌⊕◌, Packed.IsClear, Packed.place}
pub use Rattle.nr_graphpick.specs.Graph.{cols_of, info_cols_of, rows_of}
pub use Rattle.nr_graphpick.specs.declared.Graph.{Graph}
pub use Rattle.nr_ldpcenc.proofs.CodewordFacts.{columns-are, set_below}
pub use Rattle.nr_ldpcenc.specs.Codeword.{filler}
pub use Rattle.nr_ldpcenc.specs.Parity.{parity}
pub use Rattle.nr_ldpcenc.specs.Rows.{Checks, Meets, block_checks, checks_of, one_at, positions}
pub use Rattle.nr_ldpcenc.specs.inside.Words.{row_at}
pub use Rattle.nr_ldpcenc.specs.inside.Solving.{unrotate}
pub use Rattle.nr_ldpcenc.proofs.RowSumFacts.{place_below, Meets-each}
pub use Rattle.nr_lifting.proofs.LaneBitFacts.{marked-append, marked-le, marked-same, ones_marked}
pub use Rattle.nr_lifting.{proofs.LaneWordFacts.IsWritten, specs.Planes.BlockCounts}
pub use Rattle.nr_lifting.specs.DoubledLanes.{BlockBits, is_set, lane_marks, marked_count}
pub use Rattle.nr_segment.specs.{CodeBlock.numbers, Plan.Numbers}
pub use Rattle.nr_shifttable.{proofs.EntryOrderFacts.rows_most, specs.declared.entry.Entry.Entry, specs.inside.Orders.Ascending}
pub use Rattle.nr_shifttable.specs.Accepted.{Entries, IsTable, entries_in}
pub use Rattle.nr_shifttable.specs.Tails.{HasShape, row_of, tail_of, value_in}
pub use Rattle.nr_peel.specs.Certificates.{IsFixOrder, IsRising, IsStoppingSet, accepts, after_steps, all_accepted, is_fixed_by}
pub use Rattle.nr_peel.specs.{Certificates.with_position, Slices.slice, State.any_known, State.any_view, Touches.sum_below}
pub use Rattle.nr_peel.specs.Closure.{AgreeOn, AreSound, IsDistinctRow, IsStopping, Within, any_below, fixes, stands, times_in}
pub use Rattle.nr_peel.specs.Peeling.{HasBits, IsPeeled, IsStarted, Peeling, fillers, left_of, unknown_in}
pub use Rattle.nr_peel.specs.declared.{any_sweep.AnySweep.AnySweep, bit_parallel.lanes.Lanes.Lanes, bit_parallel.sweep.Sweep.Sweep}
pub use Rattle.nr_peel.specs.declared.{bit_parallel.seen_lanes.SeenLanes.SeenLanes, fix.Fix.Fix, lifted.Lifted.Lifted}
pub use Rattle.nr_peel.specs.{declared.progress.Progress.Progress, inside.Due.DueCounts, inside.Due.due_in, inside.Due.work_of}
pub use Rattle.nr_peel.specs.inside.{Certificates.HasRoom, Certificates.Order, Certificates.told, Starts.IsBlankSweep}
pub use Rattle.nr_peel.specs.inside.{Closure.IsClosed, Closure.IsOnlyMissing, Closure.LacksNoneOrSeveral, Touches.row_length}
pub use Rattle.nr_peel.specs.inside.Lanes.{TakesLane, lacks, marks_of, missing_at, rotated_step, step_along, step_in, step_number}
pub use Rattle.nr_peel.specs.inside.{Giving.GivesPositions, Giving.news, Lanes.steps_below, Lanes.with_steps}
pub use Rattle.nr_peel.specs.inside.{Learning.IsAnySettled, Learning.IsSettled, State.lifted_checks, State.sweep_view}
pub use Rattle.nr_peel.specs.inside.Searches.{Passes, TurnsGoOn, full_rows}
pub use Rattle.nr_peel.specs.inside.Seen.{AreSeen, CountsOthers, CountsUnseen, HasLooked, HasSeenNone, IsMarkedIn, MarksColumn}
pub use Rattle.nr_peel.specs.inside.Seen.{NeedsNoLook, SeesOthers, has_seen, is_behind, is_stale, row_position, unseen}
pub use Rattle.nr_peel.specs.inside.Settled.{IsHeld, Keeps, Reaches, RowsSettle}
pub use Rattle.nr_peel.specs.inside.Slices.{GainsInBlock, IsSwept, NoneLoneBut, is_in_run, lacks_one, row_in, some_lone_below}
pub use Rattle.nr_peel.specs.inside.Sweeps.{AreLanes, CountsOf, Fixes, IsBlockSought, has_count}
unfoldable pub use Rattle.nr_peel.specs.{Closure.closure, Touches.step_pairs, inside.Slices.held, inside.Slices.some_lone}
unfoldable pub use Rattle.nr_peel.specs.inside.Touches.{all_pairs, spent_pairs}
