-- The names that several proof files of this crate cite, passed on from one place. Declares nothing.
pub use Rattle.csv.specs.Records.{fields_of}
pub use Rattle.std.proofs.Common.{Bool, List, None, Option, Some, [], ap, append_assoc, arith, below_more, cond, drop, false}
pub use Rattle.std.proofs.Common.{get_or, get_or-set_other, get_or-set_same, inl, inr, length, map, nat_le, nat_lt, not, option_map}
pub use Rattle.std.proofs.Common.{refl, replicate, rules, set, subst, suc, sym, take, true, zero, ℕ, ⊎_elim, ◌&&◌, ◌*◌}
pub use Rattle.std.proofs.Common.{◌++◌, ◌+◌, ◌-◌, ◌<◌, ◌==◌, ◌||◌, ◌∙◌, ◌∷◌, ◌≡◌}
pub use Rattle.std.proofs.lemmas.Bool.{and_parts, both_ways, cases_lt, eq-eqb, eqb-false, eqb-true, false_from_ne_true, le-leb}
pub use Rattle.std.proofs.lemmas.List.{append-nil, get_or-drop, get_or-map, get_or-replicate, get_or_append_left, get_or_default}
pub use Rattle.std.proofs.lemmas.List.Elements.{All-cons, All-filter, All-head, All-map, All-nil, All-push, All-tail, All-weaker}
pub use Rattle.std.proofs.{Common.◌≤◌, Common.◌⊎◌, lemmas.Bool.Decides.nat_tests, lemmas.Grind.common_steps}
pub use Rattle.std.proofs.lemmas.Bool.{le-ltb, lt-leb, lt-ltb, ltb-false, ltb-true, ne_eqb, or_from}
pub use Rattle.std.proofs.lemmas.List.{length-append, length-drop, length-map, length-set, take-append-drop, take_more_set}
pub use Rattle.std.proofs.lemmas.List.{Elements.filter-append, Elements.filter_passes, Kept.AllPairs-cons, Kept.AllPairs-filter}
pub use Rattle.std.proofs.lemmas.{List.Sorted.All-permutation, List.Sorted.IsPermutation-sym, Option.same_Some}
pub use Rattle.std.proofs.lemmas.Map.Keys.{IsDistinct-IsPermutation, IsDistinct-from_apart, apart_from_distinct}
pub use Rattle.std.proofs.lemmas.Result.{err_from_is_err_and}
pub use Rattle.std.specs.List.{All, AllPairs, AllWithin, IsDistinct, filter, fold, list_all}
pub use Rattle.std.specs.List.Sorted.{IsNonDecreasingBy, IsPartitionPoint, IsPermutation}
pub use Rattle.std.specs.Prelude.{Err, IfOk, IfSome, Ok, Result, codes, option_and_then, slice_index}
pub use Rattle.nr_refusal.{proofs.ResultFacts.bind-ok, proofs.ResultFacts.ok-same, specs.Refusal.Gives, specs.Refusal.◌>>=◌}
pub use Rattle.nr_graphpick.specs.{Graph.cols_of, Graph.rows_of, declared.Graph.Graph}
pub use Rattle.nr_graphpick.specs.declared.Graph.TheVariants.{One, Two}
pub use Rattle.nr_streams.specs.{Fields.short_number, Fields.text_of_field, Records.Record, Records.records_of}
pub use Rattle.nr_shifttable.specs.Accepted.{ColumnsAscend, Entries, IsInRange, IsTable, PlacesAscend, entries_for, entries_in}
pub use Rattle.nr_shifttable.specs.FirstFault.{core_ok, each_below, is_present, lacks_row, lone_zero, own_column_ok, two_agree}
pub use Rattle.nr_shifttable.specs.inside.Orders.{AreBefore, AreColumnStarts, AreCounts, ArePlaces, AreRowEnds, AreRowStarts}
pub use Rattle.nr_shifttable.specs.{Accepted.is_before, Accepted.table_of, Faults.HasCoreRows, Orders.key_of}
pub use Rattle.nr_shifttable.specs.{FirstFault.zero_at, FirstFault.zero_pair, Listed.item_kept, Listed.item_key, Listed.places_said}
pub use Rattle.nr_shifttable.specs.Items.{Apart, graph_eq, has_place, is_header, same_place, short_numbers, with_item}
pub use Rattle.nr_shifttable.specs.{Tails.column_of, Tails.row_of, Tails.tail, Tails.tail_of, declared.entry.Entry.Entry}
pub use Rattle.nr_shifttable.specs.{Written.item_written, Written.without_header, declared.entry.Item.Item}
pub use Rattle.nr_shifttable.specs.declared.{entry.KeptEntry.KeptEntry, fault.TableFault.TableFault}
pub use Rattle.nr_shifttable.specs.inside.Orders.{Ascending, IsInside, IsRowEnd, IsStart, entry_place}
unfoldable pub use Rattle.nr_shifttable.specs.FirstFault.{diagonals_ok, extension_ok, first_column_ok, graph_checked, rows_agree}
unfoldable pub use Rattle.nr_shifttable.specs.{Accepted.acceptance_of, Accepted.table_said, Accepted.with_entry, Listed.places_from}
unfoldable pub use Rattle.nr_shifttable.specs.{FirstFault.rows_present, FirstFault.three_agree, Items.item_of, Items.items_from}
unfoldable pub use Rattle.nr_shifttable.specs.inside.Orders.{before_column, columns_from, just_before}
