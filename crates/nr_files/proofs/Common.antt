-- The names that several proof files of this crate cite, passed on from one place. Declares nothing.
pub use Rattle.csv.specs.Records.{fields_of}
pub use borrow.Author.Tests.{tests}
pub use Rattle.std.proofs.Common.{All, Bool, Bor, Err, IfOk, IfSome, List, None, Ok, Option, Result, Some, [], ap, append_assoc}
pub use Rattle.std.proofs.Common.{arith, cond, drop, false, get_or, inl, inr, length, length-append, length-drop, length-take-le}
pub use Rattle.std.proofs.Common.{map, min, nat_eq, nat_lt, refl, replicate, rules, set, subst, suc, sym, take, true, zero, ℕ}
pub use Rattle.std.proofs.Common.{◌*◌, ◌++◌, ◌+◌, ◌-◌, ◌<◌, ◌==◌, ◌||◌, ◌∙◌, ◌∷◌, ◌≡◌}
pub use Rattle.std.proofs.{Common.◌≢◌, Common.◌≤◌, Math.Seq.take-add, lemmas.Bool.Decides.nat_tests}
pub use Rattle.std.proofs.lemmas.{Grind.get_or-set_at, Grind.get_or_default_zero, Iterator.YieldsList-from_slice}
pub use Rattle.std.proofs.lemmas.List.{append-nil, drop_more, get_or-replicate, get_or-set_other, get_or_default, length-replicate}
pub use Rattle.std.proofs.lemmas.{List.length_push, List.take_all, List.take_more, List.Elements.All-append}
pub use Rattle.std.proofs.lemmas.{List.FromFn.fill_by_all, List.FromFn.get_or-map-range_with_len, Result.err_from_is_err_and}
pub use Rattle.std.specs.{Char.is_ascii_hexdigit, Io.KnownBytes.Consumes, List.list_all, List.list_any, List.range_with_len}
pub use Rattle.std.specs.{Option.option_map, Prelude.bytes_eq, Prelude.nat_le, Prelude.◌&&◌}
pub use Rattle.nr_refusal.specs.Refusal.{Gives, or_fault, ◌>>=◌}
pub use Rattle.nr_bitvec.specs.Bit.{bit}
pub use Rattle.nr_streams.specs.{Fields.text_of_field, Records.Record, Records.records_of}
pub use Rattle.nr_files.specs.{Erasures.is_within, PlaceLists.ranges_of, Schedule.Timetable, Schedule.timetable_of}
pub use Rattle.nr_files.specs.Rounds.{first_block, fresh_block, of_process, round_of}
pub use Rattle.nr_files.specs.declared.{erasure.PlaceRange.PlaceRange, schedule.ScheduleFault.ScheduleFault}
pub use Rattle.nr_files.specs.declared.schedule.Transmission.{Transmission}
pub use Rattle.nr_files.specs.inside.Furthest.{begins_at, begins_before, furthest}
unfoldable pub use Rattle.csv.specs.Records.{field_at}
unfoldable pub use Rattle.nr_bitvec.specs.BitList.{low_first}
unfoldable pub use Rattle.nr_files.specs.{Blocks.blocks_said, Blocks.octets_of_digits, Rounds.since_fresh}
unfoldable pub use Rattle.nr_files.specs.Schedule.{schedule_of, schedule_said, transmissions_from}
unfoldable pub use Rattle.nr_files.specs.inside.Words.{lines_in, said_behind}
