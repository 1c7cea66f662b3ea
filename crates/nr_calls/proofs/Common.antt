-- The names that several proof files of this crate cite, passed on from one place. Declares nothing.
pub use Rattle.std.proofs.Common.{Bool, Err, IfOk, IsOk, List, None, Ok, Option, Result, Some, [], add-mul, add-one, ap}
pub use Rattle.std.proofs.Common.{append_assoc, arith, below_more, drop, eq-eqb, false, get_or, get_or-set_other, get_or-set_same}
pub use Rattle.std.proofs.Common.{if◌then◌else◌, inl, inr, length, length-append, length-drop, map, nat_le, not, refl}
pub use Rattle.std.proofs.Common.{replicate, rules, set, slice_index, subst, suc, sym, take, true, zero, ℕ, ⊎_elim, ◌&&◌}
pub use Rattle.std.proofs.Common.{◌*◌, ◌++◌, ◌+◌, ◌-◌, ◌/◌, ◌<◌, ◌==◌, ◌^◌, ◌||◌, ◌∙◌}
pub use Rattle.std.proofs.Common.{◌∷◌, ◌≡◌, ◌≢◌, ◌≤◌, ◌⊎◌}
pub use Rattle.std.proofs.{Math.Nat.mul-le-mul_right, Math.Nat.suc-mul, Math.Seq.take-add, lemmas.Bool.Decides.nat_tests}
pub use Rattle.std.proofs.lemmas.{Bool.cases_lt, Bool.lt-leb, Bool.ne_eqb, Nat.pow_pos, Nat.Bits.bit_at-lt, Nat.Bits.bit_at_ones}
pub use Rattle.std.proofs.lemmas.List.{get_or-replicate, get_or-take, get_or_append_left, length-map, length-replicate, length-set}
pub use Rattle.std.proofs.lemmas.List.{length-take-le, map-append, replicate-append-replicate, take-append-le, take_all, take_more}
pub use Rattle.std.proofs.lemmas.List.{append-nil, drop-drop, ext_get_or, get_or-append_right, get_or-drop, get_or-map}
pub use Rattle.std.proofs.lemmas.List.FromFn.{length-map-range_with_len, map-range_with_len_more}
pub use Rattle.std.proofs.lemmas.Result.{IfOk-weaker, err_from_is_err_and}
pub use Rattle.std.specs.{Int.bit_at, Int.to_le_bytes, Int.w32, List.count_by, List.list_all, List.range_with_len, List.sum}
pub use Rattle.std.specs.Prelude.{IfErr, flat_map}
pub use Rattle.nr_refusal.specs.Refusal.{Gives, or_fault, with_fault, ◌>>=◌}
pub use Rattle.nr_bitvec.proofs.{BitFacts.bit_at_shr, ListFacts.get_or-replicate_same, ListFacts.range_with_len-add}
pub use Rattle.nr_bitvec.specs.{Bit.bit, BitList.number_of}
pub use Rattle.nr_graphpick.specs.{Graph.cols_of, Graph.info_cols_of, declared.Graph.Graph}
pub use Rattle.nr_graphpick.specs.declared.Graph.TheVariants.{One, Two}
pub use Rattle.nr_segment.specs.{CodeBlock.numbers, CodeBlock.positions_of, Plan.Numbers}
pub use Rattle.nr_harqbuf.specs.Record.{HeardBits}
pub use Rattle.nr_shifttable.specs.{Accepted.Entries, Accepted.has_graph, Listed.items_listed, Listed.kept_listed, Listed.kept_of}
pub use Rattle.nr_ldpcenc.specs.{Codeword.filler, Rows.block_checks}
pub use Rattle.nr_ratematch.specs.Selection.{Circular}
pub use Rattle.nr_transmission.specs.declared.{fault.DeskFault.DeskFault, settings.Settings.Settings, tx.Tx.Tx}
pub use Rattle.nr_peel.specs.Slices.{slice}
pub use Rattle.nr_drawing.{proofs.DrawnWordFacts.length-marks_drawn, specs.Drawing.places_drawn}
pub use Rattle.nr_blockdesk.specs.{Explains.Reception, Explains.reception, Explains.reception_said, Marks.heards, Marks.place_heard}
pub use Rattle.nr_blockdesk.specs.{Link.IsBlock, Link.IsLink, Link.Link, Link.err_unless, Link.is_size, Sent.tx_said}
pub use Rattle.nr_blockdesk.specs.Outcome.{IsDecided, Verdict, contradiction, delivered, left, open_still}
pub use Rattle.nr_blockdesk.specs.{Receiving.AreStoresFor, Receiving.verdict}
pub use Rattle.nr_calls.specs.{Codeword.coded_octet, Codeword.is_digit, Codeword.is_one, Crossing.digit, Crossing.tx_of}
pub use Rattle.nr_calls.specs.{Encoding.base_graph, Encoding.can_lift, Encoding.encoded_octet, Encoding.is_coded, Many.nth_row}
pub use Rattle.nr_calls.specs.Findings.{AreWritten, Findings, IsHandedUp, lefts, outcome_number, outcomes_of, places}
pub use Rattle.nr_calls.specs.{Keeping.KeptPlaces, Keeping.after_taking, Keeping.is_kept_room, Plan.Planned, Receiving.heard_octet}
pub use Rattle.nr_calls.specs.Rooms.{position_octet, record_octets, room_header, room_length}
pub use Rattle.nr_calls.specs.Simulating.{Simulation, drawn_round, drawn_txs, erased_counts}
pub use Rattle.nr_calls.specs.declared.{batch.Batch.Batch, crossing.NrTx.NrTx, fault.Fault.Fault, findings.Found.Found}
pub use Rattle.nr_calls.specs.inside.Batches.{AreBetween, AreFillers, AreWhole, Hears, column, words_in}
pub use Rattle.nr_calls.specs.inside.Simulating.{AreAccepted, drawn_reception, simulation_of}
pub use Rattle.nr_calls.specs.inside.Words.{IsLastBlock, IsTaken, arriving, block_fits, coded_of, encoded_of, findings_of, first_of}
pub use Rattle.nr_calls.specs.inside.Words.{one_more_said, planned_of}
unfoldable pub use Rattle.nr_bitvec.specs.BitList.{low_first}
unfoldable pub use Rattle.nr_lifting.specs.Sizes.{set_index}
unfoldable pub use Rattle.nr_ldpcenc.specs.Codeword.{word_of}
unfoldable pub use Rattle.nr_blockdesk.specs.{Heard.heard_record, Link.link_said, Marks.heards_from, Outcome.outcome_of}
unfoldable pub use Rattle.nr_calls.specs.{Plan.planned_said, Receiving.heard_said, Rooms.records_from, Rooms.room_of}
unfoldable pub use Rattle.nr_calls.specs.Simulating.{simulated, txs_said}
