-- The names that several proof files of this crate cite, passed on from one place. Declares nothing.
pub use Rattle.std.proofs.Common.{All, Bool, Err, IsOk, List, Ok, Result, [], ap, append_assoc, arith, cond, drop, false, flat_map}
pub use Rattle.std.proofs.Common.{get_or, inl, inr, length, length-append, map, min, nat_le, nat_lt, not, refl, replicate, rules}
pub use Rattle.std.proofs.Common.{set, slice_index, subst, suc, sym, take, true, zero, ℕ, ⊎_elim, ◌%◌, ◌&&◌, ◌*◌}
pub use Rattle.std.proofs.Common.{◌++◌, ◌+◌, ◌-◌, ◌/◌, ◌<◌, ◌==◌, ◌^◌, ◌||◌, ◌∙◌, ◌∷◌}
pub use Rattle.std.proofs.{Common.◌≡◌, Common.◌≢◌, Common.◌≤◌, Math.Bool.and-false, Math.Bool.or-false}
pub use Rattle.std.proofs.Math.{Nat.mul-le-mul_right, Seq.get_or-append_seam, Seq.take-append_seam}
pub use Rattle.std.proofs.lemmas.Bool.{and_from, and_parts, cases_eq, cases_lt, eq-eqb, eqb-true, false_from_ne_true, false≢true}
pub use Rattle.std.proofs.lemmas.Bool.{le-leb, leb-true, lt-ltb, ltb-true, not-true, or_parts, true≢false}
pub use Rattle.std.proofs.lemmas.{Bool.Decides.nat_tests, Bool.Decides.same_from_decides, Nat.div-mul-add, Nat.mod-mul-add}
pub use Rattle.std.proofs.lemmas.{Grind.common_steps, Grind.flat_map-append, Grind.get_or-set_at, Result.err_from_is_err_and}
pub use Rattle.std.proofs.lemmas.List.{append-nil, ext_get_or, get_or-append_right, get_or-drop, get_or-map, get_or-replicate}
pub use Rattle.std.proofs.lemmas.List.{get_or-set_other, get_or-set_same, get_or-take, get_or_append_left, get_or_default}
pub use Rattle.std.proofs.lemmas.List.{get_or_past, get_or_read, length-drop, length-map, length-replicate, length-set}
pub use Rattle.std.proofs.lemmas.List.{length-take-le, map-append, map-set, same_lists, take_at}
pub use Rattle.std.proofs.lemmas.List.Elements.{All-cons, All-head, All-nil, All-push, All-tail, filter_map-append}
pub use Rattle.std.proofs.lemmas.List.Folds.{list_all-append, list_any-append, list_any_at, sum_by-zero}
pub use Rattle.std.proofs.lemmas.List.FromFn.{fill_by_all, get_or-map-range_with_len, get_or-range_with_len}
pub use Rattle.std.proofs.lemmas.{List.FromFn.length-map-range_with_len, List.FromFn.length-range_with_len, Slice.Zip.length-zip}
pub use Rattle.std.proofs.lemmas.List.Sums.{AllPass-from_list_all, list_all-from_AllPass, sum_by-cons, sum_by_more, sum_by_more_le}
pub use Rattle.std.proofs.lemmas.Nat.Bits.{bit_at-lt, bit_at-zero, bit_at_not, bit_at_ones}
pub use Rattle.std.specs.{Bool.beq, Int.bit_at, Int.w64, Int.RustNames.bit_or, Vec.vec_len}
pub use Rattle.std.specs.List.{cons_option, filter_map, find, list_all, list_any, range_with_len}
pub use Rattle.std.specs.Prelude.{None, Option, Some, count_by, option_map, sum, vec_capacity, ◌↔◌}
pub use Rattle.nr_refusal.proofs.ResultFacts.{bind-ok, with_fault-ok}
pub use Rattle.nr_bitvec.proofs.{ListFacts.range_with_len-add, PackedListFacts.bit-low_first, PackedListFacts.length-low_first}
pub use Rattle.nr_bitvec.{proofs.PlaceFacts.same_from_bits, specs.Bit.bit}
pub use Rattle.nr_bitvec.specs.Marks.{Marks, marks_in, marks_with}
pub use Rattle.nr_graphpick.specs.{Graph.cols_of, declared.Graph.Graph}
pub use Rattle.nr_crcattach.specs.Attachment.{BlocksLengthen, attached, attached_length, block_poly}
pub use Rattle.nr_crcattach.specs.{Crc.crc_of, Crc.degree, declared.Poly.TheVariants.B24}
pub use Rattle.nr_segment.specs.CodeBlock.{CodeBlocksAreLong, JoinUndoesCut, all_code_bits, code_bits, code_block, joined_blocks}
pub use Rattle.nr_segment.specs.CodeBlock.{numbers, part_of, positions_of, share}
pub use Rattle.nr_segment.specs.Plan.{IsSound, Numbers, PlansAreSound, word_size}
pub use Rattle.nr_harqbuf.{proofs.RecordLaws.record_of-at, specs.Marks.says, specs.Marks.word_says}
pub use Rattle.nr_harqbuf.specs.Record.{HasFirsts, HeardBits, Hearing, RecordContinues, first_at, is_heard, record_of}
pub use Rattle.nr_shifttable.specs.Accepted.{Entries}
pub use Rattle.nr_ldpcenc.specs.{Codeword.filler, Rows.Checks, Rows.Meets, Rows.block_checks}
pub use Rattle.nr_ratematch.{proofs.RunFacts.length-selection_of, specs.Lengths.is_scheduled}
pub use Rattle.nr_ratematch.specs.Selection.{Circular, PlacesAreSent}
pub use Rattle.nr_transmission.specs.declared.{fault.DeskFault.DeskFault, settings.Settings.Settings, tx.Tx.Tx}
pub use Rattle.nr_peel.specs.Peeling.{AgreesWith, GivesAll, IsPeeled, IsSameCode, IsStarted, KeepsAllWords, Peeling, checks_for}
pub use Rattle.nr_peel.specs.{Laws.ChecksAreSound, Laws.ClosureIsMonotone, Peeling.left_of, Slices.slice}
pub use Rattle.nr_interleave.specs.Interleaving.{seat_of}
pub use Rattle.nr_cbconcat.specs.Concatenation.{PlacesHaveOneOwner}
pub use Rattle.nr_blockdesk.specs.Explains.{Explains, IsAccepted, Reception, agrees, heard_at, hearing_said_of, reception}
pub use Rattle.nr_blockdesk.specs.{Explains.reception_said, Explains.reception_said_of, Hearing.heard_bit, Processing.ProcessesView}
pub use Rattle.nr_blockdesk.specs.{Heard.IsRecordOf, Heard.heard_of, Heard.hearing_at, Slices.is_brought, inside.PartMasks.AreEmpty}
pub use Rattle.nr_blockdesk.specs.Link.{IsBlock, IsLink, Link, WordsArePlain, code_bits_of, err_unless}
pub use Rattle.nr_blockdesk.specs.{Marks.heards, Marks.place_heard, Marks.reception_by, declared.code_block.CodeBlock.CodeBlock}
pub use Rattle.nr_blockdesk.specs.Outcome.{ExplainedBy, IsDecided, Verdict, all_fixed, contradiction, delivered, given, is_fixed_at}
pub use Rattle.nr_blockdesk.specs.{Outcome.left, Outcome.open_still, Outcome.verdict_on, declared.heard.Heard.Heard}
pub use Rattle.nr_blockdesk.specs.{PlacesLaws.is_heard_at, PlacesLaws.is_received, declared.outcome.Outcome.Outcome}
pub use Rattle.nr_blockdesk.specs.ReceiverLaws.{DeliveredIsOnly, ErasuresAreSafe, ExplainedIsDelivered, ExplainedNeverContradicts}
pub use Rattle.nr_blockdesk.specs.ReceiverLaws.{ExplainsByRecord, OneExplains, RecordsContinue, arrived_bit, what_arrives}
pub use Rattle.nr_blockdesk.specs.Receiving.{AreStoresFor, ReceiverView, peelers_of, peeling_of, verdict}
pub use Rattle.nr_blockdesk.specs.Sent.{AcceptedAreMatched, AcceptedSendAll, IsMatched, PartsAreAt, RateMatching, SenderView}
pub use Rattle.nr_blockdesk.specs.Sent.{SentBitsAreAt, SentIsLong, block_sent, carried, matching, matching_of, tx_said}
pub use Rattle.nr_blockdesk.specs.inside.Cursors.{AreCursors, given_count, place_count}
pub use Rattle.nr_blockdesk.specs.inside.Receiving.{StoresPart, kept_words, known_bit, part_hearing, part_hearings, piece, word_at}
pub use Rattle.nr_blockdesk.specs.inside.Receiving.{AreWords, Fits, HearsPart, IsCandidate, IsDesk, IsNews, IsRead, IsTied}
pub use Rattle.nr_blockdesk.specs.inside.Words.{HasRoomFor, bit_says, heards_of, positions_on, received_marks, selected_says, tells}
unfoldable pub use Rattle.nr_bitvec.specs.BitList.{bit_lists, low_first}
unfoldable pub use Rattle.nr_crcattach.specs.Crc.{high_first}
unfoldable pub use Rattle.nr_harqbuf.specs.Record.{first_heard, heard_as, with_hearing}
unfoldable pub use Rattle.nr_ldpcenc.specs.Codeword.{codeword}
unfoldable pub use Rattle.nr_ratematch.specs.{Lengths.lengths_said, Selection.place_of, Selection.selection_of}
unfoldable pub use Rattle.nr_peel.specs.Closure.{closure}
unfoldable pub use Rattle.nr_interleave.specs.Interleaving.{interleaving_of}
unfoldable pub use Rattle.nr_blockdesk.specs.{Explains.explains, Link.link_said, Link.word, Marks.heards_from, Outcome.outcome_of}
unfoldable pub use Rattle.nr_blockdesk.specs.Heard.{heard_more, heard_record, hearings, hearings_in}
unfoldable pub use Rattle.nr_blockdesk.specs.Sent.{position_at, sent, sent_of, tx_said_of}
