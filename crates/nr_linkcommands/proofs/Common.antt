-- The names that several proof files of this crate cite, passed on from one place. Declares nothing.
pub use Rattle.std.proofs.Common.{All, Bool, Err, List, None, Ok, Option, Result, Some, [], ap, append_assoc, arith, codes, cond}
pub use Rattle.std.proofs.Common.{drop, false, flat_map, get_or, length, length-append, map, not, refl, replicate, rules, subst}
pub use Rattle.std.proofs.Common.{suc, sym, take, true, zero, ℕ, ◌*◌, ◌++◌, ◌+◌, ◌-◌, ◌<◌, ◌==◌, ◌^◌}
pub use Rattle.std.proofs.{Common.◌∙◌, Common.◌∷◌, Common.◌≡◌, Common.◌≤◌, Math.ListN.length-set}
pub use Rattle.std.proofs.lemmas.{Bool.Decides.nat_tests, Grind.flat_map-append, Option.slice_get-get_or}
pub use Rattle.std.proofs.lemmas.List.{append-nil, drop_all, drop_more, get_or_default, take_more}
pub use Rattle.std.proofs.lemmas.List.Elements.{All-append, All-cons, All-filter, All-get_or, All-head, All-nil, All-tail, All-take}
pub use Rattle.std.{proofs.lemmas.List.Elements.All-weaker, proofs.lemmas.List.Elements.filter-append, specs.Fmt.decimal}
pub use Rattle.std.proofs.lemmas.List.FromFn.{get_or-map-range_with_len, length-map-range_with_len}
pub use Rattle.std.proofs.lemmas.Result.{IfOk-at_ok, IfOk-weaker, err_from_is_err_and}
pub use Rattle.std.specs.{List.filter, List.range_with_len, Prelude.count_by, String.string_bytes}
pub use Rattle.nr_refusal.specs.Refusal.{◌>>=◌}
pub use Rattle.nr_bitvec.specs.Bit.{bit, ◌⊕◌}
pub use Rattle.nr_segment.specs.Plan.{Numbers}
pub use Rattle.nr_harqbuf.specs.Record.{HeardBits}
pub use Rattle.nr_streams.{proofs.WrittenFacts.with_text-append, proofs.WrittenFacts.with_text-nil, specs.Sink.with_text}
pub use Rattle.nr_shifttable.specs.Accepted.{Entries}
pub use Rattle.nr_transmission.specs.declared.{fault.DeskFault.DeskFault, settings.Settings.Settings}
pub use Rattle.nr_blockdesk.{proofs.OutcomeFacts.was-open, proofs.RangeTestFacts.range_all, specs.Heard.heard_of}
pub use Rattle.nr_blockdesk.specs.{Explains.IsAccepted, Explains.Reception, Explains.reception, Link.IsLink, Link.Link}
pub use Rattle.nr_blockdesk.specs.{Outcome.left, Sent.AcceptedSendAll, Sent.SenderView, Sent.sending_said, Sent.sent_said}
pub use Rattle.nr_files.proofs.{RefusalFacts.err-is, RoundFacts.round-more}
pub use Rattle.nr_files.specs.{Erasures.erased_of, Erasures.is_named, declared.schedule.Transmission.Transmission}
pub use Rattle.nr_files.specs.Rounds.{fresh_block, of_process, round_continued, round_of}
pub use Rattle.nr_files.specs.Schedule.{EachGoesOn, HasBlock, IsPlaced, Timetable}
pub use Rattle.nr_commands.proofs.WrittenLemmas.{if_ok-items, writes_behind, writes_last, writes_none}
pub use Rattle.nr_linkcommands.specs.{AuditLines.audit_block, AuditText.audit_words, SafeRuns.OnlyErases, SendLines.answer_line}
pub use Rattle.nr_linkcommands.specs.RoundTexts.{Piece, ProcessRound, Words, by_sender, ended_with, last_rounds, pieces_joined}
pub use Rattle.nr_linkcommands.specs.RoundTexts.{process_count, processes, round_lines, rounds_of, sender_of}
pub use Rattle.nr_linkcommands.specs.{RunLines.head_of, RunLines.left_lines, RunLines.outcome_line, SendText.transmission_lines}
pub use Rattle.nr_linkcommands.specs.RunText.{counted_word, received_if, received_of, receptions_of, round_end, round_ends}
pub use Rattle.nr_linkcommands.specs.{RunText.run_words, RunText.text_of_run, RunText.totals_of, inside.Receptions.HasHeard}
pub use Rattle.nr_linkcommands.specs.declared.run_command.{ends.Totals.Totals, slot.RxState.RxState, slot.Slot.Slot}
pub use Rattle.nr_linkcommands.specs.inside.Ends.{HasReceived, HoldsRound, HoldsSlot, HoldsState, IsOfRound, IsProcess, IsWithin}
pub use Rattle.nr_linkcommands.specs.inside.{Ends.KeepsRounds, Ends.empty_slot, Ends.totals_with, Walks.scheduled}
unfoldable pub use Rattle.nr_blockdesk.specs.{Heard.heard_record, Link.link_said, Outcome.outcome_of}
unfoldable pub use Rattle.nr_files.specs.Rounds.{since_fresh}
unfoldable pub use Rattle.nr_linkcommands.specs.{AuditLines.audit_line, AuditLines.order_line, Channel.heard_through}
unfoldable pub use Rattle.nr_linkcommands.specs.{Inputs.senders_from, RoundTexts.rounds_ended, RoundTexts.turns}
unfoldable pub use Rattle.nr_linkcommands.specs.RunLines.{delivered_line, last_line, left_line, open_line}
unfoldable pub use Rattle.nr_linkcommands.specs.{SendLines.sent_line, SendText.transmission_line}
