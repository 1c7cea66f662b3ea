use Rattle.nr_linkcommands.proofs.Common.{SenderView, last_line, round_ends, rounds_of, run_words, totals_of, with_text, ◌∙◌}
use Rattle.nr_linkcommands.proofs.Common.{Timetable, append_assoc, last_rounds, writes_last, writes_none, counted_word, text_of_run}
use Rattle.nr_linkcommands.proofs.Common.{err_from_is_err_and, flat_map-append, pieces_joined, writes_behind, ℕ, with_text-append}
use Rattle.nr_linkcommands.proofs.Common.{List, Piece, [], ap, length, refl, turns, ◌++◌, ◌≡◌}
use Rattle.nr_linkcommands.proofs.{RoundEndFacts.nothing-kept, RunLineFacts.last_line-some, RunLineFacts.text_of_run-some}
use Rattle.nr_linkcommands.proofs.RunTextFacts.{first-stopped}
use Rattle.nr_files.specs.Schedule.{timetable_by}
use Rattle.nr_linkcommands.proofs.run_command.RunCommandText.write.Goals as goal

-- the parts of the text: the transmissions, the rounds that no transmission ends, and the totals
abbrev of_turns : List SenderView → Timetable → List ℕ
of_turns senders s = pieces_joined (turns s.by_process (run_words s.by_process) senders [] s.transmissions)

abbrev of_rounds : List SenderView → Timetable → List ℕ
of_rounds senders s = pieces_joined (last_rounds s.by_process (run_words s.by_process) senders s.transmissions)

abbrev of_totals : List SenderView → Timetable → List ℕ
of_totals senders s = last_line (counted_word s.by_process)
    (totals_of (round_ends s.by_process senders (rounds_of s.by_process (length senders) s.transmissions)))

parts : (senders : List SenderView) (s : Timetable)
    → text_of_run senders s ≡ (of_turns senders s ++ of_rounds senders s) ++ of_totals senders s
parts senders s =
    ap (λ ys. ys ++ of_totals senders s) (flat_map-append (λ (piece : Piece). piece.1)
    (turns s.by_process (run_words s.by_process) senders [] s.transmissions)
    (last_rounds s.by_process (run_words s.by_process) senders s.transmissions))

pub returns-in_err-rounds-clause-text : goal.returns-in_err-rounds-clause-text
returns-in_err-rounds-clause-text g c =
    let p = err_from_is_err_and c.from_residual.result c.from_residual.ensures.1 in
    writes_none _ _ p.0 _ p.1 p.2 (text_of_run-some c.args.ready.now.senders.items (timetable_by c.args.ready.now.schedule.now))

pub follow-requires : goal.follow-requires
follow-requires g c =
    let kept = nothing-kept c.args.ready.now.schedule.now.by_process c.args.ready.now.senders.items
    c.args.ready.now.schedule.now.transmissions.items
    c.in_ok-rounds.rounds.slots.items c.in_ok-rounds.rounds.totals c.in_ok-rounds.ensures.slots c.in_ok-rounds.ensures.totals
    c.in_ok-rounds.ensures.within in
    λ k. ((refl, tt), (c.requires.puts, kept))

pub returns-in_err-follow-clause-text : goal.returns-in_err-follow-clause-text
returns-in_err-follow-clause-text g c =
    let senders = c.args.ready.now.senders.items in
    let s = timetable_by c.args.ready.now.schedule.now in
    rw (parts senders s ∙ append_assoc (of_turns senders s) (of_rounds senders s) (of_totals senders s))
    (first-stopped _ _ c.from_residual-in_err-follow.result _ _ _ c.from_residual-in_err-follow.ensures.1
    c.in_err-follow.ensures.text)

pub returns-in_err-end_all-clause-text : goal.returns-in_err-end_all-clause-text
returns-in_err-end_all-clause-text g c =
    let senders = c.args.ready.now.senders.items in
    let s = timetable_by c.args.ready.now.schedule.now in
    let p = err_from_is_err_and c.from_residual-in_err-end_all.result c.from_residual-in_err-end_all.ensures.1 in
    writes_behind _ _ _ c.from_residual-in_err-end_all.result p.0 _ _ (of_turns senders s) (of_rounds senders s)
    (of_totals senders s) p.1 p.2
    (parts senders s) c.in_ok-follow.ensures.text c.in_err-end_all.ensures.text

pub returns-clause-text : goal.returns-clause-text
returns-clause-text g c =
    let senders = c.args.ready.now.senders.items in
    let s = timetable_by c.args.ready.now.schedule.now in
    let line = rw c.in_ok-end_all.ensures.keeps.counted at c.totals_line.ensures in
    rw (parts senders s) (writes_last _ _ _ c.put_line.result (of_turns senders s ++ of_rounds senders s) (of_totals senders s)
    (c.in_ok-end_all.ensures.text ∙ ap (λ w. with_text w (of_rounds senders s)) c.in_ok-follow.ensures.text
    ∙ with_text-append _ (of_turns senders s) (of_rounds senders s))
    (c.put_line.ensures.text _ (last_line-some _ _) line))
