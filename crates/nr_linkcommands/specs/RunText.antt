-- The text of `run` over the rounds of a schedule's processes, or over its blocks if it names no process. Each
-- transmission has lines by what was received before it. Each block or round has lines by its outcome, and the totals
-- come last.
use Rattle.std.specs.Prelude.{Bool, Err, List, Ok, Result, [], codes, count_by, false, flat_map, if◌then◌else◌, length}
use Rattle.std.specs.Prelude.{sum_by, true, ℕ, ◌+◌, ◌++◌, ◌==◌, ◌∷◌}
use Rattle.std.specs.List.{filter}
use Rattle.nr_blockdesk.specs.{Explains.Reception, Explains.reception, Heard.heard_record, Link.Link}
use Rattle.nr_blockdesk.specs.Outcome.{Verdict, contradiction, delivered, open_still, outcome_of}
use Rattle.nr_blockdesk.specs.Sent.{SenderView, sent_said}
use Rattle.nr_transmission.specs.declared.fault.DeskFault.{DeskFault}
use Rattle.nr_linkcommands.specs.{Channel.heard_through, SendLines.refused_line, SendLines.sent_line, FourFiles.said_over}
use Rattle.nr_linkcommands.specs.{declared.run_command.ends.Totals.Totals, Inputs.Files}
use Rattle.nr_linkcommands.specs.RoundTexts.{ProcessRound, Words, by_sender, pieces_joined, rounds_of, sender_of, written}
use Rattle.nr_linkcommands.specs.RunLines.{head_of, last_line, left_lines, outcome_line, unfixed_blocks}
use Rattle.nr_files.specs.{declared.schedule.Transmission.Transmission, Schedule.Timetable}
use Rattle.nr_commands.specs.declared.fault.RunFault.{RunFault}

-- the transmissions of transport block n
abbrev pub own_transmissions : ℕ → List Transmission → List Transmission
own_transmissions n schedule = filter (λ x. x.block == n) schedule

-- what is received of a transmission, by its sender's result: nothing if it is refused
abbrev pub received_if : Transmission → Result (List Bool) DeskFault → List Reception
received_if x (Ok bits) = reception x.tx (heard_through x bits) ∷ []
received_if x (Err e) = []

-- what is received of a transmission
abbrev pub received_of : SenderView → Transmission → List Reception
received_of sender x = received_if x (sent_said sender.link x.tx sender.block)

-- what is received of a transport block's transmissions
abbrev pub receptions_of : SenderView → List Transmission → List Reception
receptions_of sender transmissions = flat_map (received_of sender) transmissions

-- the lines of a transmission by its sender's result, if this is all that was received of its block by then
abbrev pub lines_if : Transmission → Link → List Reception → Result (List Bool) DeskFault → List ℕ
lines_if x link list (Ok bits) =
    sent_line x.number x.block bits ++ left_lines x.number x.block link (heard_record link list)
lines_if x link list (Err e) = refused_line x.number x.block e

-- the lines of a transmission by the sender of its block, and by what was received of that block before
unfoldable pub lines_of : SenderView → List Reception → Transmission → List ℕ
lines_of sender list x =
    lines_if x sender.link (list ++ received_of sender x) (sent_said sender.link x.tx sender.block)

-- how a transport block or a round ends: its sender's link, and all that was received
pub record End : Type 0 where
  pub link : Link
  pub list : List Reception

-- the outcome of what was received
abbrev pub verdict_at : End → Verdict
verdict_at e = outcome_of e.link e.list

abbrev pub is_delivered : Verdict → Bool
is_delivered (delivered bits) = true
is_delivered v = false

abbrev pub is_open : Verdict → Bool
is_open open_still = true
is_open v = false

abbrev pub is_contradiction : Verdict → Bool
is_contradiction contradiction = true
is_contradiction v = false

-- how many code blocks failed: those of an open block that have a position below K' which is not fixed
abbrev pub failed_at : End → ℕ
failed_at e = if is_open (verdict_at e) then unfixed_blocks e.link (heard_record e.link e.list) else 0

-- the totals: how many ended, how many of them with each outcome, and the sums of all code blocks and of those that
-- failed
abbrev pub totals_of : List End → Totals
totals_of ends = record {
  blocks = length ends;
  delivered = count_by (λ e. is_delivered (verdict_at e)) ends;
  open_still = count_by (λ e. is_open (verdict_at e)) ends;
  contradiction = count_by (λ e. is_contradiction (verdict_at e)) ends;
  code_blocks = sum_by (λ e. e.link.plan.c) ends;
  failed = sum_by failed_at ends;
}

-- how a round ends, by the sender of its block
abbrev pub end_by : List Transmission → SenderView → List End
end_by round sender = record { link = sender.link; list = receptions_of sender round } ∷ []

-- how a round of process p ends, by the block that it names first; an empty round has no end
abbrev pub round_end : Bool → List SenderView → ℕ → List Transmission → List End
round_end true senders p [] = []
round_end true senders p (x ∷ more) = by_sender (sender_of senders x.block) (end_by (x ∷ more))
round_end false senders p round = by_sender (sender_of senders (p + 1)) (end_by round)

-- how these rounds end
abbrev pub round_ends : Bool → List SenderView → List ProcessRound → List End
round_ends by_process senders rounds = flat_map (λ round. round_end by_process senders round.0 round.1) rounds

-- what `run` says about a transmission, and about a round: how it ends
abbrev pub run_words : Bool → Words
run_words by_process = record {
  transmission = λ sender round x. lines_of sender (receptions_of sender round) x;
  round = λ p n sender round. head_of by_process p ++ outcome_line n sender.link (receptions_of sender round);
}

-- what the totals count
abbrev pub counted_word : Bool → List ℕ
counted_word true = codes "rounds"
counted_word false = codes "blocks"

-- the text of a run: that of its transmissions and rounds, and the totals
abbrev pub text_of_run : List SenderView → Timetable → List ℕ
text_of_run senders schedule =
    pieces_joined (written schedule.by_process (run_words schedule.by_process) senders schedule.transmissions)
    ++ last_line (counted_word schedule.by_process)
    (totals_of (round_ends schedule.by_process senders (rounds_of schedule.by_process (length senders) schedule.transmissions)))

-- what `run` says of its four files: its text, or the first refusal
abbrev pub run_said : Files → Result (List ℕ) RunFault
run_said = said_over text_of_run
