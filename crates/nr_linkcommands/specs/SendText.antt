-- The text of `send` (TS 38.212, 6.2 and 7.2).
use Rattle.std.specs.Prelude.{List, Result, flat_map, ℕ}
use Rattle.nr_linkcommands.specs.{FourFiles.said_over, Inputs.Files, RoundTexts.by_sender, RoundTexts.sender_of}
use Rattle.nr_linkcommands.specs.SendLines.{answer_line}
use Rattle.nr_blockdesk.specs.Sent.{SenderView, sent_said}
use Rattle.nr_files.specs.{Schedule.Timetable, declared.schedule.Transmission.Transmission}
use Rattle.nr_commands.specs.declared.fault.RunFault.{RunFault}

-- the line of a transmission by the sender of its block
unfoldable pub transmission_line : List SenderView → Transmission → List ℕ
transmission_line senders x = by_sender (sender_of senders x.block)
    (λ sender. answer_line x.number x.block (sent_said sender.link x.tx sender.block))

-- the lines of the transmissions
abbrev pub transmission_lines : List SenderView → List Transmission → List ℕ
transmission_lines senders schedule = flat_map (transmission_line senders) schedule

-- the text of `send`
abbrev pub text_of_send : List SenderView → Timetable → List ℕ
text_of_send senders schedule = transmission_lines senders schedule.transmissions

-- what `send` says of its four files: its text, or the first refusal
abbrev pub send_said : Files → Result (List ℕ) RunFault
send_said = said_over text_of_send
