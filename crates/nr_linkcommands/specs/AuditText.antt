-- The text of `audit` over the rounds of a schedule's processes, or over its blocks if it names no process.
use Rattle.std.specs.Prelude.{Bool, List, Result, [], ℕ}
use Rattle.nr_blockdesk.specs.{Heard.heard_record, Sent.SenderView}
use Rattle.nr_linkcommands.specs.{RunText.receptions_of, AuditLines.audit_block, FourFiles.said_over, Inputs.Files}
use Rattle.nr_linkcommands.specs.{RoundTexts.Words, RoundTexts.pieces_joined, RoundTexts.written, RunLines.head_of}
use Rattle.nr_files.specs.Schedule.{Timetable}
use Rattle.nr_commands.specs.declared.fault.RunFault.{RunFault}

-- what `audit` says: nothing about a transmission, and about a round a line for each code block
abbrev pub audit_words : Bool → Words
audit_words by_process = record {
  transmission = λ sender round x. [];
  round = λ p n sender round.
      audit_block (head_of by_process p) n sender.link (heard_record sender.link (receptions_of sender round));
}

-- the text of an audit
abbrev pub text_of_audit : List SenderView → Timetable → List ℕ
text_of_audit senders schedule =
    pieces_joined (written schedule.by_process (audit_words schedule.by_process) senders schedule.transmissions)

-- what `audit` says of its four files: its text, or the first refusal
abbrev pub audit_said : Files → Result (List ℕ) RunFault
audit_said = said_over text_of_audit
