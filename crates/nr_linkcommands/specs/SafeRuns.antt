-- The law of a run over a link that only erases: a transport block that is delivered is the one sent.
use Rattle.std.specs.Prelude.{◌≡◌, ◌≢◌, ℕ, ◌<◌, Bool, true, false, List, All, Ok}
use Rattle.nr_shifttable.specs.Accepted.{Entries, IsTable}
use Rattle.nr_blockdesk.specs.{Explains.Explains, Heard.heard_record, Sent.SenderView, Sent.sending_said}
use Rattle.nr_blockdesk.specs.Outcome.{all_fixed, contradiction, delivered, outcome_of}
use Rattle.nr_transmission.specs.declared.settings.Settings.{Settings}
use Rattle.nr_files.specs.{Erasures.is_named, declared.schedule.Transmission.Transmission}
use Rattle.nr_linkcommands.specs.{Inputs.senders_from, RoundTexts.ProcessRound, RoundTexts.rounds_of}
use Rattle.nr_linkcommands.specs.RunText.{own_transmissions, receptions_of}

-- no place of a transmission is flipped
abbrev pub OnlyErases : Transmission → Type 0
OnlyErases x = (m : ℕ) → m < x.tx.g → is_named x.flip m ≡ false

-- What is true after these transmissions of a sender's transport block. The block explains all that was received, so
-- there is no contradiction. A block that is delivered is this one. It is delivered as soon as every position below K'
-- is fixed.
pub record IsSafelyReceived (sender : SenderView) (xs : List Transmission) : Type 0 where
  pub explained : Explains sender.link (receptions_of sender xs) sender.block
  pub no_contradiction : outcome_of sender.link (receptions_of sender xs) ≢ contradiction
  pub sent_one : (block : List Bool) → outcome_of sender.link (receptions_of sender xs) ≡ delivered block
      → block ≡ sender.block
  pub found : all_fixed sender.link (heard_record sender.link (receptions_of sender xs)) ≡ true
      → outcome_of sender.link (receptions_of sender xs) ≡ delivered sender.block

-- this is true of any transmissions of a sender's block that only erase
abbrev pub ErasuresAloneAreSafe : Type 0
ErasuresAloneAreSafe = (table : Entries) (settings : Settings) (sender : SenderView) (xs : List Transmission) → IsTable table
    → sending_said table settings sender.block ≡ Ok sender → All OnlyErases xs → IsSafelyReceived sender xs

-- what is true of a sender's block over a whole schedule: after all transmissions of block n, and after each round
pub record IsSafeRun (schedule : List Transmission) (sender : SenderView) : Type 0 where
  pub blocks : (n : ℕ) → IsSafelyReceived sender (own_transmissions n schedule)
  pub rounds : All (λ (round : ProcessRound). IsSafelyReceived sender round.1) (rounds_of true 0 schedule)

-- if no transmission of a schedule flips a place, this is true of the sender of each transport block
abbrev pub RunsAreSafe : Type 0
RunsAreSafe = (table : Entries) (settings : Settings) (blocks : List (List ℕ)) (senders : List SenderView)
    (schedule : List Transmission) → IsTable table → senders_from table settings 1 blocks ≡ Ok senders
    → All OnlyErases schedule → All (IsSafeRun schedule) senders
