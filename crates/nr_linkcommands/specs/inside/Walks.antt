-- What a command writes about a schedule's transmissions and rounds, by what it works from.
use Rattle.std.specs.Prelude.{All, Bool, List, length, ℕ}
use Rattle.nr_files.specs.{Schedule.HasBlock, Schedule.IsPlaced, declared.schedule.Transmission.Transmission}
use Rattle.nr_linkcommands.specs.RoundTexts.{Words, by_sender, last_rounds, pieces_joined, round_lines, sender_of, turns}
use Rattle.nr_linkcommands.specs.{declared.ready.Ready.Ready, inside.Ends.IsProcess}

-- the transmissions of its schedule
abbrev pub scheduled : Ready → List Transmission
scheduled r = r.schedule.now.transmissions.items

-- the process is one of the schedule
abbrev pub HasProcess : Ready → ℕ → Type 0
HasProcess r p = IsProcess r.schedule.now.by_process (length r.senders.items) p

-- the block of each of these transmissions has a sender, and its process is as the schedule has them
pub record AreScheduled (r : Ready) (xs : List Transmission) : Type 0 where
  pub named : All (HasBlock (length r.senders.items)) xs
  pub placed : All (IsPlaced r.schedule.now.by_process) xs

-- the text about a round of process p
abbrev pub round_text : (Bool → Words) → Ready → ℕ → List Transmission → List ℕ
round_text words r p round = round_lines r.schedule.now.by_process (words r.schedule.now.by_process) r.senders.items p round

-- the text about a transmission that goes on with a round
abbrev pub transmission_text : (Bool → Words) → Ready → List Transmission → Transmission → List ℕ
transmission_text words r round x = by_sender (sender_of r.senders.items x.block)
    (λ sender. (words r.schedule.now.by_process).transmission sender round x)

-- the text about transmissions after those before, each with the round that it ends
abbrev pub turns_text : (Bool → Words) → Ready → List Transmission → List Transmission → List ℕ
turns_text words r before xs =
    pieces_joined (turns r.schedule.now.by_process (words r.schedule.now.by_process) r.senders.items before xs)

-- the text about the rounds that no transmission ends
abbrev pub last_text : (Bool → Words) → Ready → List ℕ
last_text words r =
    pieces_joined (last_rounds r.schedule.now.by_process (words r.schedule.now.by_process) r.senders.items (scheduled r))
