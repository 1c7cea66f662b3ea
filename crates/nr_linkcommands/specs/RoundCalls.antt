-- Which calls on a HARQ process correspond to a round of a schedule, and what they make of the process.
use Rattle.std.specs.Prelude.{◌≡◌, ℕ, true, if◌then◌else◌, List, [], ◌∷◌, ◌++◌, Option, None, option_map}
use Rattle.std.specs.Prelude.{length, map, flat_map, Ok}
use Rattle.nr_shifttable.specs.Accepted.{Entries}
use Rattle.nr_blockdesk.specs.{Calls.Call, Calls.Round, Calls.begin, Calls.take, Calls.round_after, Sent.SenderView}
use Rattle.nr_transmission.specs.declared.settings.Settings.{Settings}
use Rattle.nr_linkcommands.specs.{Inputs.senders_from, RoundTexts.by_sender, RoundTexts.sender_of}
use Rattle.nr_linkcommands.specs.RunText.{receptions_of, received_of}
use Rattle.nr_files.specs.{Rounds.round_of, Schedule.IsTimetable, Schedule.Timetable, declared.schedule.Transmission.Transmission}

-- The calls for a transmission, by the sender of its block. A fresh transmission begins its process for a block of that
-- size. Then what is received of it is taken up.
abbrev pub calls_by : Transmission → SenderView → List Call
calls_by x sender =
    (if x.fresh then begin x.process (length sender.block) ∷ [] else []) ++ map (take x.process) (received_of sender x)

-- the calls of these transmissions, in their order
abbrev pub calls_of : List SenderView → List Transmission → List Call
calls_of senders xs = flat_map (λ x. by_sender (sender_of senders x.block) (calls_by x)) xs

-- What a round of the schedule gives: the link of the sender of the block that its first transmission names, and all
-- that was received. A process that is in no round has not begun.
abbrev pub round_given : List SenderView → List Transmission → Option Round
round_given senders [] = None
round_given senders (x ∷ more) =
    option_map (λ sender. record { link = sender.link; list = receptions_of sender (x ∷ more) }) (sender_of senders x.block)

-- if a schedule names HARQ processes, its calls leave each process in the round that the schedule gives
abbrev pub RoundsAreCalls : Type 0
RoundsAreCalls = (table : Entries) (settings : Settings) (blocks : List (List ℕ)) (senders : List SenderView)
    (schedule : Timetable) (p : ℕ)
    → senders_from table settings 1 blocks ≡ Ok senders → IsTimetable (length senders) schedule
    → schedule.by_process ≡ true
    → round_after table settings p (calls_of senders schedule.transmissions)
    ≡ round_given senders (round_of p schedule.transmissions)
