-- What a list of calls makes of each of sixteen HARQ processes.
use Rattle.std.specs.Prelude.{◌≡◌, ◌≢◌, ℕ, ◌<◌, ◌==◌, Bool, if◌then◌else◌, List, [], ◌∷◌}
use Rattle.std.specs.Prelude.{◌++◌, filter, Option, Some, None, option_map, Result, Ok, Err}
use Rattle.nr_shifttable.specs.Accepted.{Entries}
use Rattle.nr_blockdesk.specs.{Explains.Reception, Explains.reception_said, Heard.IsRecordOf, Link.Link, Link.link_said}
use Rattle.nr_blockdesk.specs.{Outcome.Verdict, Outcome.outcome_of, Processing.ProcessesView, Processing.process}
use Rattle.nr_blockdesk.specs.Receiving.{ReceiverView}
use Rattle.nr_transmission.specs.declared.fault.DeskFault.{DeskFault}
use Rattle.nr_transmission.specs.declared.fault.DeskFault.TheVariants as fault
use Rattle.nr_transmission.specs.declared.settings.Settings.{Settings}

-- A call on a process: it begins with blocks of a bits, or takes up a reception. A call that is refused for memory does
-- not count.
pub data Call : Type 0 where
  begin : ℕ → ℕ → Call
  take : ℕ → Reception → Call

-- a process since it last began: its link, and the receptions that it took up
pub record Round : Type 0 where
  pub link : Link
  pub list : List Reception

-- the round after a `begin`: a new one, unless the call is refused
abbrev pub begun_as : Result Link DeskFault → Option Round → Option Round
begun_as (Ok link) round = Some (record { link = link; list = [] })
begun_as (Err e) round = round

-- the round after a `take`: one more reception, unless the call is refused
abbrev pub taken_as : {X : Type 0} → Result X DeskFault → Reception → Round → Round
taken_as (Ok lengths) x round = record { link = round.link; list = round.list ++ x ∷ [] }
taken_as (Err e) x round = round

-- the round after a `take`, by the result for the reception
abbrev pub round_after_take : Reception → Round → Round
round_after_take x round = taken_as (reception_said round.link x) x round

-- the round of process p after one call
abbrev pub after_call : Entries → Settings → ℕ → Option Round → Call → Option Round
after_call table settings p round (begin q a) = if q == p then begun_as (link_said table settings a) round else round
after_call table settings p round (take q x) = if q == p then option_map (round_after_take x) round else round

-- the round of process p after these calls
unfoldable pub round_from : Entries → Settings → ℕ → Option Round → List Call → Option Round
round_from table settings p round [] = round
round_from table settings p round (call ∷ calls) = round_from table settings p (after_call table settings p round call) calls

-- the round of process p after these calls, if no process had begun before
abbrev pub round_after : Entries → Settings → ℕ → List Call → Option Round
round_after table settings p calls = round_from table settings p None calls

-- a call is on process p
abbrev pub is_on : ℕ → Call → Bool
is_on p (begin q a) = q == p
is_on p (take q x) = q == p

-- a receiver has the link of a round, and the record of its receptions
abbrev pub Holds : Option ReceiverView → Option Round → Type 0
Holds None None = Unit {0}
Holds (Some receiver) (Some round) = (receiver.link ≡ round.link) × IsRecordOf round.link round.list receiver.heard
Holds _ _ = ⊥

-- each process is as these calls leave it
abbrev pub IsAfter : ProcessesView → List Call → Type 0
IsAfter s calls = (p : ℕ) → p < 16 → Holds (process s p) (round_after s.table s.settings p calls)

-- the outcome of process p's receptions since it last began
abbrev pub answer_after : ProcessesView → ℕ → List Call → Option Verdict
answer_after s p calls = option_map (λ round. outcome_of round.link round.list) (round_after s.table s.settings p calls)

-- a call was not refused for memory
abbrev pub HadMemory : {X : Type 0} → Result X DeskFault → Type 0
HadMemory (Ok x) = Unit {0}
HadMemory (Err e) = e ≢ fault.Memory

-- two lists of calls that have the same calls on a process leave it in the same round
abbrev pub ProcessesAreApart : Type 0
ProcessesAreApart = (table : Entries) (settings : Settings) (p : ℕ) (xs ys : List Call)
    → filter (is_on p) xs ≡ filter (is_on p) ys → round_after table settings p xs ≡ round_after table settings p ys
