-- What sixteen HARQ processes keep, each with a receiver of its own, and what a call on one of them makes of it.
use Rattle.std.specs.Prelude.{◌≡◌, ℕ, List, [], Option, Some, None, Result, Ok, slice_index_or, slice_set}
use Rattle.nr_shifttable.specs.Accepted.{Entries}
use Rattle.nr_blockdesk.specs.{Explains.Reception, Heard.IsRecordOf, Link.link_said, Receiving.ReceiverView, Receiving.Takes}
use Rattle.nr_blockdesk.specs.declared.outcome.Outcome.{Outcome}
use Rattle.nr_transmission.specs.declared.{fault.DeskFault.DeskFault, settings.Settings.Settings}

-- what contracts see of `Processes`: the shift table, the settings, and the receiver of each process that has begun
pub record ProcessesView : Type 0 where
  pub table : Entries
  pub settings : Settings
  pub places : List (Option ReceiverView)

-- the receiver of process p, if it has begun
abbrev pub process : ProcessesView → ℕ → Option ReceiverView
process s p = slice_index_or s.places p None

-- process p has this receiver, and all others are unchanged
abbrev pub with_process : ProcessesView → ℕ → ReceiverView → ProcessesView
with_process s p r = record { table = s.table; settings = s.settings; places = slice_set s.places p (Some r) }

-- process p took up a reception, or refused it, and all others are unchanged
pub record TakesAt (old new : ProcessesView) (p : ℕ) (x : Reception) (result : Result Outcome DeskFault) : Type 0 where
  pub before : ReceiverView
  pub after : ReceiverView
  pub had : process old p ≡ Some before
  pub has : new ≡ with_process old p after
  pub takes : Takes before after x result

-- process p has a receiver of blocks of a bits that has received nothing, and all others are unchanged
pub record BeginsAt (old new : ProcessesView) (p a : ℕ) : Type 0 where
  pub receiver : ReceiverView
  pub has : new ≡ with_process old p receiver
  pub said : link_said old.table old.settings a ≡ Ok receiver.link
  pub empty : IsRecordOf receiver.link [] receiver.heard
