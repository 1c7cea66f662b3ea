-- What a receiver in its caller's room takes, once all is judged before its link.
use Rattle.std.specs.Prelude.{ℕ, List, map, Result, Ok}
use Rattle.nr_refusal.specs.Refusal.{◌>>=◌, or_fault, with_fault}
use Rattle.nr_blockdesk.specs.Explains.{reception, reception_said}
use Rattle.nr_blockdesk.specs.Link.{Link}
use Rattle.nr_transmission.specs.declared.tx.Tx.{Tx}
use Rattle.nr_calls.specs.Keeping.{Arriving}
use Rattle.nr_calls.specs.Receiving.{heard_octet}
use Rattle.nr_calls.specs.Rooms.{records_in}
use Rattle.nr_calls.specs.inside.Words.{arriving}
use Rattle.nr_calls.specs.declared.fault.Fault.{Fault}
use Rattle.nr_calls.specs.declared.fault.Fault.TheVariants as fault

-- the receiver of a room over a link, and what it takes of a transmission, or the first fault
abbrev pub arriving_over : Link → ℕ → List ℕ → Tx → List ℕ → Result Arriving Fault
arriving_over link digest room tx octets = do
  records ← or_fault fault.State (records_in digest link room)
  lengths ← with_fault fault.Desk (reception_said link (reception tx (map heard_octet octets)))
  Ok (arriving link digest records tx octets)
