-- What receiving a transport block over its transmissions returns.
use Rattle.std.specs.Prelude.{ℕ, ◌++◌, ◌==◌, nat_le, if◌then◌else◌, Result, Ok, Err, List, [], ◌∷◌, length}
use Rattle.std.specs.Prelude.{map, take, drop}
use Rattle.nr_refusal.specs.Refusal.{◌>>=◌, with_fault}
use Rattle.nr_shifttable.specs.Accepted.{Entries}
use Rattle.nr_blockdesk.specs.Explains.{Reception, reception, reception_said}
use Rattle.nr_blockdesk.specs.Link.{Link, err_unless, link_said}
use Rattle.nr_transmission.specs.declared.fault.DeskFault.TheVariants as desk
use Rattle.nr_blockdesk.specs.declared.heard.Heard.{Heard}
use Rattle.nr_blockdesk.specs.declared.heard.Heard.TheVariants as heard
use Rattle.nr_transmission.specs.declared.settings.Settings.{Settings}
use Rattle.nr_calls.specs.{Crossing.tx_of, Entries.table_by, Findings.Findings, Findings.findings, Findings.is_room}
use Rattle.nr_calls.specs.{Plan.planned_said, declared.crossing.NrTx.NrTx, declared.fault.Fault.Fault}
use Rattle.nr_shifttable.specs.declared.entry.KeptEntry.{KeptEntry}
use Rattle.nr_calls.specs.declared.fault.Fault.TheVariants as fault
use Rattle.nr_calls.specs.declared.findings.Room.{Room}

-- what an octet says was received at a place: 0 and 1 are bits, and any other number is nothing
abbrev pub heard_octet : ℕ → Heard
heard_octet o = if o == 0 then heard.Zero else (if o == 1 then heard.One else heard.Erased)

-- a transmission, and the octets of its places
abbrev pub arrival : NrTx → List ℕ → Reception
arrival t octets = reception (tx_of t) (map heard_octet (take t.g octets))

-- What is found over a list of receptions and the transmissions after it, or the first fault. The places of each
-- transmission follow those of the one before it.
unfoldable pub heard_said : Link → List Reception → List NrTx → List ℕ → Result Findings Fault
heard_said link list [] [] = Ok (findings link list)
heard_said link list [] (o ∷ octets) = Err (fault.Desk desk.Length)
heard_said link list (t ∷ ts) octets =
    err_unless (fault.Desk desk.Length) (nat_le t.g (length octets)) >>= λ _.
    with_fault fault.Desk (reception_said link (arrival t octets)) >>= λ _.
    heard_said link (list ++ arrival t octets ∷ []) ts (drop t.g octets)

-- What is found over some transmissions of a transport block of a bits, by a shift table, if there is room for it.
-- Otherwise it is the first fault. How much room is needed does not depend on what is found.
unfoldable pub receive_by : Entries → Settings → ℕ → List NrTx → List ℕ → Room → Result Findings Fault
receive_by table settings a ts octets room = do
  p ← planned_said settings.rate2048 a
  fits ← err_unless fault.Room (is_room room p.plan.c a (length ts))
  link ← with_fault fault.Desk (link_said table settings a)
  heard_said link [] ts octets

-- what is found over them by a shift table's entries, or the first fault
unfoldable pub receive_into_said : List KeptEntry → Settings → ℕ → List NrTx → List ℕ → Room → Result Findings Fault
receive_into_said entries settings a ts octets room = table_by entries >>= λ table. receive_by table settings a ts octets room
