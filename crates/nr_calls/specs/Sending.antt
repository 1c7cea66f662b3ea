-- What sending a transport block returns.
use Rattle.std.specs.Prelude.{ℕ, ◌==◌, nat_le, Bool, Result, Ok, List, length}
use Rattle.nr_bitvec.specs.BitList.{bits_of}
use Rattle.nr_refusal.specs.Refusal.{◌>>=◌, with_fault}
use Rattle.nr_shifttable.specs.Accepted.{Entries}
use Rattle.nr_blockdesk.specs.{Link.err_unless, Sent.sending_said, Sent.sent_said}
use Rattle.nr_transmission.specs.declared.fault.DeskFault.TheVariants as desk
use Rattle.nr_transmission.specs.declared.{settings.Settings.Settings, tx.Tx.Tx}
use Rattle.nr_calls.specs.{Entries.table_by, declared.fault.Fault.Fault}
use Rattle.nr_shifttable.specs.declared.entry.KeptEntry.{KeptEntry}
use Rattle.nr_calls.specs.declared.fault.Fault.TheVariants as fault

-- the bits that a transmission sends of a transport block of whole octets, by a shift table, or the first fault
unfoldable pub send_by : Entries → Settings → List ℕ → Tx → Result (List Bool) Fault
send_by table settings octets tx = do
  short ← err_unless (fault.Desk desk.Size) (nat_le (length octets) 163840)
  sender ← with_fault fault.Desk (sending_said table settings (bits_of octets))
  with_fault fault.Desk (sent_said sender.link tx sender.block)

-- the bits that a transmission sends, by a shift table's entries, or the first fault
unfoldable pub send_call_said : List KeptEntry → Settings → List ℕ → Tx → Result (List Bool) Fault
send_call_said entries settings octets tx = table_by entries >>= λ table. send_by table settings octets tx

-- these bits, if there is room for so many, or the first fault
abbrev pub send_into_said : List KeptEntry → Settings → List ℕ → Tx → ℕ → Result (List Bool) Fault
send_into_said entries settings octets tx room = do
  bits ← send_call_said entries settings octets tx
  fits ← err_unless fault.Room (length bits == room)
  Ok bits
