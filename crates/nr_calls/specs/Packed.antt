-- Bits and places with eight to an octet, the first most significant, for C.
use Rattle.std.specs.Prelude.{ℕ, ◌+◌, ◌/◌, ◌==◌, nat_le, ◌&&◌, if◌then◌else◌, Result, Ok, List, []}
use Rattle.std.specs.Prelude.{◌∷◌, ◌++◌, length}
use Rattle.std.specs.{Prelude.map, Prelude.take, Prelude.drop, List.range_with_len}
use Rattle.nr_bitvec.specs.{Bit.bit, BitList.bits_of, BitList.octets_of}
use Rattle.nr_refusal.specs.Refusal.{◌>>=◌}
use Rattle.nr_shifttable.specs.declared.entry.KeptEntry.{KeptEntry}
use Rattle.nr_blockdesk.specs.Link.{err_unless}
use Rattle.nr_transmission.specs.declared.{settings.Settings.Settings, tx.Tx.Tx}
use Rattle.nr_calls.specs.{Crossing.digit, Sending.send_call_said, declared.crossing.NrTx.NrTx, declared.fault.Fault.Fault}
use Rattle.nr_calls.specs.declared.fault.Fault.TheVariants as fault

-- how many octets n bits take
abbrev pub octet_count : ℕ → ℕ
octet_count n = (n + 7) / 8

-- The octets of the bits that a transmission sends, if there is room for so many, or the first fault. The last octet is filled
-- with zero bits. The bits are those of `nr_send`.
abbrev pub send_packed_said : List KeptEntry → Settings → List ℕ → Tx → ℕ → Result (List ℕ) Fault
send_packed_said entries settings octets tx room = do
  bits ← send_call_said entries settings octets tx
  fits ← err_unless fault.Room (octet_count (length bits) == room)
  Ok (octets_of bits)

-- The octets that `nr_receive` takes, of g places. A place is known if its bit in the second list is set, and then has its bit
-- in the first.
abbrev pub unpacked_part : ℕ → List ℕ → List ℕ → List ℕ
unpacked_part g bits known =
    map (λ m. if bit (bits_of known) m then digit (bit (bits_of bits) m) else 2) (range_with_len 0 g)

-- The same of all transmissions, each of which begins with an octet of its own. If octets are missing, so are places, and if
-- octets are left over, so is a place.
unfoldable pub unpacked : List NrTx → List ℕ → List ℕ → List ℕ
unpacked [] [] [] = []
unpacked [] bits known = 2 ∷ []
unpacked (t ∷ ts) bits known =
    let n = octet_count t.g in
    if nat_le n (length bits) && nat_le n (length known)
    then unpacked_part t.g (take n bits) (take n known) ++ unpacked ts (drop n bits) (drop n known) else []
