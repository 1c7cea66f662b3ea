-- The parity bits of octets (TS 38.212, 5.1).
use Rattle.std.specs.Prelude.{ℕ, ◌==◌, nat_le, if◌then◌else◌, Option, Some, None, Result, Ok, List, length}
use Rattle.nr_bitvec.specs.BitList.{bits_of}
use Rattle.nr_crcattach.specs.{Crc.crc_of, declared.Poly.Poly}
use Rattle.nr_crcattach.specs.declared.Poly.TheVariants as poly
use Rattle.nr_refusal.specs.Refusal.{◌>>=◌, or_fault}
use Rattle.nr_blockdesk.specs.Link.{err_unless}
use Rattle.nr_calls.specs.declared.fault.Fault.{Fault}
use Rattle.nr_calls.specs.declared.fault.Fault.TheVariants as fault

-- the generator polynomial of a number
abbrev pub poly_of : ℕ → Option Poly
poly_of number =
    if number == 0 then Some poly.A24
    else (if number == 1 then Some poly.B24 else (if number == 2 then Some poly.C16 else None))

-- the parity bits of octets, or the first fault (TS 38.212, 5.1)
abbrev pub crc_said : ℕ → List ℕ → Result ℕ Fault
crc_said number octets = do
  generator ← or_fault fault.Poly (poly_of number)
  few ← err_unless fault.Many (nat_le (length octets) 2097152)
  Ok (crc_of generator (bits_of octets))
