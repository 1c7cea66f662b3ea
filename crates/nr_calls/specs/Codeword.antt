-- The bits that a code block is encoded to (TS 38.212, 5.3.2), for C.
use Rattle.std.specs.Prelude.{◌≡◌, ℕ, ◌+◌, ◌*◌, ◌<◌, ◌==◌, nat_le, Bool, if◌then◌else◌, Result, Ok}
use Rattle.std.specs.{Prelude.List, Prelude.length, Prelude.map, Prelude.slice_index_or, List.list_all}
use Rattle.nr_bitvec.specs.Bit.{bit}
use Rattle.nr_refusal.specs.Refusal.{◌>>=◌}
use Rattle.nr_segment.specs.Plan.{Numbers}
use Rattle.nr_shifttable.specs.Accepted.{Entries, has_graph}
use Rattle.nr_ldpcenc.specs.Codeword.{codeword, filler}
use Rattle.nr_blockdesk.specs.Link.{err_unless}
use Rattle.nr_transmission.specs.declared.fault.DeskFault.TheVariants as desk
use Rattle.nr_calls.specs.{Crossing.digit, Entries.table_by, Plan.planned_said, declared.fault.Fault.Fault}
use Rattle.nr_shifttable.specs.declared.entry.KeptEntry.{KeptEntry}
use Rattle.nr_calls.specs.declared.fault.Fault.TheVariants as fault

-- an octet is a bit, and which bit it is
abbrev pub is_digit : ℕ → Bool
is_digit o = nat_le o 1

abbrev pub is_one : ℕ → Bool
is_one o = o == 1

-- the bits of octets that have one each, or the fault that an octet has none
unfoldable pub bits_said : List ℕ → Result (List Bool) Fault
bits_said octets = err_unless fault.Bit (list_all is_digit octets) >>= λ _. Ok (map is_one octets)

-- a codeword of a code block, and the numbers of its plan
pub record Codeword : Type 0 where
  pub plan : Numbers
  pub word : List Bool

-- the codeword of a code block of a transport block of a bits, by a shift table, or the first fault
unfoldable pub coded_by : Entries → ℕ → ℕ → List ℕ → Result Codeword Fault
coded_by table rate2048 a octets = do
  p ← planned_said rate2048 a
  there ← err_unless (fault.Desk desk.Graph) (has_graph p.graph table)
  whole ← err_unless (fault.Desk desk.Length) (length octets == p.plan.kdash)
  bits ← bits_said octets
  Ok (record { plan = p.plan; word = codeword table p.graph p.plan bits })

-- the codeword by a shift table's entries, or the first fault
unfoldable pub coded_said : List KeptEntry → ℕ → ℕ → List ℕ → Result Codeword Fault
coded_said entries rate2048 a octets = table_by entries >>= λ table. coded_by table rate2048 a octets

-- the codeword by a shift table's entries, if there is room for N octets, or the first fault
abbrev pub coded_into_said : List KeptEntry → ℕ → ℕ → List ℕ → ℕ → Result Codeword Fault
coded_into_said entries rate2048 a octets room = do
  coded ← coded_said entries rate2048 a octets
  fits ← err_unless fault.Room (coded.plan.n == room)
  Ok coded

-- d_n, as an octet: the bit of column n past the first two, and 2 for a filler
abbrev pub coded_octet : Codeword → ℕ → ℕ
coded_octet c n = let q = n + 2 * c.plan.z in if filler c.plan.kdash c.plan.k q then 2 else digit (bit c.word q)

-- octets that have d
pub record AreCoded (c : Codeword) (octets : List ℕ) : Type 0 where
  pub long : length octets ≡ c.plan.n
  pub each : (n : ℕ) → n < c.plan.n → slice_index_or octets n 0 ≡ coded_octet c n
