-- Which bits of a code block a transmission selects, and in which order it sends them (TS 38.212, 5.4.2), for C.
use Rattle.std.specs.Prelude.{ℕ, ◌+◌, ◌*◌, ◌%◌, ◌==◌, nat_le, Bool, false, if◌then◌else◌, Result, Ok, List}
use Rattle.std.specs.Prelude.{◌++◌, length, map, replicate, slice_index_or}
use Rattle.std.specs.List.{list_all, range_with_len}
use Rattle.nr_refusal.specs.Refusal.{◌>>=◌, with_fault}
use Rattle.nr_ldpcenc.specs.Codeword.{filler}
use Rattle.nr_ratematch.specs.{Lengths.is_order, Selection.Circular, Selection.buffer_said, Selection.selection_of}
use Rattle.nr_ratematch.specs.declared.fault.RmFault.TheVariants as rate
use Rattle.nr_interleave.specs.Interleaving.{interleaving_of}
use Rattle.nr_blockdesk.specs.Link.{err_unless}
use Rattle.nr_transmission.specs.declared.fault.DeskFault.TheVariants as desk
use Rattle.nr_transmission.specs.declared.settings.Settings.{Settings}
use Rattle.nr_calls.specs.{Codeword.is_digit, Codeword.is_one, Plan.planned_said, declared.fault.Fault.Fault}
use Rattle.nr_calls.specs.declared.fault.Fault.TheVariants as fault

-- octet n of d is 2 for a filler, and a bit otherwise
abbrev pub is_told_at : Circular → List ℕ → ℕ → Bool
is_told_at b d n = let o = slice_index_or d n 0 in if filler b.kdash b.k (n + 2 * b.z) then o == 2 else is_digit o

-- this is true of each octet
abbrev pub is_told : Circular → List ℕ → Bool
is_told b d = list_all (is_told_at b d) (range_with_len 0 (length d))

-- the buffer from which a redundancy version selects so many bits of d, or the first fault
unfoldable pub selecting_said : Settings → ℕ → ℕ → List ℕ → ℕ → Result Circular Fault
selecting_said settings a rv d e = do
  p ← planned_said settings.rate2048 a
  buffer ← with_fault (λ e. fault.Desk (desk.Rm e)) (buffer_said p.graph p.plan settings.lbrm)
  version ← err_unless (fault.Desk desk.Rv) (nat_le rv 3)
  whole ← err_unless (fault.Desk desk.Length) (length d == p.plan.n)
  bits ← err_unless fault.Bit (is_told buffer d)
  few ← err_unless fault.Many (nat_le e 4194304)
  Ok buffer

-- a word that has d after its first two columns, which are never sent
abbrev pub full_word : ℕ → List ℕ → List Bool
full_word z d = replicate (2 * z) false ++ map is_one d

-- e_r: the e bits that a redundancy version selects from d, or the first fault (5.4.2.1)
abbrev pub selected_said : Settings → ℕ → ℕ → List ℕ → ℕ → Result (List Bool) Fault
selected_said settings a rv d e = selecting_said settings a rv d e >>= λ b. Ok (selection_of b (full_word b.z d) rv e)

-- the selected bits, an octet for each, if they are symbols of a modulation order, or the first fault
unfoldable pub interleaving_said : ℕ → List ℕ → ℕ → Result (List Bool) Fault
interleaving_said qm octets room = do
  order ← err_unless (fault.Desk (desk.Rm rate.Order)) (is_order qm)
  few ← err_unless fault.Many (nat_le (length octets) 4194304)
  symbols ← err_unless (fault.Desk (desk.Rm rate.Ragged)) (length octets % qm == 0)
  bits ← err_unless fault.Bit (list_all is_digit octets)
  fits ← err_unless fault.Room (length octets == room)
  Ok (map is_one octets)

-- f_r: the selected bits in the order in which they are sent, or the first fault (5.4.2.2)
abbrev pub interleaved_said : ℕ → List ℕ → ℕ → Result (List Bool) Fault
interleaved_said qm octets room = interleaving_said qm octets room >>= λ bits. Ok (interleaving_of qm bits)
