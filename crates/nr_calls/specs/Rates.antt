-- How a transmission shares its bits out to the code blocks, and the circular buffer that they are selected from
-- (TS 38.212, 5.4.2.1).
use Rattle.std.specs.Prelude.{ℕ, ◌==◌, nat_le, Result, Ok, List, [], ◌∷◌, length}
use Rattle.nr_refusal.specs.Refusal.{◌>>=◌, with_fault}
use Rattle.nr_ratematch.specs.{Lengths.lengths_said, Lengths.is_scheduled, Selection.buffer_said, Selection.start_of}
use Rattle.nr_blockdesk.specs.Link.{err_unless}
use Rattle.nr_transmission.specs.declared.fault.DeskFault.TheVariants as desk
use Rattle.nr_transmission.specs.declared.{settings.Settings.Settings, tx.Tx.Tx}
use Rattle.nr_calls.specs.{Plan.planned_said, declared.fault.Fault.Fault}
use Rattle.nr_calls.specs.declared.fault.Fault.TheVariants as fault
use Rattle.nr_calls.specs.declared.rates.NrBuffer.{NrBuffer}

-- E_r of each code block of a transport block of a bits, or the first fault
unfoldable pub shares_said : ℕ → ℕ → Tx → Result (List ℕ) Fault
shares_said rate2048 a tx = do
  p ← planned_said rate2048 a
  version ← err_unless (fault.Desk desk.Rv) (nat_le tx.rv 3)
  with_fault (λ e. fault.Desk (desk.Rm e)) (lengths_said (is_scheduled tx.mask) p.plan.c tx.g tx.qm tx.nl)

-- E_r of each code block, if there is room for so many, or the first fault
abbrev pub shares_into_said : ℕ → ℕ → Tx → ℕ → Result (List ℕ) Fault
shares_into_said rate2048 a tx room = do
  shares ← shares_said rate2048 a tx
  fits ← err_unless fault.Room (length shares == room)
  Ok shares

-- Ncb and k0 of each code block of a transport block of a bits, for a redundancy version, or the first fault
unfoldable pub nr_buffer_said : Settings → ℕ → ℕ → Result NrBuffer Fault
nr_buffer_said settings a rv = do
  p ← planned_said settings.rate2048 a
  buffer ← with_fault (λ e. fault.Desk (desk.Rm e)) (buffer_said p.graph p.plan settings.lbrm)
  version ← err_unless (fault.Desk desk.Rv) (nat_le rv 3)
  Ok (record { ncb = buffer.ncb; k0 = start_of buffer rv; reserved = 0 ∷ 0 ∷ [] })
