-- The K' bits of a code block of a transport block (TS 38.212, 5.2.2), for C.
use Rattle.std.specs.Prelude.{ℕ, ◌*◌, ◌==◌, nat_lt, Bool, Result, Ok, List, length}
use Rattle.nr_bitvec.specs.BitList.{bits_of}
use Rattle.nr_crcattach.specs.Attachment.{attached}
use Rattle.nr_refusal.specs.Refusal.{◌>>=◌}
use Rattle.nr_segment.specs.CodeBlock.{code_bits}
use Rattle.nr_blockdesk.specs.Link.{err_unless}
use Rattle.nr_calls.specs.{Plan.Planned, Plan.planned_said, declared.fault.Fault.Fault}
use Rattle.nr_calls.specs.declared.fault.Fault.TheVariants as fault

-- the plan to cut code block r of a transport block of a bits for a room of so many octets, or the first fault
unfoldable pub cut_planned : ℕ → ℕ → ℕ → ℕ → Result Planned Fault
cut_planned rate2048 a r room = do
  p ← planned_said rate2048 a
  there ← err_unless fault.CodeBlock (nat_lt r p.plan.c)
  fits ← err_unless fault.Room (p.plan.kdash == room)
  Ok p

-- the K' bits of code block r of a transport block of whole octets, without fillers, or the first fault
abbrev pub code_block_said : ℕ → List ℕ → ℕ → ℕ → Result (List Bool) Fault
code_block_said rate2048 octets r room =
    cut_planned rate2048 (8 * length octets) r room >>= λ p. Ok (code_bits p.plan (attached (bits_of octets)) r)
