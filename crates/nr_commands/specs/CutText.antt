-- The text of `cut` (TS 38.212, 6.2.1 to 6.2.3 and 7.2.1 to 7.2.3).
use Rattle.std.specs.Prelude.{ℕ, ◌+◌, ◌*◌, Bool, Result, Ok, List, [], ◌∷◌, ◌++◌, length, flat_map}
use Rattle.std.specs.List.{range_with_len}
use Rattle.nr_bitvec.specs.BitList.{bits_of}
use Rattle.nr_graphpick.specs.{Graph.pick_said, declared.Graph.Graph}
use Rattle.nr_segment.specs.{Plan.Numbers, Plan.plan_of, CodeBlock.code_bits}
use Rattle.nr_crcattach.specs.Attachment.{attached}
use Rattle.nr_refusal.specs.Refusal.{◌>>=◌, with_fault}
use Rattle.nr_files.specs.Blocks.{blocks_said}
use Rattle.nr_commands.specs.{CutLines.block_line, CutLines.attached_line, CutLines.code_line, declared.fault.RunFault.RunFault}
use Rattle.nr_commands.specs.declared.fault.RunFault.TheVariants.{Blocks, Desk}
use Rattle.nr_transmission.specs.declared.fault.DeskFault.TheVariants.{Pick, Seg}

-- the lines of a block of a bits: its plan, its bits with the CRC, and each code block from 0 on
unfoldable pub planned_lines : ℕ → ℕ → Graph → Numbers → List Bool → List ℕ
planned_lines number a graph plan bits =
    block_line number a (length bits) graph plan
    ++ attached_line number bits
    ++ flat_map (λ r. code_line number r (code_bits plan bits r)) (range_with_len 0 plan.c)

-- the lines of block `number` at a code rate in 2048ths, or why it is refused
unfoldable pub block_lines : ℕ → ℕ → List ℕ → Result (List ℕ) RunFault
block_lines rate number octets = do
  graph ← with_fault (λ fault. Desk number (Pick fault)) (pick_said (8 * length octets) rate)
  plan ← with_fault (λ fault. Desk number (Seg fault)) (plan_of graph (length (attached (bits_of octets))))
  Ok (planned_lines number (8 * length octets) graph plan (attached (bits_of octets)))

-- the lines of blocks from block `number` on, or the first refusal
unfoldable pub lines_from : ℕ → ℕ → List (List ℕ) → Result (List ℕ) RunFault
lines_from rate number [] = Ok []
lines_from rate number (octets ∷ blocks) = do
  lines ← block_lines rate number octets
  more ← lines_from rate (number + 1) blocks
  Ok (lines ++ more)

-- what `cut` says of a blocks file: its text, or the first refusal
unfoldable pub cut_said : ℕ → List ℕ → Result (List ℕ) RunFault
cut_said rate file = do
  blocks ← with_fault Blocks (blocks_said file)
  lines_from rate 1 blocks
