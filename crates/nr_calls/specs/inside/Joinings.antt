-- Definitions that only the proofs of joined code blocks need.
use Rattle.nr_calls.specs.{Joining.Joined, declared.joined_blocks.JoinedBlocks.JoinedBlocks}

-- what a call has joined
abbrev pub joined_by : JoinedBlocks → Joined
joined_by j = record { block = j.block.items; passed = j.passed.items; block_passed = j.block_passed }
