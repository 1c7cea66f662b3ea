-- Definitions that only the proofs need.
use Rattle.std.specs.Prelude.{◌≡◌, ◌⊎◌, ℕ, ◌+◌, Option, None, Some, Result, Ok, Err, List, [], ◌∷◌}
use Rattle.std.specs.Prelude.{◌++◌, length}
use Rattle.nr_files.specs.{Blocks.blocks_from, Blocks.parts_of, declared.blocks.BlocksFault.BlocksFault}
use Rattle.nr_files.specs.declared.blocks.BlocksFault.TheVariants as fault
use Rattle.nr_refusal.specs.Refusal.{◌>>=◌}

-- A step towards the specification's result, after which this much of the result is left. Or the step's fault is that
-- of the specification, unless memory ran out.
abbrev pub StepLeaves : {X Y E : Type 0} → E → Result X E → Result Y E → Result Y E → Type 0
StepLeaves memory (Ok done) said later = said ≡ later
StepLeaves memory (Err e) said later = (e ≡ memory) ⊎ (said ≡ Err e)

-- After such steps this much of the result is left, or this is the first fault.
abbrev pub StateLeaves : {Y : Type 0} → Option BlocksFault → Result Y BlocksFault → Result Y BlocksFault → Type 0
StateLeaves None said later = said ≡ later
StateLeaves (Some e) said later = (e ≡ fault.Memory) ⊎ (said ≡ Err e)

-- the lines of a text; none if it is empty
unfoldable pub lines_in : List ℕ → List (List ℕ)
lines_in [] = []
lines_in (c ∷ text) = parts_of (c ∷ text)

-- the result for a file by the lines after those that have these blocks
unfoldable pub said_behind : List (List ℕ) → List (List ℕ) → Result (List (List ℕ)) BlocksFault
said_behind blocks lines = blocks_from (length blocks + 1) lines >>= λ later. Ok (blocks ++ later)
