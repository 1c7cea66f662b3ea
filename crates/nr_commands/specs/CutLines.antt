-- The lines of `cut`, about a transport block. One space separates words, and numbers are decimal.
use Rattle.std.specs.Prelude.{ℕ, Bool, List, [], ◌∷◌, ◌++◌, codes}
use Rattle.std.specs.Fmt.{decimal}
use Rattle.nr_graphpick.specs.{Graph.digits_of, declared.Graph.Graph}
use Rattle.nr_segment.specs.Plan.{Numbers}
use Rattle.nr_commands.specs.Hex.{hex}

-- a block of a bits, and the plan of its b bits with the CRC
unfoldable pub block_line : ℕ → ℕ → ℕ → Graph → Numbers → List ℕ
block_line number a b graph plan =
    codes "block " ++ decimal number ++ codes " a " ++ decimal a ++ codes " b " ++ decimal b
    ++ codes " graph " ++ digits_of graph ++ codes " c " ++ decimal plan.c ++ codes " l " ++ decimal plan.l
    ++ codes " kdash " ++ decimal plan.kdash ++ codes " kb " ++ decimal plan.kb ++ codes " z " ++ decimal plan.z
    ++ codes " set " ++ decimal plan.set ++ codes " k " ++ decimal plan.k ++ codes " n " ++ decimal plan.n ++ 10 ∷ []

-- a block's bits with the CRC
unfoldable pub attached_line : ℕ → List Bool → List ℕ
attached_line number bits = codes "attached " ++ decimal number ++ codes " " ++ hex bits ++ 10 ∷ []

-- the bits of code block r of a block, without fillers
unfoldable pub code_line : ℕ → ℕ → List Bool → List ℕ
code_line number r bits =
    codes "code " ++ decimal number ++ codes " " ++ decimal r ++ codes " " ++ hex bits ++ 10 ∷ []
