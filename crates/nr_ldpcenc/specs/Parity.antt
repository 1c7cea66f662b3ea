-- Sums of bits modulo two (TS 38.212, 5.3.2).
use Rattle.std.specs.Prelude.{ℕ, Bool, false, List, [], ◌∷◌}
use Rattle.nr_bitvec.specs.Bit.{◌⊕◌}

-- the sum of a word's bits at a list of positions, modulo two
abbrev pub parity : (ℕ → Bool) → List ℕ → Bool
parity w [] = false
parity w (p ∷ ps) = w p ⊕ parity w ps
