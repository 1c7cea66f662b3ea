-- Words of 64 bits, the lowest first.
use Rattle.std.specs.Prelude.{ℕ, ◌==◌, Bool, if◌then◌else◌, Option, Some, None}
use Rattle.std.specs.Int.{bit_at}

-- the bit of a word at a place that another word marks
abbrev pub bit_in : ℕ → ℕ → ℕ → Option Bool
bit_in marks bits j = if bit_at marks j == 1 then Some (bit_at bits j == 1) else None
