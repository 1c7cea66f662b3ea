-- Single bits as truth values, and their sum modulo two (TS 38.212, 5).
use Rattle.std.specs.Prelude.{ℕ, Bool, true, false, not, List, slice_index_or}

-- the sum of two bits modulo two, as every sum of bits in TS 38.212
infixl 40 ◌⊕◌
abbrev pub ◌⊕◌ : Bool → Bool → Bool
false ⊕ b = b
true ⊕ b = not b

-- bit p of a list of bits, which is zero past the end
abbrev pub bit : List Bool → ℕ → Bool
bit w p = slice_index_or w p false
