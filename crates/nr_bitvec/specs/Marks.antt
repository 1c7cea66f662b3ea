-- Some positions of a list of bits, marked, and a bit at each of them.
use Rattle.std.specs.Prelude.{ℕ, Bool, if◌then◌else◌, List, Option, Some, None}
use Rattle.nr_bitvec.specs.Bit.{bit}
use Rattle.nr_bitvec.specs.declared.marks.Marks as marks

-- which positions are marked, and the bits there; at the others the bits may be anything
pub record Marks : Type 0 where
  pub at : List Bool
  pub bits : List Bool

-- the marks that two lists make
abbrev pub marks_with : List Bool → List Bool → Marks
marks_with at bits = record { at = at; bits = bits }

-- the marks of a `Marks`
abbrev pub marks_in : marks.Marks → Marks
marks_in m = marks_with m.heard.items m.value.items

-- the bit at a position, if it is marked
abbrev pub marked_bit : Marks → ℕ → Option Bool
marked_bit m p = if bit m.at p then Some (bit m.bits p) else None
