-- The empty lists from which a receiver gathers what a transmission gives to a code block.
use Rattle.std.specs.Prelude.{◌≡◌, ℕ, ◌&&◌, if◌then◌else◌, Bool, false, length, replicate}
use Rattle.nr_bitvec.specs.{Bit.bit, declared.marks.Marks.Marks}
use Rattle.nr_bitvec.specs.Marks as spec

-- masks of n positions, none of which is marked
pub record AreEmpty (n : ℕ) (part_masks : Marks) : Type 0 where
  pub marks : part_masks.heard.items ≡ replicate n false
  pub bits : length part_masks.value.items ≡ n

-- of two lists, the positions told zero and those told one: this position is told this bit
abbrev pub is_listed : spec.Marks → ℕ → Bool → Bool
is_listed told p v = if v then bit told.bits p else bit told.at p

-- and it is told both bits
abbrev pub is_listed_both : spec.Marks → ℕ → Bool
is_listed_both told p = bit told.at p && bit told.bits p
