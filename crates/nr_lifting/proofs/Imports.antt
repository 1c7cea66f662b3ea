-- The names that most proofs of this crate cite, passed on from one place. Declares nothing.
pub use Rattle.std.proofs.Common.{Bool, List, [], ap, arith, false, get_or, get_or-set_other, get_or-set_same}
pub use Rattle.std.proofs.Common.{if◌then◌else◌, inl, inr, length, length-set, max, min, not, refl, replicate, rules, set}
pub use Rattle.std.proofs.Common.{subst, suc, sym, true, zero, ℕ, ◌%◌, ◌&&◌, ◌*◌, ◌+◌, ◌-◌, ◌/◌}
pub use Rattle.std.proofs.Common.{◌<◌, ◌==◌, ◌^◌, ◌||◌, ◌∙◌, ◌≡◌, ◌≢◌, ◌≤◌}
pub use Rattle.std.proofs.Math.Nat.{mod-eq_of_lt}
pub use Rattle.std.proofs.lemmas.Bool.{cases_eq, cases_lt}
pub use Rattle.std.proofs.lemmas.Bool.Decides.{nat_tests}
pub use Rattle.std.proofs.lemmas.List.{get_or-replicate, get_or_past, get_or_read, length-replicate}
pub use Rattle.std.proofs.lemmas.Nat.{mod_below}
pub use Rattle.std.proofs.lemmas.Nat.Bits.{bit_at-lt, bit_at-zero, bit_at_above, bit_at_and, bit_at_not, bit_at_or, bit_at_xor}
pub use Rattle.std.specs.Int.{bit_at, bit_not, w64}
pub use Rattle.std.specs.Int.RustNames.{bit_and, bit_or}
pub use Rattle.nr_bitvec.proofs.BitFacts.{bit_at_mod, bit_at_shl_high, bit_at_shl_low, place_of, place_past}
pub use Rattle.nr_bitvec.proofs.NumberFacts.{mod_once}
pub use Rattle.nr_bitvec.proofs.PlaceFacts.{bit-place, length-unpacked, place-set_other, place-set_same, place-zeros}
pub use Rattle.nr_bitvec.specs.Bit.{bit, ◌⊕◌}
pub use Rattle.nr_bitvec.specs.Packed.{IsClear, bits_of_words, place}
pub use Rattle.nr_lifting.specs.DoubledLanes.{block_bits, is_set}
pub use Rattle.nr_lifting.specs.Planes.{count_of, digits_below}
pub use Rattle.nr_lifting.specs.inside.Words.{GainsDoubled, IsDoubledLane}
