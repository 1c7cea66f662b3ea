-- The names that several proof files of this crate cite, passed on from one place. Declares nothing.
pub use Rattle.std.proofs.{Common.◌∷◌, Math.Nat.mul-le-mul_right, Math.Nat.pow-suc, lemmas.Bool.eqb-true}
pub use Rattle.std.proofs.lemmas.{List.FromFn.length-map-range_with_len, Nat.Bits.bit_at_ones, Nat.Bits.shr_and_one}
pub use Rattle.std.proofs.lemmas.Nat.{div-mul-add, div_below, le-div, mod-mul-add, pow_pos}
pub use Rattle.std.specs.Int.RustNames.{bit_xor}
pub use Rattle.nr_bitvec.proofs.{BitFacts.bit_at_shr, NumberFacts.max-one, NumberFacts.min-one}
pub use Rattle.nr_lifting.proofs.Imports.{Bool, GainsDoubled, IsClear, IsDoubledLane, List, [], ap, arith, bit, bit-place, bit_and}
pub use Rattle.nr_lifting.proofs.Imports.{bit_at, bit_at-lt, bit_at-zero, bit_at_above, bit_at_and, bit_at_mod, bit_at_not}
pub use Rattle.nr_lifting.proofs.Imports.{bit_at_or, bit_at_shl_high, bit_at_shl_low, bit_at_xor, bit_not, bit_or, bits_of_words}
pub use Rattle.nr_lifting.proofs.Imports.{block_bits, cases_eq, cases_lt, count_of, digits_below, false, get_or, get_or-replicate}
pub use Rattle.nr_lifting.proofs.Imports.{get_or-set_other, get_or-set_same, get_or_past, get_or_read, if◌then◌else◌, inl}
pub use Rattle.nr_lifting.proofs.Imports.{inr, is_set, length, length-replicate, length-set, length-unpacked, max, min}
pub use Rattle.nr_lifting.proofs.Imports.{mod-eq_of_lt, mod_below, mod_once, nat_tests, not, place, place-set_other, place-set_same}
pub use Rattle.nr_lifting.proofs.Imports.{place-zeros, place_of, place_past, refl, replicate, rules, set, subst, suc, sym, true}
pub use Rattle.nr_lifting.proofs.Imports.{w64, zero, ℕ, ◌%◌, ◌&&◌, ◌*◌, ◌+◌, ◌-◌, ◌/◌, ◌<◌, ◌==◌}
pub use Rattle.nr_lifting.proofs.Imports.{◌^◌, ◌||◌, ◌∙◌, ◌≡◌, ◌≢◌, ◌≤◌, ◌⊕◌}
pub use Rattle.nr_lifting.specs.{DoubledLanes.marked_count, Planes.no_block, inside.Lane.IsRotatedWord}
pub use Rattle.nr_lifting.specs.inside.Words.{AreDoubled, IsMask, IsRotated}
