-- The names that several proof files of this crate cite, passed on from one place. Declares nothing.
pub use Rattle.std.proofs.Common.{Bool, List, [], ap, arith, drop, drop-drop, false, get_or, get_or-drop, get_or-set_other}
pub use Rattle.std.proofs.Common.{get_or-set_same, get_or-take, if◌then◌else◌, inl, inr, length, length-append, length-drop}
pub use Rattle.std.proofs.Common.{true≢false, zero, ℕ, ◌%◌, ◌&&◌, ◌*◌, ◌++◌, ◌+◌, ◌-◌, ◌/◌, ◌<◌}
pub use Rattle.std.proofs.Common.{◌==◌, ◌^◌, ◌||◌, ◌∙◌, ◌∷◌, ◌≡◌, ◌≢◌, ◌≤◌, ◌⊎◌}
pub use Rattle.std.proofs.lemmas.List.{get_or-append_right, get_or-replicate, get_or_append_left, get_or_default, get_or_past}
pub use Rattle.std.proofs.lemmas.Nat.Bits.{bit_at-lt, bit_at-zero, bit_at_above, bit_at_and, bit_at_cat_high, bit_at_cat_low}
pub use Rattle.std.proofs.Common.{length-set, length-take, max, min, refl, replicate, rules, set, suc, sym, take, true}
pub use Rattle.std.proofs.{Math.Nat.mod-eq_of_lt, lemmas.Bool.Decides.nat_tests, lemmas.Grind.common_steps}
pub use Rattle.std.proofs.lemmas.Bool.{cases_eq, cases_lt, eqb-true, false≢true, le-ltb, lt-ltb}
pub use Rattle.std.proofs.lemmas.List.{get_or_read, length-replicate, length_push, same_lists}
pub use Rattle.std.proofs.lemmas.List.FromFn.{get_or-map-range_with_len, length-map-range_with_len}
pub use Rattle.std.{proofs.lemmas.Nat.and_mask, proofs.lemmas.Nat.mod_below, proofs.lemmas.Nat.pow_pos, specs.Vec.vec_capacity}
pub use Rattle.std.proofs.lemmas.Nat.Bits.{bit_at_or, bit_at_xor, same_from_bits_below}
pub use Rattle.std.specs.Int.{bit_at, from_bool, to_le_bytes, w64}
pub use Rattle.std.specs.Int.RustNames.{bit_and, bit_or, bit_xor}
pub use Rattle.nr_bitvec.specs.inside.Packed.{Grows, HoldsOctets, IsPacked, Joins, Loads, Merges, followed, moved_place}
pub use Rattle.nr_bitvec.specs.{Bit.bit, BitList.BitList, BitList.bits_of, BitList.number_of, inside.Packed.octet_place}
pub use Rattle.nr_bitvec.specs.Packed.{IsClear, bits_of_words, place}
unfoldable pub use Rattle.nr_bitvec.specs.BitList.{low_first, octet_bits, octets_of}
