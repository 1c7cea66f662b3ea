-- The names that several proof files of this crate cite, passed on from one place. Declares nothing.
pub use Rattle.std.proofs.Common.{Bool, List, [], ap, arith, drop, false, get_or-drop, get_or-set_other, get_or-set_same}
pub use Rattle.std.proofs.Common.{get_or-take, inl, inr, length, length-drop, length-set, length-take, map, refl, rules, set}
pub use Rattle.std.proofs.Common.{slice_index_or, subst, sym, take, ℕ, ◌%◌, ◌*◌, ◌++◌, ◌+◌, ◌-◌, ◌/◌}
pub use Rattle.std.proofs.Common.{◌<◌, ◌==◌, ◌^◌, ◌∙◌, ◌∷◌, ◌≡◌, ◌≤◌}
pub use Rattle.std.proofs.Math.Nat.{div-add-mod, div-lt_iff_lt-mul, mod-lt, mul-le-mul_left, mul-le-mul_right, mul_comm}
pub use Rattle.std.proofs.lemmas.{Bool.cases_lt, Bool.Decides.nat_tests, List.append_assoc, List.take_all, Simd.below_from_Fits}
pub use Rattle.std.proofs.lemmas.List.FromFn.{get_or-map-range_with_len, length-map-range_with_len, map-range_with_len_more}
pub use Rattle.std.{proofs.lemmas.Nat.div-mul-add, proofs.lemmas.Nat.mod-mul-add, proofs.lemmas.Nat.mul-add-lt, specs.Int.bit_at}
pub use Rattle.std.specs.{Int.RustNames.bit_or, List.range_with_len}
pub use Rattle.nr_bitvec.proofs.BitFacts.{bit_at_mod, bit_at_shl_high, bit_at_shl_low, bit_at_shr}
pub use Rattle.nr_bitvec.{proofs.PlaceFacts.same_from_bits, proofs.RangeWordFacts.taken-more, specs.Bit.bit}
pub use Rattle.nr_interleave.specs.{Interleaving.seat_of, inside.Spreading.HasColumnBits}
pub use Rattle.nr_interleave.specs.inside.Unspreading.{ArePut, IsPut}
unfoldable pub use Rattle.nr_interleave.specs.{Interleaving.interleaving_of, inside.Unspreading.row_by_row}
