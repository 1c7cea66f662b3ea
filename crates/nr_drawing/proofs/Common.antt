-- The names that several proof files of this crate cite, passed on from one place. Declares nothing.
pub use Rattle.std.proofs.Common.{Bool, List, [], ap, append_assoc, arith, false, get_or, get_or-set_other, get_or-set_same, inl}
pub use Rattle.std.proofs.Common.{inr, length, nat_lt, not, refl, slice_index, suc, sym, take, true, zero, zero-add}
pub use Rattle.std.proofs.Common.{if◌then◌else◌, ℕ, ◌%◌, ◌*◌, ◌++◌, ◌+◌, ◌-◌, ◌<◌, ◌==◌}
pub use Rattle.std.proofs.Common.{◌^◌, ◌∙◌, ◌∷◌, ◌≡◌, ◌≢◌, ◌≤◌}
pub use Rattle.std.{proofs.lemmas.Bool.cases_eq, proofs.lemmas.Bool.Decides.nat_tests, specs.Int.bit_at, specs.Int.from_bool}
pub use Rattle.std.proofs.lemmas.List.{append-nil, get_or-replicate, get_or_default, length-set}
pub use Rattle.std.specs.{Int.RustNames.bit_or, List.range_with_len, Prelude.count_by}
pub use Rattle.nr_bitvec.{proofs.PackedListFacts.length-low_first, proofs.WordDigitFacts.HasNone, specs.Bit.bit}
pub use Rattle.rand_pcg.specs.{Lcg.Lcg, Lcg.advance, Pcg.multiplier_64, Pcg.pcg32}
pub use Rattle.nr_drawing.specs.Drawing.{IsAmong, marks_drawn, places_drawn, seeded}
unfoldable pub use Rattle.nr_bitvec.specs.BitList.{low_first}
unfoldable pub use Rattle.rand_core.specs.Steps.{first_words}
