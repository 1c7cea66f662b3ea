-- The names that several proof files of this crate cite, passed on from one place. Declares nothing.
pub use Rattle.std.proofs.Common.{All, Bool, List, [], ap, arith, cond, false, get_or, inl, inr, length, min, not, refl, set, sym}
pub use Rattle.std.proofs.Common.{true, ℕ, ⊎_elim, ◌&&◌, ◌*◌, ◌++◌, ◌+◌, ◌-◌, ◌<◌, ◌==◌, ◌^◌}
pub use Rattle.std.proofs.Common.{◌||◌, ◌∙◌, ◌≡◌, ◌≤◌, ◌⊎◌}
pub use Rattle.std.proofs.lemmas.Bool.{and_from, and_parts, cases_eq, cases_lt, eq-eqb, eqb-true, false_from_ne_true, not-false}
pub use Rattle.std.proofs.{Math.Bool.or-false, lemmas.Bool.true≢false, lemmas.List.Elements.All-contains}
pub use Rattle.std.{proofs.lemmas.Bool.Decides.nat_tests, proofs.lemmas.Bool.Decides.same_from_decides, specs.Bool.beq}
pub use Rattle.std.proofs.lemmas.List.{get_or-set_other, get_or-set_same, get_or_past, length-set}
pub use Rattle.std.proofs.lemmas.List.Folds.{Any-from_list_any, list_any-append, list_any_at}
pub use Rattle.std.proofs.lemmas.List.FromFn.{fill_by_all, get_or-map-range_with_len, get_or-range_with_len}
pub use Rattle.std.proofs.lemmas.List.FromFn.{length-map-range_with_len, length-range_with_len}
pub use Rattle.std.specs.{Int.bit_at, Int.bit_not, Int.w64, List.Contains, List.list_any, List.range_with_len}
pub use Rattle.std.specs.Int.Bits.{and_lt, bit_and, bit_or, bit_xor, xor_lt}
pub use Rattle.std.specs.Prelude.{None, Option, Some, map}
pub use Rattle.nr_bitvec.specs.{Bit.bit, Bit.◌⊕◌, Marks.Marks, Marks.marked_bit, Marks.marks_with}
pub use Rattle.nr_harqbuf.specs.Marks.{differs_at, first_merged, marked_bits, record_by}
pub use Rattle.nr_harqbuf.specs.Record.{HasFirsts, HeardBits, Hearing, differs, first_at, is_heard, record_of}
unfoldable pub use Rattle.nr_harqbuf.specs.{Marks.merge_of, Record.clashes, Record.first_heard, Record.with_hearing}
