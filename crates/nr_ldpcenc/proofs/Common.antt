-- The names that several proof files of this crate cite, passed on from one place. Declares nothing.
pub use Rattle.std.proofs.Common.{Bool, List, [], ap, arith, false, get_or, inl, inr, length, map, min, nat_le, nat_lt, refl, subst}
pub use Rattle.std.proofs.Common.{sym, take, ℕ, ◌%◌, ◌*◌, ◌+◌, ◌-◌, ◌<◌, ◌==◌, ◌∙◌, ◌∷◌}
pub use Rattle.std.proofs.{Common.◌≡◌, Common.◌≤◌, Math.Nat.mod-eq_of_lt, Math.Nat.mul-le-mul_right}
pub use Rattle.std.proofs.lemmas.{Bool.cases_lt, Bool.le-leb, Bool.le-ltb, Bool.lt-leb, Bool.lt-ltb, Bool.Decides.nat_tests}
pub use Rattle.std.proofs.lemmas.{List.get_or-take, List.length-replicate, List.length-take, Nat.mod_below}
pub use Rattle.std.specs.{List.filter, Prelude.Some}
pub use Rattle.nr_bitvec.{proofs.PlaceFacts.place-zeros, proofs.PlaceFacts.same_from_bits, specs.Bit.bit, specs.Bit.◌⊕◌}
pub use Rattle.nr_bitvec.specs.Packed.{place}
pub use Rattle.nr_graphpick.specs.Graph.{cols_of, info_cols_of, rows_of}
pub use Rattle.nr_lifting.specs.DoubledLanes.{is_set}
pub use Rattle.nr_segment.specs.CodeBlock.{numbers}
pub use Rattle.nr_shifttable.{proofs.EntryOrderFacts.cols_most, specs.Accepted.entries_in, specs.declared.entry.Entry.Entry}
pub use Rattle.nr_shifttable.specs.Tails.{HasShape, row_of, tail_of, value_in}
pub use Rattle.nr_ldpcenc.specs.{Codeword.IsWordOf, CoreRows.third_of, Parity.parity, Rows.block_checks, Rows.one_at}
pub use Rattle.nr_ldpcenc.specs.inside.Doubled.{AreTwice, col_bit}
pub use Rattle.nr_ldpcenc.specs.inside.Solving.{IsHead, IsSolvedTo, Lifting, core_sum, head_sum, lifting_of, row_ending, sum_before}
pub use Rattle.nr_ldpcenc.specs.inside.Words.{AgreeBelow, Copies, IsClearedTo, row_at, sum_between}
unfoldable pub use Rattle.nr_ldpcenc.specs.{Codeword.codeword, Codeword.word_of, inside.Solving.core_rotation}
