-- The names that several proof files of this crate cite, passed on from one place. Declares nothing.
pub use Rattle.std.proofs.Common.{Bool, List, Ok, [], ap, arith, cond, drop, false, filter, get_or, get_or-drop, get_or-take, inl}
pub use Rattle.std.proofs.Common.{inr, length, length-drop, map, min, nat_le, refl, rules, subst, suc, sym, take, true, zero, ℕ}
pub use Rattle.std.proofs.Common.{◌%◌, ◌*◌, ◌++◌, ◌+◌, ◌-◌, ◌/◌, ◌<◌, ◌==◌, ◌∙◌, ◌∷◌}
pub use Rattle.std.proofs.{Common.◌≡◌, Common.◌≤◌, Math.Nat.mod-eq_of_lt, Math.Nat.mod-lt, lemmas.Bool.cases_lt}
pub use Rattle.std.{proofs.lemmas.Bool.Decides.nat_tests, specs.Int.bit_at, specs.List.range_with_len, specs.Prelude.slice_index}
pub use Rattle.std.proofs.lemmas.List.{append-nil, get_or-append_right, get_or_append_left, length-append, map-id}
pub use Rattle.std.proofs.lemmas.List.FromFn.{get_or-map-range_with_len, length-map-range_with_len, map-range_with_len_more}
pub use Rattle.nr_bitvec.proofs.NumberFacts.{mod_once}
pub use Rattle.nr_graphpick.specs.Graph.{cols_of}
pub use Rattle.nr_ratematch.specs.Lengths.{is_scheduled, length_of, scheduled_count, share_of}
pub use Rattle.nr_ratematch.specs.{Selection.Circular, Selection.IsSent, inside.Cycles.index_of}
unfoldable pub use Rattle.nr_ratematch.specs.{Lengths.lengths_said, Marks.mask_word_of, Selection.place_of, Selection.selection_of}
