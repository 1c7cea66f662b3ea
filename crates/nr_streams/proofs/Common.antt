-- The names that several proof files of this crate cite, passed on from one place. Declares nothing.
pub use Rattle.std.proofs.Common.{Bool, Err, List, None, Option, Some, [], ap, arith, drop, false, length, length-append}
pub use Rattle.std.proofs.Common.{length-drop, refl, suc, sym, take, true, zero, ℕ, ◌&&◌, ◌++◌, ◌+◌, ◌-◌, ◌<◌}
pub use Rattle.std.proofs.{Common.◌∙◌, Common.◌∷◌, Common.◌≡◌, Common.◌≤◌, lemmas.Bool.Decides.nat_tests}
pub use Rattle.std.{proofs.lemmas.List.length-take-le, specs.Str.Parse.digits_value}
pub use Rattle.nr_streams.specs.{Fields.to_last_mark, Sink.with_text}
unfoldable pub use Rattle.nr_streams.specs.Records.{records_left}
