-- The names that several proof files of this crate cite, passed on from one place. Declares nothing.
pub use Rattle.clap.specs.Words.{Row, found_of, rows_of, with_rule}
pub use Rattle.std.proofs.Common.{List, None, Some, ap, arith, codes, slice_get, subst, sym, true, ◌∙◌, ◌≡◌}
pub use Rattle.std.proofs.lemmas.Result.{IfOk-weaker}
pub use Rattle.nr_job.specs.{Commands.file_rule, Jobs.IsGivenBy, Jobs.app_of}
unfoldable pub use Rattle.nr_job.specs.Jobs.{IsJobOf}
