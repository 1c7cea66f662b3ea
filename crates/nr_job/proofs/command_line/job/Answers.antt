use Rattle.nr_job.proofs.{Common.arith, Common.◌≡◌, Common.Some, Common.slice_get, JobLemmas.unasked}
use Rattle.std.{proofs.Common.map, proofs.lemmas.Grind.common_steps, specs.String.string_bytes}
use Rattle.nr_job.proofs.command_line.job.Goals as goal

pub returns-in_default-as_str-clause-asked : goal.returns-in_default-as_str-clause-asked
returns-in_default-as_str-clause-asked c = λ asked taken job.
    let first : slice_get (map string_bytes c.args.words.now) 0 ≡ Some c.as_str.result.now = grind (arith, common_steps) in
    let not = c.in_default-as_str in
    absurd (unasked _ asked _ first not.not-cut not.not-check not.not-send not.not-run not.not-audit job)
