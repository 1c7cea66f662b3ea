use Rattle.nr_job.proofs.Common.{arith, ◌≡◌, true, codes, found_of, rows_of}
use Rattle.nr_job.proofs.JobLemmas.{number_from, number-same, no_number}
use Rattle.nr_job.proofs.command_line.options.rate_of.Goals.{in_default-via-in-Some+else-is_rate, in_default-via-in_default}
use Rattle.nr_job.proofs.command_line.options.rate_of.Goals as goal

pub returns-in-Some-clause-rate : goal.returns-in-Some-clause-rate
returns-in-Some-clause-rate c =
    number_from (found_of c.args.matches.now) (codes "rate") c.in-Some.rate c.in-Some.ensures.none
    (λ t is. (c.in-Some.ensures.value t is).0)

-- A given rate that is in its range is the one that is read, and it is accepted, so this branch is not reached.
pub returns-in_default-clause-given : goal.returns-in_default-clause-given
returns-in_default-clause-given c = λ rate least most given.
    let found = found_of c.args.matches.now in
    elim c.in_default.branch [
      | in_default-via-in-Some+else-is_rate w ↦
          let read = number_from found (codes "rate") w.in-Some.rate w.in-Some.ensures.none
          (λ t is. (w.in-Some.ensures.value t is).0) in
          let same : w.in-Some.rate ≡ rate = number-same (codes "rate") (rows_of found) w.in-Some.rate rate read given in
          let in_range : w.is_rate.result ≡ true = w.is_rate.ensures.1 (omega (arith, same), omega (arith, same)) in
          cc
      | in_default-via-in_default w ↦ absurd (no_number found (codes "rate") rate (omega arith)
          (λ t is word. let fault = w.in_default.ensures.value t is in fault.1.0 word) given)
    ]
