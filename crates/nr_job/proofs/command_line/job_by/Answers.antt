use Rattle.nr_job.proofs.Common.{List, sym, subst, IfOk-weaker, Row, IsGivenBy, IsJobOf, app_of}
use Rattle.nr_job.specs.Jobs.{IsTakenAs, faults_at}
use Rattle.nr_job.proofs.JobLemmas.{asked-name, faultless_from, job_free, named-job, rows_from, same-app, taken_from}
use Rattle.std.proofs.lemmas.Result.{err_from_is_err_and}
use Rattle.nr_job.proofs.command_line.job_by.Goals as goal

pub returns-in_err-matches-clause-asked : goal.returns-in_err-matches-clause-asked
unfolding IsTakenAs faults_at
returns-in_err-matches-clause-asked c = λ asked taken job.
    let fault = err_from_is_err_and c.from_residual.result c.from_residual.ensures.1 in
    let is = same-app _ c.args.name asked c.requires.app (asked-name c.args.name _ asked c.requires.first job) in
    rw (fault.1, fault.2)
    (taken_from _ (app_of asked) _ is (job_free asked) c.in_err-matches.ensures.taken c.in_err-matches.ensures.free taken)

pub returns-clause-job : goal.returns-clause-job
returns-clause-job c =
    IfOk-weaker c.given.result _ _
    (λ job given.
    let is = same-app _ c.args.name job c.requires.app given.0 in
    let rows = rows_from _ (app_of job) _ is (job_free job) c.in_ok-matches.matches c.in_ok-matches.ensures.matches in
    named-job c.args.name _ job c.requires.first given.0 (subst (λ (r : List Row). IsGivenBy r job) rows given.1))
    c.given.ensures.job

pub returns-clause-faultless : goal.returns-clause-faultless
unfolding faults_at
returns-clause-faultless c =
    IfOk-weaker c.given.result _ _
    (λ job given. faultless_from _ (app_of job) _ (same-app _ c.args.name job c.requires.app given.0)
    (job_free job) c.in_ok-matches.ensures.faultless)
    c.given.ensures.job

pub returns-clause-asked : goal.returns-clause-asked
unfolding IsJobOf
returns-clause-asked c = λ asked taken job.
    let name = asked-name c.args.name _ asked c.requires.first job in
    let is = same-app _ c.args.name asked c.requires.app name in
    let rows = rows_from _ (app_of asked) _ is (job_free asked) c.in_ok-matches.matches c.in_ok-matches.ensures.matches in
    c.given.ensures.asked asked name (subst (λ (r : List Row). IsGivenBy r asked) (sym rows) job.1)
