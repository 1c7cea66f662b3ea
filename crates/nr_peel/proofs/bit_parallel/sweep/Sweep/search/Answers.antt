use Rattle.nr_peel.proofs.Common.{sym, ◌∙◌}
use Rattle.nr_peel.proofs.RoundInvariantFacts.{passes_early, passes_found, passes_last, passes_then}
use Rattle.nr_peel.proofs.bit_parallel.sweep.Sweep.search.Goals as goal

pub returns : goal.returns
returns g c =
    let all = c.rows-rows.ensures in
    passes_last (passes_then c.pass.ensures (rw all at c.pass-2.ensures)) (rw all at c.pass-3.ensures)

pub returns-then-pass : goal.returns-then-pass
returns-then-pass g c = passes_found (rw c.if-pass.true at c.pass.ensures)

pub returns-then-pass-2 : goal.returns-then-pass-2
returns-then-pass-2 g c = passes_found (rw c.if-pass-2.true at (passes_then c.pass.ensures c.pass-2.ensures))

-- if no steps are kept the first passes are enough
pub returns-then-not-progress : goal.returns-then-not-progress
returns-then-not-progress g c =
    let both = passes_then c.pass.ensures (rw (c.rows-rows.ensures, c.if-pass-2.false) at c.pass-2.ensures) in
    passes_early both (sym both.on.keeps.same ∙ c.if-not-progress.true)
