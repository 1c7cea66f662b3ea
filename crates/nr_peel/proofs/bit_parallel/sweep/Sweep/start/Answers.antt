use Rattle.nr_peel.proofs.Common.{ℕ, ◌≤◌, ◌<◌, refl, ap, ◌∙◌, or_right, arith, bit, numbers, lifted_checks}
use Rattle.nr_peel.proofs.FillerFacts.{fillers_fit, fillers_there}
use Rattle.nr_peel.proofs.LearningFacts.{filled_settled, heard_held, started}
use Rattle.nr_peel.proofs.bit_parallel.sweep.Sweep.start.Goals as goal

pub give_fillers-requires : goal.give_fillers-requires
give_fillers-requires g c = (omega (arith, c.requires.words), (c.in_ok-sweep.ensures.blank.lanes, c.requires.begun.given))

-- a blank sweep is in order, and the fillers were given to it
pub go_on-requires : goal.go_on-requires
go_on-requires g c =
    let l = c.args.lifted.now in
    let held = heard_held (lifted_checks l) _ _ c.in_ok-sweep.sweep _ _ c.args.progress.now
    (c.in_ok-sweep.ensures.held _ _ c.requires.begun) c.give_fillers.ensures refl refl refl in
    let there = λ (p : ℕ) (low : l.plan.kdash ≤ p) (below : p < l.plan.k). c.give_fillers.ensures.known p
    ∙ or_right _ _ (ap (λ v. bit v p) c.requires.begun.given
    ∙ fillers_there (lifted_checks l) (numbers l.plan) p low below (fillers_fit l)) in
    (omega (arith, c.requires.words), (c.requires.table, (held, there)))

pub returns : goal.returns
returns g c =
    let e = c.go_on.ensures in
    let mid = c.give_fillers.new.self in
    let start = c.in_ok-sweep.ensures in
    let filled = rw (c.new-zeros.ensures, ← e.given) at c.give_fillers.ensures in
    let given = rw (← e.given) at c.requires.begun.given in
    let is = filled_settled _ _ _ e.held e.quiet e.counted c.requires.table _ mid _ c.requires.begun.order start
    filled given e.keeps in
    record { settled = is; kept = e.keeps.same; started = started _ _ _ _ mid start filled given e.keeps is }
