use Rattle.nr_peel.proofs.Common.{◌∙◌, ℕ, ◌≤◌, ap, arith, bit, fillers, length, lifted_checks, nat_tests, numbers}
use Rattle.nr_peel.proofs.Common.{Bool, Checks, Numbers, Within}
use Rattle.nr_peel.proofs.{FillerFacts.fillers_long, FillerFacts.fillers_within, GivenLaneFacts.none_given}
use Rattle.nr_peel.proofs.bit_parallel.lanes.Lanes.give_fillers.Goals as goal

-- where K' is K no position is a filler
no_filler : (c : Checks) (p : Numbers) (K : ℕ → Bool) → p.k ≤ p.kdash → Within (bit (fillers c p)) K
no_filler c p K all q set = absurd (grind (arith, nat_tests, fillers_within c p q set))

pub give-requires : goal.give-requires
give-requires g c =
    let l = c.args.lifted.now in
    (omega arith, (c.requires.lanes, ap length c.requires.marks ∙ fillers_long (lifted_checks l) (numbers l.plan)))

-- a plan with no filler
pub returns-else-lifted : goal.returns-else-lifted
returns-else-lifted g c =
    let l = c.args.lifted.now in
    none_given (lifted_checks l) _ _ _ c.requires.lanes
    (λ p set. no_filler (lifted_checks l) (numbers l.plan) (bit c.args.self.now.known.items) c.if-lifted.false p
    (rw c.requires.marks at set))
