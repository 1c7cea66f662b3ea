use Rattle.nr_lifting.proofs.Names.{arith, cases_lt, inl, inr, length-set, place-set_same, place_past}
use Rattle.nr_lifting.proofs.Names.{ℕ, ◌*◌, ◌-◌, ◌∙◌}
use Rattle.nr_lifting.proofs.lanes.lane.clip.Goals as goal

-- a place past the lane is in the last word or past the words
pub returns-clause-clear : goal.returns-clause-clear
returns-clause-clear g c = λ t past.
    let j = t - 64 * (g.row.W - 1) in
    elim (cases_lt t (64 * g.row.W)) [
      | inl here ↦ place-set_same c.args.words.now (g.row.W - 1) c.low_bits.result t j (omega arith) (omega (arith, past))
          (omega (arith, here)) ∙ c.low_bits.ensures.high j (omega (arith, past))
      | inr out ↦ place_past _ t (omega (arith, out, length-set {A = ℕ}))
    ]
