use Rattle.nr_blockdesk.proofs.Common.{◌≡◌, ℕ, ◌+◌, ◌-◌, ◌<◌, inl, inr, ap, ◌∙◌, arith, cases_lt}
use Rattle.nr_blockdesk.proofs.Common.{marks_in, place_of}
use Rattle.nr_blockdesk.specs.inside.PartMasks.{is_listed_both}
use Rattle.nr_blockdesk.proofs.part_masks.row_has_both.Goals as goal

-- a run more
pub loop-at-preserved : goal.loop-at-preserved
loop-at-preserved c = record {
  none = λ j below. elim (cases_lt j c.loop-at.at) [
    | inl before ↦ c.loop-at.invariant.none j before
    | inr past ↦
        let d : ℕ = j - c.loop-at.at in
        let at : c.args.k + j ≡ c.args.k + c.loop-at.at + d = omega (arith, past) in
        let low : d < c.run-position.result.1 = omega (arith, below, past) in
        ap (λ k. is_listed_both (marks_in c.args.told.now) (place_of c.args.buffer.now c.args.rv k)) at
        ∙ ap (is_listed_both (marks_in c.args.told.now)) (c.run-position.ensures.places d low)
        ∙ c.any_both.ensures c.if-any_both.false d low
  ];
  below = omega (arith, c.run-position.ensures.most, c.loop-at-test.true);
}

pub returns : goal.returns
returns c = λ none j low. c.loop-at.invariant.none j (omega (arith, low, c.loop-at-test.false, c.loop-at.invariant.below))
