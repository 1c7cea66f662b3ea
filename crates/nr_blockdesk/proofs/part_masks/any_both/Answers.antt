use Rattle.nr_blockdesk.proofs.Common.{◌≡◌, ℕ, ◌+◌, ◌-◌, ◌<◌, ◌*◌, ◌==◌, ◌&&◌, inl, inr, sym, ap}
use Rattle.nr_blockdesk.proofs.Common.{◌∙◌, arith, bit_at-zero}
use Rattle.nr_blockdesk.proofs.Common.{cases_lt, marks_in, bit}
use Rattle.nr_blockdesk.specs.inside.PartMasks.{is_listed_both}
use Rattle.nr_harqbuf.proofs.MarkWordFacts.{on, on-and}
use Rattle.nr_blockdesk.proofs.part_masks.any_both.Goals as goal

-- a word in which no position is told both bits
pub loop-i-preserved : goal.loop-i-preserved
loop-i-preserved c = λ j below. elim (cases_lt j (64 * c.loop-i.i)) [
  | inl before ↦ c.loop-i.invariant j before
  | inr past ↦
      let d : ℕ = j - 64 * c.loop-i.i in
      let few : d < 64 = omega (arith, below, past) in
      let at : c.args.position + j ≡ c.args.position + 64 * c.loop-i.i + d = omega (arith, past) in
      let there : ℕ = c.args.position + 64 * c.loop-i.i + d in
      let told = c.args.told.now in
      ap (is_listed_both (marks_in told)) at
      ∙ sym (ap (λ a. a && bit told.value.items there) (c.window.ensures d few))
      ∙ sym (ap (λ a. on c.window.result d && a) (c.window-in-loop-i.ensures d few))
      ∙ sym (on-and c.window.result c.window-in-loop-i.result d)
      ∙ ap (λ w. on w d) c.if-window-ne0.false ∙ ap (λ b. b == 1) (bit_at-zero d)
]

pub returns : goal.returns
returns c = λ none j low. c.loop-i.invariant j (omega (arith, low, c.loop-i-test.false, c.div_ceil-i-end.ensures))
