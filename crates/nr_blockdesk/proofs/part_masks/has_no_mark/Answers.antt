use Rattle.nr_blockdesk.proofs.Common.{nat_tests, ◌≡◌, ◌+◌, ◌-◌, ◌*◌, ◌==◌, inl, inr, sym, ap, ◌∙◌}
use Rattle.nr_blockdesk.proofs.Common.{arith, bit_at, cases_lt, get_or_past, bit_at-zero, bit}
use Rattle.nr_blockdesk.proofs.part_masks.has_no_mark.Goals as goal

pub loop-i-preserved : goal.loop-i-preserved
loop-i-preserved c = λ p below. elim (cases_lt p (64 * c.loop-i.i)) [
  | inl before ↦ c.loop-i.invariant p before
  | inr past ↦
      let at : p ≡ 64 * c.loop-i.i + (p - 64 * c.loop-i.i) = omega (arith, past) in
      ap (bit c.args.marks.now.heard.items) at
      ∙ sym (c.window.ensures (p - 64 * c.loop-i.i) (omega (arith, below, past)))
      ∙ ap (λ w. bit_at w (p - 64 * c.loop-i.i) == 1) c.if-window-ne0.false
      ∙ ap (λ b. b == 1) (bit_at-zero (p - 64 * c.loop-i.i))
]

pub returns : goal.returns
returns c = grind (arith, nat_tests, cases_lt, get_or_past)
