use Rattle.nr_peel.proofs.Common.{◌≡◌, ◌+◌, ◌*◌, inl, inr, sym, ap, ◌∙◌, arith, cases_lt, true≢false, bit}
use Rattle.nr_peel.proofs.Common.{slice}
use Rattle.nr_peel.proofs.slices.are_unheard.Goals as goal

-- one column more is blank, or is not left out
pub loop-i-preserved : goal.loop-i-preserved
loop-i-preserved c = λ k j u lt lane out. elim (cases_lt k c.loop-i.i) [
  | inl below ↦ c.loop-i.invariant k j u below lane out
  | inr past ↦
      let e : k ≡ c.loop-i.i = omega arith in
      elim c.else-left_out-i.branch [
        | goal.else-left_out-i-via-then-left_out-i+else-not-is_blank w ↦
            let blank = w.is_blank.ensures w.if-not-is_blank.false j u lane in
            ap (λ n. slice c.args.known.now j ((n + k) * c.args.lifted.now.plan.z + u)) (sym c.info_cols-parity.ensures)
            ∙ ap (λ n. slice c.args.known.now j ((c.info_cols-parity.result + n) * c.args.lifted.now.plan.z + u)) e ∙ blank
        | goal.else-left_out-i-via-else-left_out-i w ↦
            absurd (true≢false (sym out ∙ ap (bit c.args.left_out.now) e ∙ w.if-left_out-i.false))
      ]
]
