use Rattle.nr_drawing.proofs.Common.{ap, arith, cases_eq, from_bool, get_or-set_other, get_or-set_same, inl, inr}
use Rattle.nr_drawing.proofs.Common.{length-set, nat_lt, ◌∙◌, ◌≡◌, slice_index}
use Rattle.rand_pcg.specs.{Lcg.increment_of, Lcg.next_state, Pcg.multiplier_64, Pcg.output_xsh_rr}
use Rattle.nr_drawing.proofs.states.draw_marks.Goals as goal

-- one more state
pub loop-j-preserved : goal.loop-j-preserved
loop-j-preserved c =
    let j = c.loop-j.j in
    let inv = c.loop-j.invariant in
    let now : slice_index c.loop-j.states j ≡ slice_index c.args.states.now j = inv.later j (omega arith) in
    let short = c.loop-j-test.true in
    let drawn : c.from.result ≡ from_bool (nat_lt (output_xsh_rr (slice_index c.args.states.now j)) c.args.threshold) =
    c.from.ensures ∙ ap (λ w. from_bool (nat_lt w c.args.threshold)) (c.word_of.ensures ∙ ap output_xsh_rr now) in
    record {
      drawn = λ k lt. elim (cases_eq k j) [
        | inl e ↦ rw e (get_or-set_same c.loop-j.marks j _ 0 (omega (arith, inv.long, short)) ∙ drawn)
        | inr ne ↦ get_or-set_other c.loop-j.marks j k _ 0 ne ∙ inv.drawn k (omega (arith, lt, ne))
      ];
      next = λ k lt. elim (cases_eq k j) [
        | inl e ↦ rw e (get_or-set_same c.loop-j.states j _ 0 (omega (arith, inv.all, short)) ∙ c.next_of.ensures
            ∙ ap (next_state 64 multiplier_64 (increment_of 64 54)) now)
        | inr ne ↦ get_or-set_other c.loop-j.states j k _ 0 ne ∙ inv.next k (omega (arith, lt, ne))
      ];
      later = λ k le. get_or-set_other c.loop-j.states j k _ 0 (omega (arith, le)) ∙ inv.later k (omega (arith, le));
      long = length-set c.loop-j.marks j _ ∙ inv.long;
      all = length-set c.loop-j.states j _ ∙ inv.all;
    }
