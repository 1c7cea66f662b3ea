use Rattle.std.proofs.Common.{◌≡◌, ◌≤◌, ◌*◌, ◌∙◌, ap, arith, inl, inr, length, length-append}
use Rattle.std.proofs.Math.Nat.{mul-le-mul_right}
use Rattle.std.proofs.lemmas.Bool.{cases_lt}
use Rattle.nr_graphpick.specs.Graph.{cols_of}
use Rattle.nr_ldpcenc.specs.Codeword.{filler}
use Rattle.nr_calls.proofs.BatchFacts.{fillers-past, info_cols-few, word-more}
use Rattle.nr_calls.proofs.side.fillers.Goals as goal

pub loop-p-preserved : goal.loop-p-preserved
loop-p-preserved c = record {
  long = ap length c.in_ok-push.ensures.items ∙ grind (arith, length-append, c.loop-p.invariant.long);
  each = λ j p short.
      word-more (filler c.args.plan.now.kdash c.args.plan.now.k) c.loop-p.known.items _ c.loop-p.p _ j c.loop-p.invariant.long
      c.in_ok-push.ensures.items (c.filler_word.ensures j short) (λ q lt. c.loop-p.invariant.each j q short lt) p;
}

-- The loop has written a word for each position of the codeword, and past the last one there is no filler.
pub returns : goal.returns
returns c =
    let plan = c.args.plan.now in
    let all : c.loop-p.p ≡ cols_of plan.graph * plan.z =
    let e : c.loop-p.p ≡ c.cols.result * plan.z = omega (arith, c.loop-p-test.false, c.loop-p.auto.p-end) in
    e ∙ ap (λ n. n * plan.z) c.cols.ensures in
    let inside : plan.k ≤ cols_of plan.graph * plan.z =
    omega (arith, plan.sound.columns, mul-le-mul_right plan.z (info_cols-few plan.graph)) in
    record {
      long = c.loop-p.invariant.long ∙ all;
      each = λ j p short. elim (cases_lt p c.loop-p.p) [
        | inl below ↦ c.loop-p.invariant.each j p short below
        | inr past ↦ fillers-past plan.kdash plan.k c.loop-p.p j p c.loop-p.known.items c.loop-p.invariant.long
            (omega (arith, inside, all)) (omega (arith, past))
      ];
    }
