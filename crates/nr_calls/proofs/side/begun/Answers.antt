use Rattle.std.proofs.Common.{◌<◌, ◌∙◌, ◌∷◌, [], ℕ, List, ap, arith, get_or, length}
use Rattle.std.proofs.Common.{length-append, map, subst, sym, Vec, Global}
use Rattle.std.proofs.lemmas.List.{length-map, map-append}
use Rattle.nr_ldpcenc.specs.Codeword.{filler}
use Rattle.nr_segment.specs.Plan.{Numbers}
use Rattle.nr_blockdesk.specs.Slices.{IsBetween}
use Rattle.nr_calls.specs.inside.Batches.{AreFillers}
use Rattle.nr_calls.proofs.BatchFacts.{each-more}
use Rattle.nr_calls.proofs.side.begun.Goals as goal

abbrev items : Vec ℕ Global → List ℕ
items words = words.items

-- The words of one more code block have its fillers, and so have those of the blocks before.
pub loop-preserved : goal.loop-preserved
loop-preserved c =
    let before = c.loop.known.items in
    record {
      counted = ap length c.in_ok-push.ensures.items ∙ grind (arith, length-append, c.loop.invariant.counted);
      each =
          each-more (AreFillers c.plan-plan.result.now) (map items before) _ c.loop.counter c.in_ok-fillers.field-0.items []
          (length-map before items ∙ c.loop.invariant.counted)
          (ap (map items) c.in_ok-push.ensures.items ∙ map-append items before (c.in_ok-fillers.field-0 ∷ []))
          c.in_ok-fillers.ensures c.loop.invariant.each;
    }

-- the words have the fillers, which is what is known before any reception
pub returns-clause-between : goal.returns-clause-between
returns-clause-between c = λ j short r block.
    let link = c.args.link.now in
    let same = c.plan-plan.ensures.numbers in
    let inside : r < c.loop.counter = omega
    (arith, block, c.loop-test.false, c.loop.auto.counter-end, ap (λ (n : Numbers). n.c) same) in
    let are : AreFillers c.plan-plan.result.now (get_or (map items c.loop.known.items) r []) = c.loop.invariant.each r inside in
    subst (IsBetween link [] r)
    (λ i p. (ap (λ (n : Numbers). filler n.kdash n.k p) (sym same) ∙ sym (are.each j p short)) i)
    (c.fillers_are_between.ensures link r c.is_sound.ensures block)
