use Rattle.nr_drawing.proofs.Common.{arith, ◌≡◌}
use Rattle.nr_drawing.proofs.DrawnWordFacts.{gathered, gathers-more, gathers-none}
use Rattle.nr_drawing.proofs.draw_both.Goals as goal

pub loop-init : goal.loop-init
loop-init c =
    record { early = gathers-none c.args.threshold c.args.early.now; late = gathers-none c.args.threshold c.args.late.now }

pub loop-preserved : goal.loop-preserved
loop-preserved c = record {
  early = gathers-more _ _ _ _ _ _ _ _ c.next_word.ensures c.from.ensures c.loop.invariant.early;
  late = gathers-more _ _ _ _ _ _ _ _ c.next_word-in-loop.ensures c.from-in-loop.ensures c.loop.invariant.late;
}

pub returns-clause-early : goal.returns-clause-early
returns-clause-early c =
    let full : c.loop.counter ≡ 64 = omega arith in
    gathered _ _ _ _ _ _ (rw full at c.loop.invariant.early) c.wrapping_neg.type_inv c.wrapping_neg.ensures c.reversed.ensures

pub returns-clause-late : goal.returns-clause-late
returns-clause-late c =
    let full : c.loop.counter ≡ 64 = omega arith in
    gathered _ _ _ _ _ _ (rw full at c.loop.invariant.late) c.wrapping_neg-2.type_inv c.wrapping_neg-2.ensures c.reversed-2.ensures
