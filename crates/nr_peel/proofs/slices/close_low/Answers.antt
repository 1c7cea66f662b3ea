use Rattle.nr_peel.proofs.Common.{rules, sym, ◌∙◌, numbers, set_below, bit, slice}
use Rattle.nr_peel.proofs.{ClosureFacts.closure_keeps, SliceSweepFacts.all_closed, SliceSweepFacts.low_closed}
use Rattle.nr_peel.proofs.slices.close_low.Goals as goal

pub invariant_of-lifted : goal.invariant_of-lifted
invariant_of-lifted c = search (rules, set_below)

pub returns-then-not-are_unheard-clause-kept : goal.returns-then-not-are_unheard-clause-kept
returns-then-not-are_unheard-clause-kept c = λ j short p h.
    all_closed c.args.table.now c.args.plan.now.graph (numbers c.args.plan.now) c.args.known.now c.sweep_all.new.known
    c.close_slices.new.known c.tables_are_sound.ensures c.args.plan.now.sound.size_some c.sweep_all.ensures.kept
    c.sweep_all.ensures.inside c.close_slices.ensures.closed j p short
    ∙ closure_keeps _ (slice c.args.known.now j) p h

pub returns-then-not-are_unheard-clause-inside : goal.returns-then-not-are_unheard-clause-inside
returns-then-not-are_unheard-clause-inside c = λ j short p h.
    sym (all_closed c.args.table.now c.args.plan.now.graph (numbers c.args.plan.now) c.args.known.now c.sweep_all.new.known
    c.close_slices.new.known c.tables_are_sound.ensures c.args.plan.now.sound.size_some c.sweep_all.ensures.kept
    c.sweep_all.ensures.inside c.close_slices.ensures.closed j p short) ∙ h

pub returns-then-not-are_unheard-clause-low : goal.returns-then-not-are_unheard-clause-low
returns-then-not-are_unheard-clause-low c = λ j p short low.
    all_closed c.args.table.now c.args.plan.now.graph (numbers c.args.plan.now) c.args.known.now c.sweep_all.new.known
    c.close_slices.new.known c.tables_are_sound.ensures c.args.plan.now.sound.size_some c.sweep_all.ensures.kept
    c.sweep_all.ensures.inside c.close_slices.ensures.closed j p short

pub returns-else-not-are_unheard-clause-low : goal.returns-else-not-are_unheard-clause-low
returns-else-not-are_unheard-clause-low c =
    low_closed c.args.table.now c.args.plan.now.graph (numbers c.args.plan.now) c.args.known.now c.sweep_all.new.known
    (bit c.unheard-left_out.result) c.tables_are_sound.ensures c.requires.there c.args.plan.now.sound.size_some
    (search (rules, set_below)) c.unheard-left_out.ensures c.sweep_all.ensures.kept c.sweep_all.ensures.inside
    c.sweep_all.ensures.none (c.are_unheard.ensures c.if-not-are_unheard.false)
