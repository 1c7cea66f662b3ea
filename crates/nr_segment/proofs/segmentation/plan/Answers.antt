-- `smallest` and `set_of` find something, and the numbers are the plan's.
use Rattle.std.proofs.Common.{Some, ap, arith, sym, ◌∙◌}
use Rattle.nr_lifting.specs.Sizes.{set_index}
use Rattle.nr_segment.proofs.PlanLemmas.{planned-numbers, some-set, some-size, sound-plan}
use Rattle.nr_segment.proofs.segmentation.plan.Goals as goal

pub unwrap-size-requires : goal.unwrap-size-requires
unwrap-size-requires c = grind (arith, some-size)

pub unwrap-requires : goal.unwrap-requires
unwrap-requires c = grind (arith, some-set)

pub invariant_of-result : goal.invariant_of-result
invariant_of-result c =
    let planned =
    planned-numbers c.args.graph c.args.b _ _ _ c.from-z.result c.from-set.result c.if-b-lt-LEAST_BITS.false
    c.if-b-gt-MOST_BITS.false c.checks_and_blocks-l.ensures.checks c.checks_and_blocks-l.ensures.blocks
    c.if-total-c-ne0.false c.info_columns_of-kb.ensures
    (sym c.smallest.ensures ∙ c.unwrap-size.ensures ∙ ap Some (sym c.from-z.ensures))
    (ap set_index c.from-z.ensures ∙ sym c.set_of.ensures ∙ c.unwrap.ensures ∙ ap Some (sym c.from-set.ensures))
    in
    rw (c.info_cols.ensures, c.cols.ensures) record { planned = planned; sound = sound-plan c.args.graph c.args.b _ planned }
