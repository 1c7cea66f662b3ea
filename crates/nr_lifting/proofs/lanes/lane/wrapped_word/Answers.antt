use Rattle.nr_lifting.proofs.Names.{ap, arith, bit_at_mod, bit_at_shl_high, bit_at_shl_low, place, ◌-◌, ◌∙◌}
use Rattle.nr_lifting.proofs.lanes.lane.wrapped_word.Goals as goal

pub returns-then-up-start-lt64-clause-low : goal.returns-then-up-start-lt64-clause-low
returns-then-up-start-lt64-clause-low c = λ j below.
    bit_at_mod _ 64 j (omega (arith, below)) ∙ bit_at_shl_low _ (c.args.up - c.args.start) j (omega (arith, below))

pub returns-then-up-start-lt64-clause-high : goal.returns-then-up-start-lt64-clause-high
returns-then-up-start-lt64-clause-high c = λ j short above.
    bit_at_mod _ 64 j short
    ∙ bit_at_shl_high _ (c.args.up - c.args.start) j (omega (arith, above))
    ∙ c.window-then-up-start-lt64.ensures (j - (c.args.up - c.args.start)) (omega (arith, short))
    ∙ ap (place c.args.words.now) (omega (arith, above))
