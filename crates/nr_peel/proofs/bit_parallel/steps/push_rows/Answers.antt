use Rattle.nr_peel.proofs.Common.{◌++◌, ◌==◌, ◌∙◌, ℕ, true, refl, ap, sym, arith, bit_at, bit_at_ones, count_ones}
use Rattle.nr_peel.proofs.Common.{length-append, ones_marked, step_along, Fix}
use Rattle.nr_peel.proofs.StepFacts.{few_ones, short_steps, steps_count}
use Rattle.nr_peel.proofs.bit_parallel.steps.push_rows.Goals as goal

pub push_run-requires-clause-room : goal.push_run-requires-clause-room
push_run-requires-clause-room c =
    let marked = ones_marked 64 c.args.word (omega arith) in
    omega (arith, length-append {A = Fix}, steps_count (step_along c.args.first) (λ j. bit_at c.args.word j == 1) 64)

-- the first rows are marked
pub returns-then-low_bits-word-clause-steps : goal.returns-then-low_bits-word-clause-steps
returns-then-low_bits-word-clause-steps c =
    let word = c.args.word in
    let few = few_ones word (omega arith) in
    let bits = λ (j : ℕ). ap (λ w. bit_at w j == 1) (sym c.if-low_bits-word.true) in
    c.push_run.ensures.steps
    ∙ ap (λ xs. c.args.order.now.items ++ xs)
    (sym (short_steps (step_along c.args.first) (step_along c.args.first) (λ j. bit_at word j == 1) (λ _. true)
    (count_ones word) 64 few (λ _ _ _. refl)
    (λ j below. bits j ∙ ap (λ n. n == 1) (c.low_bits.ensures.low j below ∙ bit_at_ones 64 j (omega (arith, below, few))))
    (λ j past. bits j ∙ ap (λ n. n == 1) (c.low_bits.ensures.high j past))))
