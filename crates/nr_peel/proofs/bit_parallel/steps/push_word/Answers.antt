use Rattle.nr_peel.proofs.Common.{◌≡◌, ◌+◌, ◌-◌, ◌/◌, ◌^◌, ◌∙◌, ap, length, refl, arith, length-append}
use Rattle.nr_peel.proofs.Common.{step_along, step_in, step_number, with_steps, Fix}
use Rattle.nr_peel.proofs.StepFacts.{parted_steps, whole_steps}
use Rattle.nr_peel.proofs.bit_parallel.steps.push_word.Goals.{After-low_bits}
use Rattle.nr_peel.proofs.bit_parallel.steps.push_word.Goals as goal

-- a word that is split: the rows whose positions come before the block's first, and those from it on
parted : (c : After-low_bits)
    → with_steps (with_steps c.args.order.now.items (step_along c.number_of-first.result) c.low_bits.result)
    (step_along (step_number c.args.block.row (c.args.start + (c.args.block.size - c.place-place.result)) c.args.block.first))
    (c.args.word / 2 ^ (c.args.block.size - c.place-place.result))
    ≡ with_steps c.args.order.now.items
    (λ j. step_in c.args.block.row c.args.block.first c.args.block.size c.args.block.rotation (c.args.start + j)) c.args.word
parted c =
    let b = c.args.block in
    parted_steps b.row b.first b.size b.rotation c.args.start (omega arith) (omega arith) (omega arith) (omega arith) c.args.word
    (omega arith) c.requires.rows c.args.order.now.items c.number_of-first.result _
    (b.size - c.place-place.result) c.low_bits.result (ap (λ p. b.size - p) c.place-place.ensures) c.if-ahead-lt64.true
    (rw c.place-place.ensures at c.number_of-first.ensures) refl c.low_bits.ensures.low c.low_bits.ensures.high

pub push_rows-requires-clause-room : goal.push_rows-requires-clause-room
push_rows-requires-clause-room c =
    omega (arith, c.requires.room, ap length (parted c), length-append {A = Fix})

pub push_rows-requires-then-ahead-lt64-clause-room : goal.push_rows-requires-then-ahead-lt64-clause-room
push_rows-requires-then-ahead-lt64-clause-room c =
    let whole = parted (goal.at.push_rows-requires-then-ahead-lt64-clause-room c).After-low_bits in
    rw (c.number_of-again.ensures, c.push_rows.ensures.steps, whole) (omega (arith, c.requires.room, c.push_rows.ensures.capacity))

pub returns-then-ahead-lt64-clause-steps : goal.returns-then-ahead-lt64-clause-steps
returns-then-ahead-lt64-clause-steps c =
    let whole = parted (goal.at.returns-then-ahead-lt64-clause-steps c).After-low_bits in
    c.push_rows-then-ahead-lt64.ensures.steps ∙ rw (c.number_of-again.ensures, c.push_rows.ensures.steps) whole

-- a word that is not

pub push_rows-requires-else-ahead-lt64-clause-room : goal.push_rows-requires-else-ahead-lt64-clause-room
push_rows-requires-else-ahead-lt64-clause-room c =
    let b = c.args.block in
    let far = rw c.place-place.ensures at c.if-ahead-lt64.false in
    let whole = whole_steps b.row b.first b.size b.rotation c.args.start (omega arith) (omega arith) (omega arith)
    (omega arith) c.args.word (omega arith) c.requires.rows c.args.order.now.items c.number_of-first.result
    (rw c.place-place.ensures at c.number_of-first.ensures) far in
    rw whole c.requires.room

pub returns-else-ahead-lt64-clause-steps : goal.returns-else-ahead-lt64-clause-steps
returns-else-ahead-lt64-clause-steps c =
    let b = c.args.block in
    let far = rw c.place-place.ensures at c.if-ahead-lt64.false in
    c.push_rows-else-ahead-lt64.ensures.steps
    ∙ whole_steps b.row b.first b.size b.rotation c.args.start (omega arith) (omega arith) (omega arith) (omega arith) c.args.word
    (omega arith) c.requires.rows c.args.order.now.items c.number_of-first.result
    (rw c.place-place.ensures at c.number_of-first.ensures) far
