use Rattle.nr_blockdesk.proofs.Common.{◌≡◌, ℕ, ◌+◌, ◌-◌, ◌*◌, ◌≤◌, length, ap, ◌∙◌, arith, min}
use Rattle.nr_blockdesk.proofs.Common.{list_any, range_with_len, and_parts, marks_with, bit_says, received_marks}
use Rattle.nr_blockdesk.proofs.TurnFacts.{folded, turned_twice}
use Rattle.nr_blockdesk.proofs.selected.Selected.+fold_turns.Goals as goal

-- at most one turn
pub returns-then-count-turn-clause-said : goal.returns-then-count-turn-clause-said
returns-then-count-turn-clause-said t c = λ _ b rv again p v.
    let s = c.args.self.now in
    let all : min (length s.value.items) c.args.turn ≡ length s.value.items =
    omega (arith, c.len-count.ensures.value, c.if-count-turn.true) in
    ap (λ n. list_any (bit_says b rv (received_marks s) s.value.items p v) (range_with_len 0 n)) all

-- the second turn is put onto the first, after all others were put onto these two
pub returns-clause-said : goal.returns-clause-said
returns-clause-said t c = λ both b rv again p v.
    let old = c.args.self.now in
    let two = c.fold_turns-one_bit.new.self in
    let one = c.fold.new.self in
    let turn = c.args.turn in
    let parts = and_parts c.fold_turns-one_bit.result c.fold.result both in
    let rest : ℕ = c.min.result - turn in
    let first : min (length old.value.items) turn ≡ turn = omega (arith, c.len-count.ensures.value, c.if-count-turn.false) in
    let second : turn + rest ≡ min (length old.value.items) (2 * turn) =
    omega (arith, c.len-count.ensures.value, c.if-count-turn.false, c.min.ensures) in
    let apart : rest ≤ turn = omega (arith, c.min.ensures) in
    ap (λ n. list_any (bit_says b rv (received_marks one) one.value.items p v) (range_with_len 0 n)) first
    ∙ folded b rv (marks_with (received_marks two) two.value.items)
    (marks_with (received_marks one) one.value.items) turn rest apart again
    (c.fold.ensures.said parts.1) p v
    ∙ ap (λ n. list_any (bit_says b rv (received_marks two) two.value.items p v) (range_with_len 0 n)) second
    ∙ c.fold_turns-one_bit.ensures.said parts.0 b rv (turned_twice b rv turn again) p v
