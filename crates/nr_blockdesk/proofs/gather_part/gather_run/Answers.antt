use Rattle.nr_blockdesk.proofs.Common.{◌≡◌, ℕ, ◌+◌, ◌-◌, ◌*◌, ◌/◌, ◌<◌, ◌||◌, refl, ap, ◌∙◌}
use Rattle.nr_blockdesk.proofs.Common.{arith, marks_in, marks_with, says, bit_says, received_marks}
use Rattle.nr_blockdesk.proofs.SelectedBitFacts.{further, runs-more, word-tells}
use Rattle.nr_blockdesk.proofs.gather_part.gather_run.Goals as goal

-- first the bits up to a whole word, then the words
pub returns-clause-part_masks : goal.returns-clause-part_masks
returns-clause-part_masks c = λ both b rv places.
    let s = c.args.selected.now in
    let f = bit_says b rv (received_marks s) s.value.items in
    let n : ℕ = c.min-first.result in
    let rest : ℕ = c.args.count - n in
    let all : c.args.count ≡ n + rest = omega (arith, c.min-first.ensures) in
    let word : ℕ = (c.args.position + n) / 64 in
    let whole : (j : ℕ) → j < rest → 64 * word ≡ c.args.position + n = λ j few. omega (arith, few, c.min-first.ensures) in
    rw all (runs-more f c.args.k n rest (c.args.k + n) refl
    (says (marks_in c.args.part_masks.now))
    (says (marks_with c.merge_word-one_bit.new.heard.items c.merge_word-one_bit.new.value.items))
    (says (marks_in c.gather_words.new.part_masks))
    c.merge_word-one_bit.result c.gather_words.result
    (λ one p v. c.merge_word-one_bit.ensures.says one p v
    ∙ ap (λ t. says (marks_in c.args.part_masks.now) p v || t)
    (word-tells b rv (received_marks s) s.value.items c.args.k c.args.position n c.marks-now.result c.window-bits.result
    (λ j few. places j (omega (arith, all, few)))
    (λ j few. c.marks-now.ensures j (omega (arith, few, c.min-first.ensures)) (omega (arith, few, all, c.requires.selected)))
    (λ j few. c.window-bits.ensures j (omega (arith, few, c.min-first.ensures))) p v))
    (λ clean. c.gather_words.ensures.part_masks clean b rv
    (λ j few. further b rv c.args.k c.args.position c.args.count n rest places (omega (arith, all)) j few
    ∙ omega (arith, whole j few)))
    both)
