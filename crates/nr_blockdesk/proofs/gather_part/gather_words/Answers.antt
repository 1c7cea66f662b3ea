use Rattle.nr_blockdesk.proofs.Common.{◌≡◌, ℕ, ◌+◌, ◌*◌, ◌/◌, ◌%◌, ◌≤◌, ◌||◌, refl, ap, ◌∙◌}
use Rattle.nr_blockdesk.proofs.Common.{arith, or-false, marks_in, marks_with, says, bit_says, received_marks}
use Rattle.nr_blockdesk.proofs.SelectedBitFacts.{further, runs-more, word-tells}
use Rattle.nr_blockdesk.proofs.gather_part.gather_words.Goals as goal

pub loop-i-init : goal.loop-i-init
loop-i-init c = grind (arith, or-false)

-- one whole word more is in the masks
pub loop-i-preserved : goal.loop-i-preserved
loop-i-preserved c =
    let s = c.args.selected.now in
    let n : ℕ = 64 * c.loop-i.i in
    let next : 64 * (c.loop-i.i + 1) ≡ n + 64 = omega arith in
    let more : n + 64 ≤ c.args.count = omega (arith, c.loop-i-test.true) in
    record {
      part_masks = λ both b rv places.
          let f = bit_says b rv (received_marks s) s.value.items in
          rw next (runs-more f c.args.k n 64 (c.args.k + n) refl
          (says (marks_in c.args.part_masks.now))
          (says (marks_in c.loop-i.part_masks))
          (says (marks_in c.gather_word-one_bit.new.part_masks))
          c.loop-i.one_bit c.gather_word-one_bit.result (λ one. c.loop-i.invariant.part_masks one b rv places)
          (λ clean p v. c.gather_word-one_bit.ensures.part_masks clean p v
          ∙ ap (λ t. says (marks_in c.loop-i.part_masks) p v || t)
          (word-tells b rv (received_marks s) s.value.items (c.args.k + n)
          (64 * (c.args.word + c.loop-i.i)) 64 c.marks-now.result c.window-bits.result
          (λ j few. further b rv c.args.k (64 * c.args.word) c.args.count n 64 places more j few ∙ omega arith)
          (λ j few. c.marks-now.ensures j few (omega (arith, few, more, c.requires.selected)))
          (λ j few. c.window-bits.ensures j few) p v))
          both);
      marks = c.gather_word-one_bit.ensures.marks ∙ c.loop-i.invariant.marks;
      bits = c.gather_word-one_bit.ensures.bits ∙ c.loop-i.invariant.bits;
    }

-- the bits that fill no word come last
pub returns-clause-part_masks : goal.returns-clause-part_masks
returns-clause-part_masks c = λ both b rv places.
    let s = c.args.selected.now in
    let f = bit_says b rv (received_marks s) s.value.items in
    let n : ℕ = 64 * (c.args.count / 64) in
    let rest : ℕ = c.args.count % 64 in
    let all : c.args.count ≡ n + rest = omega arith in
    let done : 64 * c.loop-i.i ≡ n = omega (arith, c.loop-i-test.false, c.loop-i.auto.i-end) in
    rw all (runs-more f c.args.k n rest (c.args.k + n) refl
    (says (marks_in c.args.part_masks.now))
    (says (marks_in c.loop-i.part_masks))
    (says (marks_with c.merge_word-one_bit.new.heard.items c.merge_word-one_bit.new.value.items))
    c.loop-i.one_bit c.merge_word-one_bit.result (λ one. rw done at (c.loop-i.invariant.part_masks one b rv places))
    (λ clean p v. c.merge_word-one_bit.ensures.says clean p v
    ∙ ap (λ t. says (marks_in c.loop-i.part_masks) p v || t)
    (word-tells b rv (received_marks s) s.value.items (c.args.k + n)
    (64 * (c.args.word + c.args.count / 64)) rest c.marks-now-2.result c.window-bits-2.result
    (λ j few. further b rv c.args.k (64 * c.args.word) c.args.count n rest places (omega (arith, all)) j few ∙ omega arith)
    (λ j few. c.marks-now-2.ensures j (omega (arith, few)) (omega (arith, few, all, c.requires.selected)))
    (λ j few. c.window-bits-2.ensures j (omega (arith, few))) p v))
    both)
