use Rattle.nr_blockdesk.proofs.Common.{◌≡◌, ℕ, ◌+◌, ◌≤◌, ◌||◌, true, refl, ap, ◌∙◌, arith, or-false}
use Rattle.nr_blockdesk.proofs.Common.{marks_in, marks_with}
use Rattle.nr_blockdesk.proofs.Common.{bit_says, received_marks}
use Rattle.nr_blockdesk.specs.inside.PartMasks.{is_listed}
use Rattle.nr_blockdesk.proofs.SelectedBitFacts.{further, runs-more, word-tells}
use Rattle.nr_blockdesk.proofs.ToldFacts.{word-told}
use Rattle.nr_blockdesk.proofs.gather_part.tell_run.Goals as goal

pub loop-at-init : goal.loop-at-init
loop-at-init c = grind (arith, or-false)

-- some bits more are told
pub loop-at-preserved : goal.loop-at-preserved
loop-at-preserved c =
    let s = c.args.selected.now in
    let inv = c.loop-at.invariant in
    let n : ℕ = c.loop-at.at in
    let some : ℕ = c.min-some.result in
    let more : n + some ≤ c.args.count = omega (arith, c.loop-at-test.true, c.min-some.ensures) in
    let few : some ≤ 64 = omega (arith, c.min-some.ensures) in
    let old = c.loop-at.told in
    let zeros = c.mark_word.new.list.items in
    let ones = c.mark_word-in-loop-at.new.list.items in
    record {
      told = λ b rv places.
          let f = bit_says b rv (received_marks s) s.value.items in
          runs-more f c.args.k n some (c.args.k + n) refl (is_listed (marks_in c.args.told.now)) (is_listed (marks_in old))
          (is_listed (marks_with zeros ones)) true true (λ _. inv.told b rv places)
          (λ _ p v. word-told old.heard.items old.value.items zeros ones (c.args.position + n) some c.marks-now.result
          c.window-bits.result few c.window-bits.type_inv c.mark_word.ensures.items c.mark_word-in-loop-at.ensures.items p v
          ∙ ap (λ t. is_listed (marks_in old) p v || t)
          (word-tells b rv (received_marks s) s.value.items (c.args.k + n) (c.args.position + n) some c.marks-now.result
          c.window-bits.result (λ j low. further b rv c.args.k c.args.position c.args.count n some places more j low)
          (λ j low. c.marks-now.ensures j (omega (arith, low, few)) (omega (arith, low, more, c.requires.selected)))
          (λ j low. c.window-bits.ensures j (omega (arith, low, few))) p v)) refl;
      below = more;
      long = c.mark_word.ensures.long ∙ inv.long;
    }

pub returns-clause-told : goal.returns-clause-told
returns-clause-told c = λ b rv places p v.
    let all : c.loop-at.at ≡ c.args.count = omega (arith, c.loop-at.invariant.below, c.loop-at-test.false) in
    rw all at (c.loop-at.invariant.told b rv places p v)
