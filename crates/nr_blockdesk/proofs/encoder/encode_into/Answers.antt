use Rattle.nr_blockdesk.proofs.Common.{◌≡◌, ℕ, ◌+◌, ◌-◌, ◌*◌, ◌/◌, ◌%◌, ◌<◌, ◌≤◌, min, drop}
use Rattle.nr_blockdesk.proofs.Common.{length, sym, ap, ◌∙◌, false, arith, get_or-drop, bit, block_checks, codeword}
use Rattle.nr_blockdesk.proofs.Common.{code_block, numbers, part_of, share}
use Rattle.nr_blockdesk.proofs.EncodingFacts.{begins-with, code-shared, k-fits, part-inside, same-more}
use Rattle.nr_ldpcenc.specs.Codeword.{word_of}
use Rattle.nr_blockdesk.proofs.encoder.encode_into.Goals as goal

-- 64 bits more of the code block's share are copied
pub loop-i-preserved : goal.loop-i-preserved
loop-i-preserved c =
    let inv = c.loop-i.invariant in
    let items = c.args.attached.now.items in
    let start = c.part-start.result in
    let at : ℕ = 64 * c.loop-i.i in
    record {
      long = c.put.ensures.long ∙ inv.long;
      same = same-more at (64 * (c.loop-i.i + 1)) (c.args.plan.now.kdash - c.args.plan.now.l) c.window.result 64
          (drop start items) c.loop-i.word c.put.new.self
          (omega arith) (omega (arith, c.loop-i-test.true)) inv.same
          (λ (t : ℕ) few _. c.window.ensures t few ∙ ap (bit items) (omega arith)
          ∙ sym (get_or-drop start items (at + t) false))
          c.put.ensures.within c.put.ensures.before;
    }

-- the whole share is copied, and the tail comes next
pub loop-j-init : goal.loop-j-init
loop-j-init c =
    let plan = c.args.plan.now in
    let items = c.args.attached.now.items in
    let r = c.args.r in
    let start = c.part-start.result in
    let inv = c.loop-i.invariant in
    let share-of : ℕ = plan.kdash - plan.l in
    let end = part-inside plan.c share-of r c.requires.block in
    let fits : part_of (numbers plan) r 0 + share (numbers plan) ≤ length items =
    omega (arith, end, plan.sound.shared, c.requires.whole) in
    let at : ℕ = 64 * (share-of / 64) in
    let copied = same-more at (at + 64) share-of c.window-2.result (share-of % 64) (drop start items) c.loop-i.word c.put-2.new.self
    (omega arith) (omega arith) (λ t below. inv.same t (omega (arith, below, c.loop-i-test.false)))
    (λ (t : ℕ) few _. c.window-2.ensures t few ∙ ap (bit items) (omega arith) ∙ sym (get_or-drop start items (at + t) false))
    c.put-2.ensures.within c.put-2.ensures.before in
    record {
      long = c.put-2.ensures.long ∙ inv.long;
      same = λ (q : ℕ) (below : q < min (share-of + 64 * 0) plan.k).
          let place : start + q ≡ part_of (numbers plan) r q = omega (arith, c.part-start.ensures.index) in
          copied q (omega (arith, below)) ∙ get_or-drop start items q false
          ∙ ap (bit items) place ∙ code-shared (numbers plan) items r q fits (omega (arith, below));
    }

pub put-requires-in-loop-j-clause-inside : goal.put-requires-in-loop-j-clause-inside
put-requires-in-loop-j-clause-inside c = grind (arith, k-fits)

-- one word more of the tail: CRC and fillers
pub loop-j-preserved : goal.loop-j-preserved
loop-j-preserved c =
    let plan = c.args.plan.now in
    let inv = c.loop-j.invariant in
    let target = code_block (numbers plan) c.args.attached.now.items c.args.r in
    record {
      long = c.put-in-loop-j.ensures.long ∙ inv.long;
      same = same-more (plan.kdash - plan.l + 64 * c.loop-j.j)
          (plan.kdash - plan.l + 64 * (c.loop-j.j + 1)) plan.k c.tail_word.result c.min-wide.result target c.loop-j.word
          c.put-in-loop-j.new.self (omega arith) (omega (arith, c.min-wide.ensures)) inv.same
          (λ t few low.
          let place : plan.kdash - plan.l + 64 * c.loop-j.j + t ≡ plan.kdash - plan.l + (64 * c.loop-j.j + t) = omega arith in
          rw place (c.tail_word.ensures t few (omega (arith, low))))
          c.put-in-loop-j.ensures.within c.put-in-loop-j.ensures.before;
    }

pub fill-requires-clause-long : goal.fill-requires-clause-long
fill-requires-clause-long c = c.loop-j.invariant.long

-- the word begins with the whole code block, so completing it gives the codeword
pub returns-clause-encoded : goal.returns-clause-encoded
unfolding codeword
returns-clause-encoded c =
    let plan = c.args.plan.now in
    let inv = c.loop-j.invariant in
    let target = code_block (numbers plan) c.args.attached.now.items c.args.r in
    let fits = k-fits plan.graph (numbers plan) plan.sound.columns in
    let long : length target ≡ plan.k =
    c.code_blocks_are_long.ensures.filled plan.graph plan.b
    (numbers plan) c.args.attached.now.items c.args.r plan.planned c.requires.whole c.requires.block in
    c.fill.ensures.completed
    ∙ ap (word_of (block_checks c.args.table.now plan.graph (numbers plan)))
    (begins-with c.loop-j.word target plan.k (omega (arith, fits, inv.long)) long
    (λ q below. inv.same q (omega (arith, below, c.loop-j-test.false, c.div_ceil-j-end.ensures))))
