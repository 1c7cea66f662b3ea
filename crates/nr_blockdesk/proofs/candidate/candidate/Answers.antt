use Rattle.nr_blockdesk.proofs.Common.{◌≡◌, ℕ, ◌+◌, ◌*◌, ◌<◌, length, refl, sym, ap, ◌∙◌, arith}
use Rattle.nr_blockdesk.proofs.Common.{length-append, cases_lt, nat_tests, mul-le-mul_right, length-low_first, Peeling, numbers}
use Rattle.nr_blockdesk.proofs.{Common.known_bit, Common.peelers_of, EncodingFacts.read-more, ReceptionFacts.peeler-of}
use Rattle.nr_blockdesk.proofs.candidate.candidate.Goals as goal

-- a bit that is one of n blocks is in one of them
block-below : (r s k i n : ℕ) → r * s + k ≡ i → i < n * s → r < n
block-below r s k i n is below = grind (arith, nat_tests, cases_lt, mul-le-mul_right)

-- the next bits are those that their code block's peeler knows
pub loop-i-preserved : goal.loop-i-preserved
loop-i-preserved g c =
    let plan = c.args.plan.now in
    let n = c.loop-i.i in
    let r = c.loop-i.r in
    let word = c.bits_from-word.result.0 in
    let count = c.min-count.result in
    let inv = c.loop-i.invariant in
    let inside : r < length c.args.code_blocks.now = omega (
      arith,
      block-below _ _ _ _ plan.c inv.block (omega (arith, plan.sound.shared, c.requires.inside, c.loop-i-test.true)),
      c.requires.all,
    ) in
    let long : length c.push_word.new.self.items ≡ n + count =
    rw (c.push_word.ensures.items, length-append, inv.long, length-low_first count word) refl in
    record {
      long = long;
      below = omega (arith, c.min-count.ensures, c.loop-i-test.true);
      block = omega (arith, c.seen_from.ensures.same, inv.block);
      place = c.seen_from.ensures.within;
      room = omega (arith, c.push_word.ensures.room, inv.room);
      read = read-more (numbers plan) (peelers_of c.args.code_blocks.now) c.loop-i.list.items c.push_word.new.self.items n r
          c.loop-i.k count word inv.long inv.block inv.read
          (omega (arith, inv.place, c.min.ensures, c.min-count.ensures))
          (λ (j : ℕ) (d : Peeling) few. c.bits_from-word.ensures.bits j (omega (arith, few, c.min.ensures, c.min-count.ensures))
          ∙ ap (λ (p : Peeling). known_bit p (c.loop-i.k + j))
          (sym (peeler-of c.args.code_blocks.now r c.index-code_blocks-r.result d inside)))
          c.push_word.ensures.items;
    }

pub returns-clause-read : goal.returns-clause-read
returns-clause-read g c = λ i lt d. c.loop-i.invariant.read i (omega (arith, lt, c.loop-i-test.false)) d
