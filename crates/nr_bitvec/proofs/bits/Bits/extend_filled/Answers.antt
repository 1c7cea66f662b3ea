use Rattle.nr_bitvec.proofs.Common.{◌≡◌, ◌+◌, ◌*◌, ◌/◌, ◌%◌, ◌++◌, ◌∙◌, take, drop, ap, arith}
use Rattle.nr_bitvec.proofs.RangeWordFacts.{range-more}
use Rattle.nr_bitvec.proofs.bits.Bits.extend_filled.Goals as goal

pub returns-clause-items : goal.returns-clause-items
returns-clause-items c =
    let all : 64 * (c.args.count / 64) + c.args.count % 64 ≡ c.args.count = omega arith in
    range-more c.args.self.now.items c.extend_words.new.self.items c.push_word.new.self.items c.args.from.now.items c.args.at
    (64 * (c.args.count / 64)) (c.args.count % 64) c.window.result (omega arith)
    (omega (arith, c.requires.inside)) c.window.ensures c.extend_words.ensures.items c.push_word.ensures.items
    ∙ ap (λ n. c.args.self.now.items ++ take n (drop c.args.at c.args.from.now.items)) all
