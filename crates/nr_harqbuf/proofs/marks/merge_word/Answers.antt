use Rattle.nr_harqbuf.proofs.Common.{◌==◌, ap}
use Rattle.nr_harqbuf.proofs.MergedWordFacts.{agrees-quiet, kept_bits, merge-first, quiet-agrees, says_bits}
use Rattle.nr_harqbuf.proofs.marks.merge_word.Goals as goal

pub returns-clause-first : goal.returns-clause-first
returns-clause-first c =
    merge-first c.args.heard.now.items c.args.value.now.items c.args.at c.args.count c.window-before.result c.window-old.result
    c.args.now c.low_bits.result c.args.bits c.requires.count c.window-before.ensures c.window-old.ensures
    (λ j lt. ap (λ m. m == 1) (c.low_bits.ensures.low j lt))
    c.put.new.self.items c.put-2.new.self.items c.of-word.result.heard c.of-word.result.value c.of-word.ensures.first
    (record { within = c.put.ensures.within; before = c.put.ensures.before; after = c.put.ensures.after })
    (record { within = c.put-2.ensures.within; before = c.put-2.ensures.before; after = c.put-2.ensures.after })

pub returns-clause-agree : goal.returns-clause-agree
returns-clause-agree c = (
  λ clean. quiet-agrees c.args.heard.now.items c.args.value.now.items c.args.at c.args.count c.window-before.result
      c.window-old.result c.args.now c.low_bits.result c.args.bits c.requires.count c.window-before.ensures c.window-old.ensures
      (λ j lt. ap (λ m. m == 1) (c.low_bits.ensures.low j lt)) (c.of-word.ensures.agreed.0 clean),
  λ agree. c.of-word.ensures.agreed.1 (agrees-quiet c.args.heard.now.items c.args.value.now.items c.args.at c.args.count
      c.window-before.result c.window-old.result c.args.now c.low_bits.result c.args.bits c.requires.count
      c.window-before.ensures c.window-old.ensures (λ j lt. ap (λ m. m == 1) (c.low_bits.ensures.low j lt))
      (λ j past lt. ap (λ m. m == 1) (c.low_bits.ensures.high j past)) agree),
)

pub returns-clause-says : goal.returns-clause-says
returns-clause-says c = λ clean p b. says_bits _ _ _ _ _ _ b (returns-clause-first c p) ((returns-clause-agree c).0 clean p)

pub returns-clause-kept : goal.returns-clause-kept
returns-clause-kept c = λ p marked. kept_bits _ _ _ _ _ (returns-clause-first c p) marked
