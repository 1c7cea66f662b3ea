-- The bits are read from the last one to the first.
use Rattle.nr_ratematch.proofs.{Common.arith, MaskWordFacts.word_of-end, MaskWordFacts.word_of-next, MaskWordFacts.word_of-room}
use Rattle.nr_bitvec.proofs.NumberFacts.{from_bool-most}
use Rattle.nr_ratematch.proofs.mask.word_of.Goals as goal

pub loop-at-init : goal.loop-at-init
loop-at-init c = record { inside = omega arith; so_far = word_of-end c.args.bits.now }

pub overflow_mul-word : goal.overflow_mul-word
overflow_mul-word c = grind (arith, word_of-room)

pub overflow_add-word : goal.overflow_add-word
overflow_add-word c = grind (arith, word_of-room, from_bool-most)

pub loop-at-preserved : goal.loop-at-preserved
loop-at-preserved c = record {
  inside = omega arith;
  so_far = word_of-next c.args.bits.now c.loop-at.at c.loop-at.word c.from.result
      (omega arith) c.loop-at.invariant.inside c.loop-at.invariant.so_far c.from.ensures;
}
