use Rattle.nr_bitvec.proofs.{Common.arith, Common.get_or_read, GrownWordFacts.grows-last, GrownWordFacts.grows-both}
use Rattle.nr_bitvec.proofs.words.push_bits.Goals as goal

pub returns-then-turn-count-gt64-clause-grows : goal.returns-then-turn-count-gt64-clause-grows
returns-then-turn-count-gt64-clause-grows c = grind (arith, grows-both, get_or_read)

pub returns-else-turn-count-gt64-clause-grows : goal.returns-else-turn-count-gt64-clause-grows
returns-else-turn-count-gt64-clause-grows c =
    grows-last c.args.len c.args.count c.args.bits c.args.words.now.items c.requires.packed c.requires.count c.requires.high
    c.index_mut.result.now
    (get_or_read c.args.words.now.items _ c.index_mut.result.now (omega (arith, c.if-turn-eq0.false, c.requires.packed.below))
    c.index_mut.ensures.value 0) c.ranges.bits.fits (omega (arith, c.if-turn-eq0.false)) (omega (arith, c.if-turn-count-gt64.false))
