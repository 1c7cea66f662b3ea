use Rattle.nr_ldpcenc.proofs.{Common.arith, WrittenBitFacts.copied_more}
use Rattle.nr_ldpcenc.proofs.word.copy_bits.Goals as goal

pub loop-i-preserved : goal.loop-i-preserved
loop-i-preserved c =
    copied_more c.len-count.result c.loop-i.i c.window.result c.min.result c.args.from.now.items c.args.bits.now.items
    c.loop-i.bits.items c.put.new.self.items c.min.ensures (omega arith)
    c.loop-i.invariant c.window.ensures c.put.ensures.within c.put.ensures.before c.put.ensures.after c.put.ensures.long
