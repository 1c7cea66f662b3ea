use Rattle.nr_ldpcenc.proofs.Common.{IsClearedTo, subst, ◌+◌, ◌*◌, refl, arith}
use Rattle.nr_ldpcenc.proofs.WrittenBitFacts.{cleared_more}
use Rattle.nr_ldpcenc.proofs.word_blocks.clear_from.Goals as goal

pub loop-i-init : goal.loop-i-init
loop-i-init c =
    cleared_more c.args.from c.args.from c.min-first.result _ c.args.bits.now.items c.args.bits.now.items c.put.new.self.items
    (omega arith)
    (record { zeros = λ t le lt. absurd (omega (arith, le, lt)); before = λ p lt. refl; long = refl })
    c.put.ensures.within c.put.ensures.before c.put.ensures.long (omega arith)

pub loop-i-preserved : goal.loop-i-preserved
loop-i-preserved c =
    let m = c.args.from + c.min-first.result + 64 * c.loop-i.i in
    let done : IsClearedTo m c.args.from c.loop-i.bits.items c.args.bits.now.items =
    subst (λ n. IsClearedTo n c.args.from c.loop-i.bits.items c.args.bits.now.items) (omega arith) c.loop-i.invariant in
    cleared_more c.args.from m c.min.result _ c.args.bits.now.items c.loop-i.bits.items c.put-in-loop-i.new.self.items
    (omega (arith, c.min.ensures))
    done c.put-in-loop-i.ensures.within c.put-in-loop-i.ensures.before c.put-in-loop-i.ensures.long (omega arith)
