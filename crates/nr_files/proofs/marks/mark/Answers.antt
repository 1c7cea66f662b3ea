use Rattle.nr_files.proofs.Common.{◌≡◌, ◌+◌, ◌*◌, min, arith, nat_tests}
use Rattle.nr_files.proofs.MarkRangeFacts.{marked-more, marked-none}
use Rattle.nr_files.proofs.marks.mark.Goals as goal

pub loop-i-init : goal.loop-i-init
loop-i-init c = grind (arith, marked-none)

pub loop-i-preserved : goal.loop-i-preserved
loop-i-preserved c =
    let start : c.args.from + min (64 * c.loop-i.i) c.saturating_sub-count.result ≡ c.args.from + 64 * c.loop-i.i = omega arith in
    record {
      long = grind arith;
      marked = marked-more c.args.marks.now.items c.loop-i.marks.items c.put.new.self.items c.args.from
          (c.args.from + 64 * c.loop-i.i) _ c.min.result (omega arith) (omega arith) (omega arith)
          c.put.ensures.within c.put.ensures.before c.put.ensures.after (rw start at c.loop-i.invariant.marked);
    }

pub returns-clause-marked : goal.returns-clause-marked
returns-clause-marked c = λ m. grind (arith, nat_tests, c.loop-i.invariant.marked m)
