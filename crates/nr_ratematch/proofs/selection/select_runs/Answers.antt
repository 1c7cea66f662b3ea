use Rattle.nr_ratematch.proofs.Common.{rules, ◌-◌, ◌≤◌, length, ap, ◌∙◌, arith, mod-eq_of_lt, mod-lt}
use Rattle.nr_ratematch.proofs.RunFacts.{IsRun, run-is, run_more, selected-none, turned-next}
use Rattle.nr_ratematch.proofs.selection.select_runs.Goals as goal

pub loop-k-init : goal.loop-k-init
loop-k-init c = search (rules, mod-eq_of_lt, selected-none, mod-lt)

pub extend_range-requires-clause-inside : goal.extend_range-requires-clause-inside
extend_range-requires-clause-inside c =
    let run : IsRun c.args.buffer.now c.bits.result.now.items c.args.rv c.loop-k.k c.min-count.result c.run-position.result.0 =
    run-is c.cycle-cycle.result c.args.buffer.now c.bits.result.now.items c.args.rv c.loop-k.at c.loop-k.k c.run-position.result.1
    c.min-count.result c.run-position.result.0
    (omega (arith, c.min-count.ensures, c.run-position.ensures.some, c.loop-k-test.true)) (omega (arith, c.min-count.ensures))
    c.cycle-cycle.ensures.places c.cycle-cycle.ensures.sent (ap length c.bits.ensures
    ∙ c.requires.long) c.loop-k.invariant.here c.run-position.ensures.inside c.run-position.ensures.places in
    run.inside

-- The places of a run follow one another in the word, so its bits are the next that are selected.
pub loop-k-preserved : goal.loop-k-preserved
loop-k-preserved c =
    let few : c.min-count.result ≤ c.args.e - c.loop-k.k = omega (arith, c.min-count.ensures) in
    record {
      taken = run_more c.args.buffer.now c.args.word.now c.args.bits.now.items c.loop-k.bits.items c.extend_range.new.self.items
          c.args.rv c.loop-k.k c.min-count.result c.run-position.result.0
          c.loop-k.invariant.taken (rw c.bits.ensures at c.extend_range.ensures.items)
          (run-is c.cycle-cycle.result c.args.buffer.now c.args.word.now c.args.rv c.loop-k.at c.loop-k.k c.run-position.result.1
          c.min-count.result c.run-position.result.0
          (omega (arith, c.min-count.ensures, c.run-position.ensures.some, c.loop-k-test.true)) (omega (arith, c.min-count.ensures))
          c.cycle-cycle.ensures.places c.cycle-cycle.ensures.sent c.requires.long c.loop-k.invariant.here
          c.run-position.ensures.inside c.run-position.ensures.places);
      room = omega (arith, c.extend_range.ensures.room, c.loop-k.invariant.room);
      here = turned-next c.cycle-cycle.result.first c.loop-k.k c.min-count.result c.cycle-cycle.result.count c.loop-k.at
          c.after-at.result c.loop-k.invariant.here c.after-at.ensures.value;
      inside = c.after-at.ensures.inside;
      below = omega (arith, few, c.loop-k-test.true);
    }
