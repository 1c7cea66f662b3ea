use Rattle.nr_ratematch.proofs.Common.{◌+◌, ◌*◌, ◌/◌, ◌≤◌, append-nil, arith, sym, selection_of}
use Rattle.nr_ratematch.proofs.RunFacts.{turns_more}
use Rattle.nr_ratematch.proofs.selection.select_onto.Goals as goal

pub returns-then-e-eq0-clause-items : goal.returns-then-e-eq0-clause-items
unfolding selection_of
returns-then-e-eq0-clause-items c = rw c.if-e-eq0.true (sym (append-nil c.args.bits.now.items))

pub loop-k-init : goal.loop-k-init
loop-k-init c = record {
  taken = c.select_runs.ensures.items;
  room = c.select_runs.ensures.room;
  below = omega (arith, c.min-k.ensures);
  turned = λ more. omega (arith, c.min-k.ensures, more);
}

-- Bit k was selected already, whole turns of the cycle before, so up to 64 bits are copied from there.
pub loop-k-preserved : goal.loop-k-preserved
loop-k-preserved c =
    let cycle = c.cycle-cycle.result in
    let inv = c.loop-k.invariant in
    let so_far = inv.turned c.loop-k-test.true in
    let long : 64 ≤ cycle.count * (64 / cycle.count + 1) = omega (arith, cycle.some) in
    let few : c.min-count.result ≤ 64 = omega (arith, c.min-count.ensures) in
    record {
      taken = turns_more cycle c.args.buffer.now c.args.word.now c.args.bits.now.items c.loop-k.bits.items c.args.rv c.loop-k.k
          c.min-count.result (64 / cycle.count + 1) c.window-again.result
          c.cycle-cycle.ensures.places few long so_far inv.taken
          (rw c.len-begun.ensures.value at c.window-again.ensures) c.push_word.new.self.items c.push_word.ensures.items;
      room = omega (arith, c.push_word.ensures.room, inv.room);
      below = omega (arith, c.min-count.ensures, c.loop-k-test.true);
      turned = λ more. omega (arith, so_far);
    }
