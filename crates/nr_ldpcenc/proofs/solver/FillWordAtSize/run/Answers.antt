use Rattle.nr_ldpcenc.proofs.Common.{◌≡◌, length, refl, arith, rows_of, numbers, entries_in}
use Rattle.nr_ldpcenc.proofs.CodewordFacts.{set_below, has_some, rows_four, completed_word, completed_is_word}
use Rattle.nr_ldpcenc.proofs.solver.FillWordAtSize.run.Goals as goal

pub solve_own-requires : goal.solve_own-requires
solve_own-requires g c =
    let plan = c.args.self.now.plan.now in
    let t = c.args.self.now.table.now in
    let some = has_some (length (entries_in plan.graph t)) c.requires.ready.1 in
    let shape = c.solve_core.ensures.table.shape plan.graph plan.set some
    (set_below plan.z plan.set plan.sound.set_is) in
    search (arith, shape, rows_four plan.graph)

-- No more than one word has these first bits and meets each row. This one does, since each parity column is solved.
pub returns : goal.returns
returns g c =
    let plan = c.args.self.now.plan.now in
    let t = c.args.self.now.table.now in
    let table = c.solve_core.ensures.table in
    let some = has_some (length (entries_in plan.graph t)) c.requires.ready.1 in
    let set = set_below plan.z plan.set plan.sound.set_is in
    let shape = table.shape plan.graph plan.set some set in
    let all : c.loop-i.i ≡ rows_of plan.graph = omega (arith, c.rows-i-end.ensures, c.loop-i.auto.i-end, rows_four plan.graph) in
    let solved = rw (all, ← c.requires.ready.0) at c.loop-i.invariant.solved in
    let kept = rw (← c.requires.ready.0, ← plan.sound.columns) at c.loop-i.invariant.same_below in
    let is = completed_word t plan.graph plan.b (numbers plan) shape plan.sound c.args.self.now.bits.now.items
    c.loop-i.bits.items c.requires.ready.2 c.loop-i.invariant.long kept solved in (
      is,
      completed_is_word t plan.graph plan.b (numbers plan) shape plan.sound c.args.self.now.bits.now.items c.loop-i.bits.items
          c.requires.ready.2 is,
      refl,
    )
