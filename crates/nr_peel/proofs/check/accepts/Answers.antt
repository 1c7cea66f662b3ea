use Rattle.nr_peel.proofs.{Common.arith, Common.bit, RowPlaceFacts.IsEntryAt, RowPlaceFacts.entry_at}
use Rattle.nr_peel.proofs.FixOrderFacts.{accepts_without, weighed_known, weighed_out, weighed_pos}
use Rattle.nr_peel.proofs.check.accepts.Goals.{After-place-pos}
use Rattle.nr_peel.proofs.check.accepts.Goals as goal

-- an entry's position is in the step's row
entry : (c : After-place-pos)
    → IsEntryAt c.args.lifted.now c.args.step.row c.args.step.lane c.loop-entry.entry-index c.place-pos.result
entry c =
    entry_at c.args.lifted.now c.args.step.row c.args.step.lane c.from-lane.result c.loop-entry.entry-index c.place-pos.result
    c.row-entry-items.result.now c.requires.table
    (rw c.from-row.ensures at c.row-entry-items.ensures) c.from-lane.ensures
    (omega (arith, c.from-lane.ensures, c.if-lane-z.false)) c.loop-entry-test.true c.place-pos.ensures

pub get-requires : goal.get-requires
get-requires c = omega (arith, (entry (goal.at.get-requires c).After-place-pos).inside, c.requires.long)

pub returns-then-not-get : goal.returns-then-not-get
returns-then-not-get c =
    let e = entry (goal.at.returns-then-not-get c).After-place-pos in
    let out = weighed_out (bit c.args.known.now.items) _ c.args.step.pos c.loop-entry.entry-index e.below in
    grind (arith, e.is, out, accepts_without)

pub loop-entry-preserved : goal.loop-entry-preserved
loop-entry-preserved c =
    let known = bit c.args.known.now.items in
    let e = entry (goal.at.loop-entry-preserved c).After-place-pos in
    let met = weighed_pos known _ c.args.step.pos c.loop-entry.there _ c.loop-entry.invariant e.below in
    let other = weighed_known known _ c.args.step.pos c.loop-entry.there _ c.loop-entry.invariant e.below in
    grind (arith, e.is, met, other)
