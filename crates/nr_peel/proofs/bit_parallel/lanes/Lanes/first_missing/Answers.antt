use Rattle.nr_peel.proofs.Common.{◌≡◌, ◌-◌, ◌&&◌, Bool, false, true, length, ap, arith, entries_in, row_of}
use Rattle.nr_peel.proofs.EntryTakeFacts.{known_before}
use Rattle.nr_peel.proofs.bit_parallel.lanes.Lanes.first_missing.Goals as goal

-- what is not a row of the lane
is_out : (k b n o : Bool) → k ≡ b → n ≡ (k && o) → n ≡ false → o ≡ true → b ≡ false
is_out k b n o same both none there = grind arith

-- a row that misses the last position misses no other
pub returns-clause-known : goal.returns-clause-known
returns-clause-known g c =
    let l = c.args.lifted.now in
    let long = ap length c.requires.row in
    let last = length (row_of (entries_in l.plan.graph l.table.now) c.args.i) - 1 in
    let read = rw (c.requires.lanes.known_lanes, c.from.ensures, c.rotation-rotation.ensures.value, c.requires.row)
    at c.lane-known.ensures.bits in
    rw c.requires.row
    (λ t below there. known_before l c.args.i last t (omega (arith, c.if-row-lt2.false, long)) c.args.self.now
    (omega (arith, long)) (c.requires.one t below there)
    (is_out _ _ _ _ (read t below) (c.common.ensures.bits t) (c.is_blank.ensures.0 c.if-not-is_blank.false t) there))
