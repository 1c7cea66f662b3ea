use Rattle.nr_peel.proofs.Common.{nat_tests, ℕ, refl, length, ◌<◌, ◌∙◌, ◌≡◌}
use Rattle.nr_peel.proofs.Common.{arith, cases_eq, get_or-set_other, get_or-set_same}
use Rattle.nr_peel.proofs.{Common.length-replicate, Common.length-set, Common.replicate, TableGridFacts.rows_short}
use Rattle.nr_peel.proofs.SeenLaneFacts.{all_next, all_rows, seen_none}
use Rattle.nr_lifting.proofs.DoubledLaneFacts.{cloned}
use Rattle.nr_peel.proofs.bit_parallel.seen_lanes.SeenLanes.new.Goals as goal

-- at first the lane has its words
pub loop-i-2-init : goal.loop-i-2-init
loop-i-2-init g c = grind (arith, length-replicate {A = ℕ} g.row.W 0)

-- the next row block's entries begin at the end of these
pub loop-i-preserved : goal.loop-i-preserved
loop-i-preserved g c = grind (
  arith,
  nat_tests,
  cases_eq,
  get_or-set_same,
  get_or-set_other,
  length-set,
  c.row.ensures,
  rows_short c.args.lifted.now.table.now c.args.lifted.now.plan.graph c.loop-i.i c.requires.table,
)

-- one more word of the lane of all rows
pub loop-i-2-preserved : goal.loop-i-2-preserved
loop-i-2-preserved g c =
    let inv = c.loop-i-2.invariant in
    let size = c.saturating_sub.ensures in
    let inside : c.loop-i-2.i < length c.loop-i-2.all = omega (arith, inv.long, c.loop-i-2-test.true) in
    record {
      words = all_next c.args.lifted.now.plan.z c.loop-i-2.i c.low_bits.result c.loop-i-2.all inside inv.words
          (rw size at c.low_bits.ensures.low) (rw size at c.low_bits.ensures.high);
      long = length-set c.loop-i-2.all c.loop-i-2.i c.low_bits.result ∙ inv.long;
    }

-- at first no row block has seen a position
pub returns : goal.returns
returns g c =
    let z = c.args.lifted.now.plan.z in
    let last : c.loop-i-2.i ≡ g.row.W = omega arith in
    let all =
    all_rows g.row.W z c.loop-i-2.all c.requires.short c.loop-i-2.invariant.long (rw last at c.loop-i-2.invariant.words) in
    let made =
    c.in_ok-lanes.ensures.items_if_clones_equal
    (λ y same. cloned (replicate g.row.W 0) y g.row.W same (length-replicate g.row.W 0)) in
    seen_none c.args.lifted.now _ _ made (grind (arith, c.rows-rows.ensures)) c.loop-i.invariant.first
    (λ i below. c.loop-i.invariant.starts i (omega (arith, c.rows-rows.ensures, below))) c.find_holders.ensures refl refl all
