use Rattle.nr_peel.proofs.Common.{◌≡◌, ◌&&◌, not, false, bit, ap, refl, sym, ◌∙◌, arith, cond, true, numbers}
use Rattle.nr_peel.proofs.{Common.lifted_checks, Common.row_in, Common.GainsInBlock, Common.some_lone_below, RowTallyFacts.row_fits}
use Rattle.nr_peel.proofs.TableGridFacts.{checks_sound}
use Rattle.nr_peel.proofs.SliceSweepFacts.{none_blocks, none_unless, swept_none, swept_then, visited_unless}
use Rattle.nr_peel.proofs.slices.sweep.Goals as goal

pub loop-i-init : goal.loop-i-init
loop-i-init c = record {
  swept = swept_none (lifted_checks c.args.lifted.now) c.args.known.now;
  none = λ no i lt. absurd (omega (arith, lt));
  long = refl;
  some_long = refl;
  more_long = refl;
}

pub visit_unless-requires-clause-columns : goal.visit_unless-requires-clause-columns
visit_unless-requires-clause-columns c =
    row_fits c.args.lifted.now c.row-row.result.now c.loop-i.i _ c.requires.table c.row-row.ensures
    (c.loop-i.invariant.long ∙ c.requires.long)

-- one more row of blocks
pub loop-i-preserved : goal.loop-i-preserved
loop-i-preserved c =
    let l = c.args.lifted.now in
    let ck = lifted_checks l in
    let i = c.loop-i.i in
    let old = c.loop-i.known in
    let inv = c.loop-i.invariant in
    let sound = checks_sound l.table.now l.plan.graph (numbers l.plan) c.requires.table l.plan.sound.size_some in
    let out = bit c.args.left_out.now i in
    let any : c.visit_unless.result ≡ (not out && some_lone_below old (ck.row i) ck.lanes) =
    c.visit_unless.ensures.any ∙ ap (λ es. not out && some_lone_below old (row_in l es) l.plan.z) c.row-row.ensures in
    let gains : out ≡ false → GainsInBlock (ck.row i) ck.lanes old c.visit_unless.new.known =
    rw c.row-row.ensures at c.visit_unless.ensures.gains in
    let here = visited_unless ck sound i (omega (arith, c.loop-i-test.true)) old c.visit_unless.new.known out
    c.visit_unless.result any
    gains c.visit_unless.ensures.still c.visit_unless.ensures.long in
    let is : c.if-visit_unless.again ≡ cond c.visit_unless.result true c.loop-i.again = elim c.if-visit_unless.branch [
      | goal.then-visit_unless w ↦ w.again-is ∙ ap (λ b. cond b true c.loop-i.again) (sym w.if-visit_unless.true)
      | goal.else-visit_unless w ↦ w.again-is ∙ ap (λ b. cond b true c.loop-i.again) (sym w.if-visit_unless.false)
    ] in
    record {
      swept = swept_then ck c.loop-i.again c.visit_unless.result c.if-visit_unless.again _ _ _ inv.swept here is;
      none = none_blocks ck (bit c.args.left_out.now) i c.loop-i.again c.visit_unless.result c.if-visit_unless.again
          c.args.known.now old inv.none inv.swept.still
          (none_unless ck i out c.visit_unless.result old any) is;
      long = c.visit_unless.ensures.long ∙ inv.long;
      some_long = c.visit_unless.ensures.some_long ∙ inv.some_long;
      more_long = c.visit_unless.ensures.more_long ∙ inv.more_long;
    }
