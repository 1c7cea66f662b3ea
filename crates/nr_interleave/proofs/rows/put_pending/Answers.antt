use Rattle.nr_interleave.proofs.Common.{◌≡◌, ◌+◌, ◌-◌, ◌*◌, ◌/◌, ◌%◌, inl, inr, slice_index_or, sym, ap}
use Rattle.nr_interleave.proofs.{Common.◌∙◌, Common.arith, Common.cases_lt, Common.bit, PendingFacts.row-stays}
use Rattle.nr_interleave.proofs.UnspreadFacts.{place-behind}
use Rattle.nr_interleave.proofs.rows.put_pending.Goals as goal

-- This row's last bits were pending and are now put. Their places come after what the rows before have, and before all
-- rows to come.
pub loop-row-preserved : goal.loop-row-preserved
loop-row-preserved g c =
    let columns = c.args.columns in
    let column = c.args.column in
    let row = c.loop-row.row in
    let at = c.loop-row.row * c.args.columns + c.args.column in
    let old = c.loop-row.selected.items in
    let new = c.put.new.self.items in
    record {
      put = λ cell are r k low below. elim (cases_lt r row) [
        | inl done ↦
            c.put.ensures.before (r * columns + k)
            (omega (arith, below, c.requires.words, place-behind columns row r 0 column done c.requires.inside))
            ∙ c.loop-row.invariant.put cell are r k done below
        | inr later ↦
            let here : r ≡ row = omega (arith, later, low) in
            let is = c.loop-row.invariant.rest cell are row (omega arith) c.loop-row-test.true in
            let back : row * columns + k - row * columns ≡ k = omega arith in
            ap (λ n. bit new (n * columns + k)) here ∙ elim (cases_lt (row * columns + k) (64 * (at / 64))) [
              | inl whole ↦ c.put.ensures.before (row * columns + k) (omega (arith, whole))
                  ∙ is.put (row * columns + k) (omega arith) whole ∙ ap (cell row) back
              | inr waited ↦
                  let t = row * columns + k - 64 * (at / 64) in
                  let there : at - at % 64 + t ≡ row * columns + k = omega (arith, waited) in
                  let same : 64 * (at / 64) + t ≡ row * columns + k = omega (arith, waited) in
                  ap (bit new) (sym there) ∙ c.put.ensures.within t (omega (arith, below, waited))
                  ∙ is.waits t (omega (arith, same)) (omega (arith, below, waited))
                  ∙ ap (λ n. cell row (n - row * columns)) same ∙ ap (cell row) back
            ] ∙ ap (λ n. cell n k) (sym here)
      ];
      rest = λ cell are r past low.
          row-stays (cell r) (r * columns) (r * columns + column) (slice_index_or c.args.pending.now r 0) old new
          (c.loop-row.invariant.rest cell are r (omega (arith, past)) low)
          (λ p from below. c.put.ensures.after p
          (omega (arith, from, place-behind columns r row 0 column (omega (arith, past)) c.requires.inside)));
      long = c.put.ensures.long ∙ c.loop-row.invariant.long;
      room = c.put.ensures.room ∙ c.loop-row.invariant.room;
    }

pub returns-clause-put : goal.returns-clause-put
returns-clause-put g c = λ cell are r k low below.
    c.loop-row.invariant.put cell are r k (omega (arith, low, c.loop-row-test.false)) below
