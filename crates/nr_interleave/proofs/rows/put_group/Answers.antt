use Rattle.nr_interleave.proofs.Common.{◌≡◌, ◌+◌, ◌*◌, inl, inr, set, slice_index_or, sym, subst, ap, ◌∙◌}
use Rattle.nr_interleave.proofs.Common.{arith, get_or-set_other, get_or-set_same, length-set, cases_lt, IsPut}
use Rattle.nr_interleave.proofs.{PendingFacts.row-follows, PendingFacts.row-stays, UnspreadFacts.place-behind}
use Rattle.nr_interleave.proofs.rows.put_group.Goals as goal

-- This row has 64 columns more. What the rows before have in the list ends before the word that changes, and the rows
-- after begin past it.
pub loop-row-preserved : goal.loop-row-preserved
loop-row-preserved g c =
    let columns = c.args.columns in
    let column = c.args.column in
    let row = c.loop-row.row in
    let before = c.loop-row.pending in
    let waiting = c.put_behind.result in
    let old = c.loop-row.selected.items in
    let new = c.put_behind.new.selected.items in
    let follows = c.put_behind.ensures.put in
    record {
      put = λ cell reads are r low. elim (cases_lt r row) [
        | inl done ↦
            let at = r * columns + (column + 64) in
            let order = place-behind columns row r column (column + 64) done c.requires.inside in
            subst (λ w. IsPut (cell r) (r * columns) at w new)
            (sym (get_or-set_other before row r waiting 0 (omega (arith, done))))
            (row-stays (cell r) (r * columns) at (slice_index_or before r 0) old new
            (c.loop-row.invariant.put cell reads are r done)
            (λ p from below. follows.before p (omega (arith, below, order))))
        | inr later ↦
            let here : row ≡ r = omega (arith, later, low) in
            let is = c.loop-row.invariant.rest cell are row (omega arith) c.loop-row-test.true in
            let next = row-follows (cell row) (row * columns) (row * columns + column) (row * columns + (column + 64))
            (slice_index_or before row 0) (slice_index_or c.args.rows.now row 0) waiting old new
            (omega arith) (omega arith) is follows
            (λ k short. reads row k c.loop-row-test.true short ∙ ap (cell row) (omega arith)) in
            subst (λ r. IsPut (cell r) (r * columns) (r * columns + (column + 64))
            (slice_index_or (set before row waiting) r 0) new) here
            (subst (λ w. IsPut (cell row) (row * columns) (row * columns + (column + 64)) w new)
            (sym (get_or-set_same before row waiting 0 (omega (arith, c.loop-row-test.true, c.loop-row.invariant.words)))) next)
      ];
      rest = λ cell are r past low.
          let at = r * columns + column in
          let order = place-behind columns r row 0 (column + 64) (omega (arith, past)) c.requires.inside in
          subst (λ w. IsPut (cell r) (r * columns) at w new) (sym (get_or-set_other before row r waiting 0 (omega (arith, past))))
          (row-stays (cell r) (r * columns) at (slice_index_or before r 0) old new
          (c.loop-row.invariant.rest cell are r (omega (arith, past)) low)
          (λ p from below. follows.after p (omega (arith, from, order))));
      words = length-set before row waiting ∙ c.loop-row.invariant.words;
      long = c.put_behind.ensures.long ∙ c.loop-row.invariant.long;
      room = c.put_behind.ensures.room ∙ c.loop-row.invariant.room;
    }
