use Rattle.nr_interleave.proofs.Common.{◌≡◌, ◌+◌, ◌*◌, ◌==◌, inl, inr, slice_index_or, sym, ap, ◌∙◌, arith}
use Rattle.nr_interleave.proofs.{Common.bit_at, Common.cases_lt, Common.bit, UnspreadFacts.place-before, UnspreadFacts.place-behind}
use Rattle.nr_interleave.proofs.rows.put_columns.Goals as goal

-- Only places of this row from `column` on change, and no two rows share a place.
pub loop-row-preserved : goal.loop-row-preserved
loop-row-preserved g c =
    let columns = c.args.columns in
    let column = c.args.column in
    let past = c.args.column + c.args.wide in
    let row = c.loop-row.row in
    let new = c.put.new.self.items in
    record {
      put = λ r k low below. elim (cases_lt r row) [
        | inl before ↦
            c.put.ensures.before (r * columns + (column + k))
            (omega (arith, below, place-behind columns row r column past before c.requires.inside))
            ∙ c.loop-row.invariant.put r k before below
        | inr later ↦
            let here : r ≡ row = omega (arith, later, low) in
            ap (λ n. bit new (n * columns + (column + k))) here
            ∙ ap (bit new) (omega arith)
            ∙ c.put.ensures.within k below
            ∙ ap (λ n. bit_at (slice_index_or c.args.rows.now n 0) k == 1) (sym here)
      ];
      before = λ r k low below. elim (cases_lt row r) [
        | inl later ↦
            c.put.ensures.after (r * columns + k) (omega (arith, place-behind columns r row k past later c.requires.inside))
            ∙ c.loop-row.invariant.before r k low below
        | inr order ↦
            c.put.ensures.before (r * columns + k) (place-before columns r row k column order below)
            ∙ c.loop-row.invariant.before r k low below
      ];
      long = c.put.ensures.long ∙ c.loop-row.invariant.long;
      room = c.put.ensures.room ∙ c.loop-row.invariant.room;
    }
