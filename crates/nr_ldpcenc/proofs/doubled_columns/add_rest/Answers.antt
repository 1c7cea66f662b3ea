use Rattle.nr_ldpcenc.proofs.Common.{ℕ, ◌==◌, Bool, [], get_or, take, ap, ◌∙◌, arith, ◌⊕◌, place, Entry, col_bit}
use Rattle.nr_ldpcenc.proofs.Common.{sum_between}
use Rattle.nr_ldpcenc.proofs.EntrySumFacts.{rest-next, rest_bit, rest_bit-there, rest_bit-before, rest_bit-after, gained, passed}
use Rattle.nr_ldpcenc.proofs.doubled_columns.add_rest.Goals.{else-from-col, else-from-col-via-then-from-col+else-col-before}
use Rattle.nr_ldpcenc.proofs.doubled_columns.add_rest.Goals.{then-from-col+then-col-before, else-from-col-via-else-from-col}
use Rattle.nr_ldpcenc.proofs.doubled_columns.add_rest.Goals as goal

-- What lies between the columns is the sum before the one and the sum before the other. So an entry before both cancels, and
-- one past both is in neither.
pub loop-entry-preserved : goal.loop-entry-preserved
loop-entry-preserved g c =
    let none : Entry = record { row = 0; col = 0; values = [] } in
    let z = g.row.Z in
    let set = c.args.set in
    let from = c.args.from in
    let j = c.args.before in
    let i = c.loop-entry.entry-index in
    let e : Entry = get_or c.args.row.now i none in
    let w : ℕ → Bool = col_bit z c.args.cols.now in
    let order = c.requires.order in
    let next = λ (t : ℕ). rest-next set z w from j t order c.args.row.now i none (omega arith) in
    elim c.if-from-col.branch [
      | then-from-col+then-col-before b ↦ rw b.sum-is (λ t lt.
          gained (place c.args.sum.now t == 1) _ _ (sum_between set z w from j t (take i c.args.row.now)) _
          (rest_bit set z w from j t order e) (c.loop-entry.invariant t lt)
          (b.add_entry.ensures t lt ∙ ap (λ y. (place c.loop-entry.sum t == 1) ⊕ y)
          (rest_bit-there set z w from j t order e (omega arith) (omega arith))) (next t))
      | else-from-col b ↦ rw b.sum-is (λ t lt.
          passed (place c.args.sum.now t == 1) _ (sum_between set z w from j t (take i c.args.row.now)) _
          (rest_bit set z w from j t order e) (c.loop-entry.invariant t lt) (next t) (elim b.else-from-col.branch [
            | else-from-col-via-then-from-col+else-col-before v ↦ rest_bit-after set z w from j t order e (omega arith)
            | else-from-col-via-else-from-col v ↦ rest_bit-before set z w from j t order e (omega arith)
          ]))
    ]
