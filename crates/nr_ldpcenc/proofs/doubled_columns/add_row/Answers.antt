use Rattle.nr_ldpcenc.proofs.Common.{ℕ, ◌==◌, Bool, [], get_or, take, ap, ◌∙◌, arith, ◌⊕◌, place, Entry, col_bit}
use Rattle.nr_ldpcenc.proofs.Common.{sum_before}
use Rattle.nr_ldpcenc.proofs.EntrySumFacts.{sum-next, entry_bit, entry_bit-there, entry_bit-not, gained}
use Rattle.nr_ldpcenc.proofs.doubled_columns.add_row.Goals.{then-from-before, else-from-before}
use Rattle.nr_ldpcenc.proofs.doubled_columns.add_row.Goals as goal

-- The loop and the definition leave out the same entries, those past the column.
pub loop-entry-preserved : goal.loop-entry-preserved
loop-entry-preserved g c =
    let none : Entry = record { row = 0; col = 0; values = [] } in
    let z = g.row.Z in
    let set = c.args.set in
    let j = c.args.before in
    let i = c.loop-entry.entry-index in
    let e : Entry = get_or c.args.row.now i none in
    let w : ℕ → Bool = col_bit z c.args.cols.now in
    let next = λ (t : ℕ). sum-next set z w j t c.args.row.now i none (omega arith) in
    elim c.if-from-before.branch [
      | then-from-before b ↦ rw b.total-is (λ t lt.
          gained (place c.args.sum.now t == 1) _ _ (sum_before set z w j t (take i c.args.row.now)) _ (entry_bit set z w j t e)
          (c.loop-entry.invariant t lt)
          (b.add_entry.ensures t lt
          ∙ ap (λ y. (place c.loop-entry.total t == 1) ⊕ y) (entry_bit-there set z w j t e (omega arith))) (next t))
      | else-from-before b ↦ rw b.total-is (λ t lt.
          grind (arith, next t, entry_bit-not set z w j t e (omega arith), c.loop-entry.invariant t lt))
    ]
