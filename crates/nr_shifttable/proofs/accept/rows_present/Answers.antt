use Rattle.nr_shifttable.proofs.Common.{◌≡◌, nat_lt, ◌==◌, not, false, true, length, sym, ap, ◌∙◌, arith, or_from}
use Rattle.nr_shifttable.proofs.Common.{le-ltb, is_present, lacks_row, rows_present}
use Rattle.nr_shifttable.proofs.BoundedLoopFacts.{each_below-not}
use Rattle.nr_shifttable.proofs.accept.rows_present.Goals as goal

pub returns-then-is_empty : goal.returns-then-is_empty
unfolding rows_present
returns-then-is_empty c =
    let late : nat_lt c.loop-row.row 4 ≡ false = le-ltb c.loop-row.row 4 (omega arith) in
    let lacks : lacks_row c.args.entries.now c.loop-row.row ≡ true = sym (ap (λ l. length l == 0) c.row.ensures.value)
    ∙ sym c.is_empty.ensures ∙ c.if-is_empty.true in
    sym (each_below-not c.args.rows c.loop-row.row (is_present c.args.entries.now) (omega arith)
    (or_from (nat_lt c.loop-row.row 4) (not (lacks_row c.args.entries.now c.loop-row.row)) late (ap not lacks)))
