use Rattle.nr_shifttable.proofs.Common.{◌≡◌, ◌+◌, nat_lt, ◌||◌, false, sym, arith, or_from, le-ltb, own_column_ok}
use Rattle.nr_shifttable.proofs.Common.{lacks_row, lone_zero, extension_ok, tail}
use Rattle.nr_shifttable.proofs.BoundedLoopFacts.{each_below-not}
use Rattle.nr_shifttable.proofs.accept.extension_ok.Goals as goal

-- This row has an entry, but not a lone zero at its own column, so it breaks what the definition wants of each row.
pub returns-then-not-lone_zero : goal.returns-then-not-lone_zero
unfolding extension_ok
returns-then-not-lone_zero c =
    let row = c.loop-row.row in
    let es = c.args.entries.now in
    let late : nat_lt row 4 ≡ false = le-ltb row 4 (omega arith) in
    let there : lacks_row es row ≡ false = cc in
    let wrong : lone_zero (c.args.n + row) (tail es row (c.args.n + 4)) ≡ false = cc in
    sym (each_below-not c.args.rows row (own_column_ok c.args.n es) (omega arith)
    (or_from (nat_lt row 4 || lacks_row es row) (lone_zero (c.args.n + row) (tail es row (c.args.n + 4)))
    (or_from (nat_lt row 4) (lacks_row es row) late there) wrong))
