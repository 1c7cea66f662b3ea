use Rattle.nr_blockdesk.proofs.Common.{◌≡◌, ℕ, ◌+◌, ◌*◌, ◌/◌, ◌%◌, ◌<◌, refl, ap, ◌∙◌, arith}
use Rattle.nr_blockdesk.proofs.Common.{div-mul-add, mod-mul-add, seat_of}
use Rattle.std.proofs.lemmas.Nat.{mul-add-lt}
use Rattle.nr_blockdesk.proofs.place_cursors.PlaceCursors.next.Goals as goal

-- the bit in this row and this column
seat-at : (qm columns row column : ℕ) → row < qm → seat_of qm (qm * columns) (qm * column + row) ≡ row * columns + column
seat-at qm columns row column below =
    let turned : qm * column + row ≡ column * qm + row = omega arith in
    let whole : qm * columns ≡ columns * qm + 0 = omega arith in
    let in_row : (qm * column + row) % qm ≡ row = ap (λ m. m % qm) turned ∙ mod-mul-add column qm row below in
    let in_column : (qm * column + row) / qm ≡ column = ap (λ m. m / qm) turned ∙ div-mul-add column qm row below in
    let wide : qm * columns / qm ≡ columns = ap (λ m. m / qm) whole ∙ div-mul-add columns qm 0 (omega arith) in
    rw (in_row, in_column, wide) refl

-- the matrix has this column
column-inside : (qm columns row column : ℕ) → qm * column + row < qm * columns → column < columns
column-inside qm columns row column more = grind arith

pub overflow_add-k : goal.overflow_add-k
overflow_add-k c =
    let it = c.args.self.now in
    omega (
      arith,
      mul-add-lt it.row it.columns it.column c.args.qm c.requires.cursors.row
          (column-inside c.args.qm it.columns it.row it.column c.requires.more),
    )

pub returns-then-self-qm-clause-value : goal.returns-then-self-qm-clause-value
returns-then-self-qm-clause-value c = grind (arith, seat-at)

pub returns-else-self-qm-clause-value : goal.returns-else-self-qm-clause-value
returns-else-self-qm-clause-value c = grind (arith, seat-at)
