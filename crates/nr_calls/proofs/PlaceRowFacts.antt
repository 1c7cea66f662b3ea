-- The places of a row of a matrix of qm rows that is read column by column: column * qm + row.
use Rattle.nr_calls.proofs.Common.{◌≡◌, ◌≢◌, ℕ, ◌+◌, ◌*◌, ◌/◌, ◌<◌, add-mul, ap, ◌∙◌, arith}
use Rattle.std.proofs.{Common.◌%◌, Math.Nat.lt_of_mul-lt-mul_left, Math.Nat.mod-add-div}
use Rattle.std.proofs.Math.Nat.{mul-lt-mul_of_pos_right}
use Rattle.std.proofs.lemmas.Nat.{mod-mul-add, mul-add-lt}

-- the place of the j-th column after one
pub place-after : (column row qm j : ℕ) → column * qm + row + j * qm ≡ (column + j) * qm + row
place-after column row qm j = omega (arith, add-mul column j qm)

-- it is within the matrix
pub place-inside : (column row qm count : ℕ) → count % qm ≡ 0 → column < count / qm → row < qm
    → column * qm + row < count
place-inside column row qm count whole below inside =
    omega (arith, mul-add-lt column qm row (count / qm) below inside, whole, mod-add-div count qm)

-- it is not that of an earlier column
pub place-other : (i column row qm j : ℕ) → 0 < qm → i < column → i * qm + row ≢ column * qm + row + j * qm
place-other i column row qm j some before = omega (arith, mul-lt-mul_of_pos_right before some)

-- nor one of another row
pub row-other : (m column row qm j : ℕ) → row < qm → m % qm ≢ row → m ≢ column * qm + row + j * qm
row-other m column row qm j inside other same =
    other (ap (λ n. n % qm) (same ∙ place-after column row qm j) ∙ mod-mul-add (column + j) qm row inside)

-- the column of a place
pub column-inside : (m qm count : ℕ) → count % qm ≡ 0 → m < count → m / qm < count / qm
column-inside m qm count whole below =
    lt_of_mul-lt-mul_left qm (omega (arith, mod-add-div m qm, mod-add-div count qm, whole, below))
