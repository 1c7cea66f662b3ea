-- The seats of interleaving: each index is given once.
use Rattle.nr_interleave.proofs.Common.{rules, ◌≡◌, ℕ, ◌+◌, ◌*◌, ◌/◌, ◌%◌, ◌<◌, ◌≤◌, sym}
use Rattle.nr_interleave.proofs.Common.{◌∙◌, ap, arith, nat_tests, div-add-mod, div-lt_iff_lt-mul, mod-lt, mul-le-mul_right}
use Rattle.nr_interleave.proofs.Common.{mul_comm, cases_lt, div-mul-add, mod-mul-add, mul-add-lt, seat_of}
use Rattle.nr_interleave.specs.Interleaving.{IsSeating}

-- qm times the quotient of a multiple of qm is that multiple
pub whole-is : (qm e : ℕ) → e % qm ≡ 0 → qm * (e / qm) ≡ e
whole-is qm e whole = let split = div-add-mod e qm in omega arith

-- the column of a place is a column of the matrix
pub column-below : (qm e m : ℕ) → 0 < qm → e % qm ≡ 0 → m < e → m / qm < e / qm
column-below qm e m some whole inside = search (rules, whole-is, div-lt_iff_lt-mul)

pub seat-inside : (qm e m : ℕ) → 0 < qm → e % qm ≡ 0 → m < e → seat_of qm e m < e
seat-inside qm e m some whole inside =
    let all = whole-is qm e whole in
    let column = column-below qm e m some whole inside in
    let row : m % qm < qm = mod-lt m some in
    let rows : (m % qm + 1) * (e / qm) ≤ qm * (e / qm) = mul-le-mul_right (e / qm) (omega arith) in
    omega arith

pub seat-apart : (qm e m n : ℕ) → 0 < qm → e % qm ≡ 0 → m < e → n < e → seat_of qm e m ≡ seat_of qm e n → m ≡ n
seat-apart qm e m n some whole inside other same =
    let column = column-below qm e m some whole inside in
    let column' = column-below qm e n some whole other in
    let rows : m % qm ≡ n % qm =
    sym (div-mul-add (m % qm) (e / qm) (m / qm) column)
    ∙ ap (λ i. i / (e / qm)) same
    ∙ div-mul-add (n % qm) (e / qm) (n / qm) column' in
    let columns : m / qm ≡ n / qm =
    sym (mod-mul-add (m % qm) (e / qm) (m / qm) column)
    ∙ ap (λ i. i % (e / qm)) same
    ∙ mod-mul-add (n % qm) (e / qm) (n / qm) column' in
    let places : m ≡ qm * (n / qm) + n % qm =
    sym (div-add-mod m qm) ∙ ap (λ j. qm * j + m % qm) columns ∙ ap (λ i. qm * (n / qm) + i) rows in
    places ∙ div-add-mod n qm

pub seating : (qm e : ℕ) → 0 < qm → e % qm ≡ 0 → IsSeating qm e
seating qm e some whole = grind (arith, seat-inside, seat-apart)

-- each index is given: it is the seat of a place
pub record IsGiven (qm e k : ℕ) : Type 0 where
  pub at : ℕ
  pub inside : at < e
  pub is : seat_of qm e at ≡ k

-- a matrix that has an index has a column
pub columns-some : (qm e k : ℕ) → e % qm ≡ 0 → k < e → 0 < e / qm
columns-some qm e k whole inside = grind (arith, nat_tests, cases_lt, whole-is)

pub row-below : (qm e k : ℕ) → e % qm ≡ 0 → k < e → k / (e / qm) < qm
row-below qm e k whole inside = search (rules, div-lt_iff_lt-mul, columns-some, whole-is)

-- the place of row k / columns in column k % columns
pub place-below : (qm e k : ℕ) → e % qm ≡ 0 → k < e → qm * (k % (e / qm)) + k / (e / qm) < e
place-below qm e k whole inside =
    let columns : ℕ = e / qm in
    let below : k % columns * qm + k / columns < qm * columns =
    mul-add-lt (k % columns) qm (k / columns) columns (mod-lt k (columns-some qm e k whole inside))
    (row-below qm e k whole inside) in
    omega (arith, below, whole-is qm e whole, mul_comm qm (k % columns))

pub seat-given : (qm e k : ℕ) → e % qm ≡ 0 → k < e → IsGiven qm e k
seat-given qm e k whole inside =
    let columns : ℕ = e / qm in
    let column : ℕ = k % columns in
    let row : ℕ = k / columns in
    let low : row < qm = row-below qm e k whole inside in
    let turned : qm * column + row ≡ column * qm + row = ap (λ n. n + row) (mul_comm qm column) in
    record {
      at = qm * column + row;
      inside = place-below qm e k whole inside;
      is = ap (λ m. (m % qm) * columns + m / qm) turned
          ∙ ap (λ r. r * columns + (column * qm + row) / qm) (mod-mul-add column qm row low)
          ∙ ap (λ c. row * columns + c) (div-mul-add column qm row low)
          ∙ ap (λ n. n + column) (mul_comm row columns)
          ∙ div-add-mod k columns;
    }
