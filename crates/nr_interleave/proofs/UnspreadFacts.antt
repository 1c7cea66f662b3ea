-- Rows of a list that are put one after another.
use Rattle.nr_interleave.proofs.Common.{◌≡◌, ℕ, ◌+◌, ◌*◌, ◌/◌, ◌%◌, ◌<◌, ◌≤◌, Bool, false, List}
use Rattle.nr_interleave.proofs.Common.{[], ◌++◌, length, map, take, drop, sym, ap, ◌∙◌, arith, length-take, length-drop}
use Rattle.nr_interleave.proofs.Common.{get_or-take, get_or-drop, range_with_len, div-add-mod, mod-lt, mul_comm, mul-le-mul_right}
use Rattle.nr_interleave.proofs.Common.{length-map-range_with_len, get_or-map-range_with_len, div-mul-add, mod-mul-add}
use Rattle.nr_interleave.proofs.Common.{same_from_bits, bit, seat_of, interleaving_of, row_by_row}
use Rattle.nr_interleave.proofs.SeatFacts.{column-below, columns-some, row-below, seat-inside}
use Rattle.std.proofs.Common.{min}

-- a place of a row before another row's column
pub place-before : (columns r row k column : ℕ) → r ≤ row → k < column → r * columns + k < row * columns + column
place-before columns r row k column order below = grind (arith, mul-le-mul_right)

-- and after the columns of a row, one of a later row
pub place-behind : (columns r row k past : ℕ) → row < r → past ≤ columns → row * columns + past ≤ r * columns + k
place-behind columns r row k past order inside = grind (arith, mul-le-mul_right)

-- all rows
pub rows-are : (qm from count : ℕ) (bits xs : List Bool) → count % qm ≡ 0 → length xs ≡ count
    → ((r k : ℕ) → r < qm → k < count / qm → bit xs (r * (count / qm) + k) ≡ bit bits (from + (qm * k + r)))
    → xs ≡ row_by_row qm bits from count
unfolding row_by_row
rows-are qm from count bits xs whole long put =
    let columns : ℕ = count / qm in
    let f : ℕ → Bool = λ k. bit bits (from + (qm * (k % columns) + k / columns)) in
    let all : length (map f (range_with_len 0 count)) ≡ count = length-map-range_with_len f 0 count in
    same_from_bits xs (map f (range_with_len 0 count)) (omega (arith, long, all))
    (λ t below.
    let low : t < count = omega (arith, below, long) in
    let some : 0 < columns = columns-some qm count t whole low in
    let split : t ≡ t / columns * columns + t % columns = omega (arith, div-add-mod t columns, mul_comm (t / columns) columns) in
    ap (bit xs) split
    ∙ put (t / columns) (t % columns) (row-below qm count t whole low) (mod-lt t some)
    ∙ sym (get_or-map-range_with_len f 0 count t t false low (omega arith)))

-- the rows of interleaved bits are the bits that were interleaved
pub rows-unspread : (qm from count : ℕ) (bits : List Bool) → 0 < qm → count % qm ≡ 0 → from + count ≤ length bits
    → interleaving_of qm (row_by_row qm bits from count) ≡ take count (drop from bits)
unfolding interleaving_of row_by_row
rows-unspread qm from count bits some whole inside =
    let columns : ℕ = count / qm in
    let f : ℕ → Bool = λ k. bit bits (from + (qm * (k % columns) + k / columns)) in
    let xs : List Bool = map f (range_with_len 0 count) in
    let placed : ℕ → Bool = λ m. bit xs (seat_of qm (length xs) m) in
    let long : length xs ≡ count = length-map-range_with_len f 0 count in
    let out : length (map placed (range_with_len 0 (length xs))) ≡ length xs = length-map-range_with_len placed 0 (length xs) in
    let cut : length (take count (drop from bits)) ≡ min count (length (drop from bits)) = length-take count (drop from bits) in
    same_from_bits (map placed (range_with_len 0 (length xs))) (take count (drop from bits))
    (omega (arith, out, long, cut, length-drop from bits, inside))
    (λ t below.
    let low : t < count = omega (arith, below, out, long) in
    let column : t / qm < columns = column-below qm count t some whole low in
    let k : ℕ = seat_of qm count t in
    let seated : k < count = seat-inside qm count t some whole low in
    get_or-map-range_with_len placed 0 (length xs) t t false (omega (arith, low, long)) (omega arith)
    ∙ ap (λ n. bit xs (seat_of qm n t)) long
    ∙ get_or-map-range_with_len f 0 count k k false seated (omega arith)
    ∙ ap (λ c. bit bits (from + (qm * c + k / columns))) (mod-mul-add (t % qm) columns (t / qm) column)
    ∙ ap (λ r. bit bits (from + (qm * (t / qm) + r))) (div-mul-add (t % qm) columns (t / qm) column)
    ∙ ap (λ m. bit bits (from + m)) (div-add-mod t qm)
    ∙ sym (get_or-take count (drop from bits) t false low ∙ get_or-drop from bits t false))

-- their number is `count`
pub rows-many : (qm from count : ℕ) (bits old new : List Bool) → old ≡ [] → new ≡ old ++ row_by_row qm bits from count
    → length new ≡ count
unfolding row_by_row
rows-many qm from count bits old new none is = grind (arith, length-map-range_with_len)
