-- Columns of the matrix, put one after another.
use Rattle.nr_interleave.proofs.Common.{◌≡◌, ℕ, ◌+◌, ◌*◌, ◌/◌, ◌%◌, ◌<◌, ◌≤◌, ◌==◌, ◌++◌}
use Rattle.nr_interleave.proofs.Common.{Bool, false, List, length, map, take, drop, slice_index_or, refl, sym, ap, ◌∙◌, arith}
use Rattle.nr_interleave.proofs.Common.{length-take, length-drop, get_or-take, get_or-drop, mul-le-mul_left, div-add-mod}
use Rattle.nr_interleave.proofs.Common.{div-lt_iff_lt-mul, mod-lt, take_all, length-map-range_with_len, get_or-map-range_with_len}
use Rattle.nr_interleave.proofs.Common.{div-mul-add, mod-mul-add, bit_at, range_with_len, same_from_bits, taken-more, bit, seat_of}
use Rattle.nr_interleave.proofs.{Common.interleaving_of, Common.HasColumnBits, SeatFacts.whole-is}
use Rattle.std.proofs.lemmas.List.{drop-drop}
use Rattle.nr_bitvec.{proofs.PackedListFacts.length-low_first, proofs.PackedListFacts.bit-low_first, specs.BitList.low_first}

-- columns of the matrix are a part of the interleaved bits
pub columns-word : (xs : List Bool) (qm wide columns column n word : ℕ) → 0 < qm → length xs % qm ≡ 0
    → columns ≡ length xs / qm → n ≤ wide → column + n ≤ columns
    → ((s r : ℕ) → s < wide → r < qm → (bit_at word (s * qm + r) == 1) ≡ bit xs (r * columns + column + s))
    → low_first (qm * n) word ≡ take (qm * n) (drop (qm * column) (interleaving_of qm xs))
unfolding interleaving_of
columns-word xs qm wide columns column n word some whole e few inside reads =
    let placed : ℕ → Bool = λ m. bit xs (seat_of qm (length xs) m) in
    let ys : List Bool = map placed (range_with_len 0 (length xs)) in
    let long : length (map placed (range_with_len 0 (length xs))) ≡ length xs = length-map-range_with_len placed 0 (length xs) in
    let all : qm * (length xs / qm) ≡ length xs = whole-is qm (length xs) whole in
    let part : qm * (column + n) ≤ qm * (length xs / qm) = mul-le-mul_left qm (omega (arith, inside, e)) in
    same_from_bits (low_first (qm * n) word) (take (qm * n) (drop (qm * column) ys))
    (omega (
      arith,
      length-low_first (qm * n) word,
      length-take (qm * n) (drop (qm * column) ys),
      length-drop (qm * column) ys,
      long,
      all,
      part,
    ))
    (λ t h.
    let below : t < qm * n = omega (arith, h, length-low_first (qm * n) word) in
    let row : t % qm < qm = mod-lt t some in
    let split : t ≡ t / qm * qm + t % qm = omega (arith, div-add-mod t qm) in
    let turned : t < n * qm = omega (arith, below) in
    let column_in : t / qm < n = (div-lt_iff_lt-mul some).1 turned in
    let m : qm * column + t ≡ (column + t / qm) * qm + t % qm = omega (arith, split) in
    let row_of : (qm * column + t) % qm ≡ t % qm = ap (λ k. k % qm) m ∙ mod-mul-add (column + t / qm) qm (t % qm) row in
    let column_of : (qm * column + t) / qm ≡ column + t / qm =
    ap (λ k. k / qm) m ∙ div-mul-add (column + t / qm) qm (t % qm) row in
    let seat : seat_of qm (length xs) (qm * column + t) ≡ t % qm * columns + column + t / qm =
    ap (λ k. k * (length xs / qm) + (qm * column + t) / qm) row_of ∙ ap (λ k. t % qm * (length xs / qm) + k) column_of
    ∙ ap (λ k. t % qm * k + (column + t / qm)) (sym e) ∙ omega arith in
    bit-low_first (qm * n) word t below ∙ ap (λ k. bit_at word k == 1) split
    ∙ reads (t / qm) (t % qm) (omega (arith, column_in, few)) row ∙ ap (bit xs) (sym seat)
    ∙ sym (get_or-take (qm * n) (drop (qm * column) ys) t false below ∙ get_or-drop (qm * column) ys t false
    ∙ get_or-map-range_with_len placed 0 (length xs) (qm * column + t) (qm * column + t) false (omega (arith, below, all, part))
    (omega arith)))

-- n more columns, those of a word
pub columns-more : (old items new xs : List Bool) (words : List ℕ) (qm column count e n : ℕ) → 0 < qm → length xs % qm ≡ 0
    → e < 8 → n ≤ 8 → 8 * e + n ≤ count → column + count ≤ length xs / qm
    → HasColumnBits qm words xs (length xs / qm) column
    → items ≡ old ++ take (qm * (8 * e)) (drop (qm * column) (interleaving_of qm xs))
    → new ≡ items ++ low_first (qm * n) (slice_index_or words e 0)
    → new ≡ old ++ take (qm * (8 * e + n)) (drop (qm * column) (interleaving_of qm xs))
columns-more old items new xs words qm column count e n some whole word few inside all reads so_far pushed =
    let ys : List Bool = drop (qm * column) (interleaving_of qm xs) in
    let start : qm * (column + 8 * e) ≡ qm * column + qm * (8 * e) = omega arith in
    let put : low_first (qm * n) (slice_index_or words e 0) ≡ take (qm * n) (drop (qm * (8 * e)) ys) =
    columns-word xs qm 8 (length xs / qm) (column + 8 * e) n (slice_index_or words e 0) some whole refl few
    (omega (arith, inside, all))
    (λ s r in_word in_rows. reads e s r word in_word in_rows ∙ ap (bit xs) (omega arith))
    ∙ ap (λ k. take (qm * n) (drop k (interleaving_of qm xs))) start
    ∙ ap (take (qm * n)) (sym (drop-drop (qm * (8 * e)) (qm * column) (interleaving_of qm xs))) in
    taken-more old items new ys (low_first (qm * n) (slice_index_or words e 0)) (qm * (8 * e)) (qm * n) so_far pushed put
    ∙ ap (λ k. old ++ take k ys) (omega arith)

-- all columns are all bits
pub columns-all : (xs : List Bool) (qm n : ℕ) → length xs % qm ≡ 0 → n ≡ length xs / qm
    → take (qm * n) (interleaving_of qm xs) ≡ interleaving_of qm xs
unfolding interleaving_of
columns-all xs qm n whole e = grind (arith, whole-is, take_all, length-map-range_with_len)

-- one row stays as it is
pub one-row : (xs : List Bool) → take (length xs) (drop 0 xs) ≡ interleaving_of 1 xs
unfolding interleaving_of
one-row xs = grind (arith, length-map-range_with_len, take_all, same_from_bits, get_or-map-range_with_len)

-- columns have room among all bits
pub columns-inside : (long qm column n : ℕ) → long % qm ≡ 0 → column + n ≤ long / qm → qm * column + qm * n ≤ long
columns-inside long qm column n whole inside = grind (arith, mul-le-mul_left, whole-is)
