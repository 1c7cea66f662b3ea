use Rattle.nr_interleave.proofs.Common.{◌≡◌, ℕ, ◌+◌, ◌*◌, ◌/◌, ◌%◌, ◌<◌, ◌==◌, slice_index_or, ap}
use Rattle.nr_interleave.proofs.{Common.◌∙◌, Common.arith, Common.length-set, Common.bit_at, Common.bit, OctetFacts.each-more}
use Rattle.nr_interleave.proofs.columns.column_words.Goals as goal

-- After the exchange a word has its eight columns in an octet for each row, and `column_word` orders these by column.
pub loop-eight-preserved : goal.loop-eight-preserved
loop-eight-preserved g c =
    let bits = c.args.bits.now.items in
    let qm = g.row.QM in
    let e = c.loop-eight.eight in
    record {
      made = each-more (λ e w. (s r : ℕ) → s < 8 → r < qm
          → (bit_at w (s * qm + r) == 1) ≡ bit bits (r * c.args.columns + c.args.column + (8 * e + s)))
          c.loop-eight.words e c.column_word.result (omega (arith, c.loop-eight-test.true, c.loop-eight.invariant.long))
          (λ s r column row.
          let here : (8 * r + s) / 8 ≡ r = omega (arith, column) in
          let place : (8 * r + s) % 8 ≡ s = omega (arith, column) in
          c.column_word.ensures s r column row
          ∙ ap (λ b. b == 1) (c.octets_exchanged-octets.ensures e (8 * r + s) (omega (arith, c.loop-eight-test.true))
          (omega (arith, column, row, c.requires.few))
          ∙ ap (λ n. bit_at (slice_index_or c.read_rows-rows.result n 0) (8 * e + (8 * r + s) % 8)) here
          ∙ ap (λ n. bit_at (slice_index_or c.read_rows-rows.result r 0) (8 * e + n)) place)
          ∙ c.read_rows-rows.ensures r (8 * e + s) row (omega (arith, column, c.loop-eight-test.true)))
          c.loop-eight.invariant.made;
      long = length-set c.loop-eight.words e c.column_word.result ∙ c.loop-eight.invariant.long;
    }
