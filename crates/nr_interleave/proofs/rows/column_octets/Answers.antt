use Rattle.nr_interleave.proofs.Common.{◌≡◌, ℕ, ◌+◌, ◌*◌, ◌/◌, ◌%◌, ◌<◌, ◌≤◌, ◌==◌, ap}
use Rattle.nr_interleave.proofs.Common.{◌∙◌, arith, length-set, bit_at, mul-le-mul_left, mul-add-lt, bit}
use Rattle.nr_interleave.proofs.OctetFacts.{each-more}
use Rattle.nr_bitvec.proofs.BitFacts.{place_of}
use Rattle.nr_interleave.proofs.rows.column_octets.Goals as goal

-- The word's eight columns are 8 Qm bits in sequence, among those that were read, and `row_octets` parts them by rows.
pub loop-eight-preserved : goal.loop-eight-preserved
loop-eight-preserved g c =
    let bits = c.args.bits.now.items in
    let qm = g.row.QM in
    let e = c.loop-eight.eight in
    record {
      turned = each-more (λ e w. (r k : ℕ) → r < qm → k < 8
          → (bit_at w (8 * r + k) == 1) ≡ bit bits (c.args.from + (qm * (8 * e + k) + r)))
          c.loop-eight.octets e c.row_octets.result (omega (arith, c.loop-eight-test.true, c.loop-eight.invariant.long))
          (λ r k row column.
          let at = 8 * qm * e in
          let j = qm * k + r in
          let in_columns : k * qm + r < qm * 8 = mul-add-lt k qm r 8 column row in
          let in_words : 8 * qm * e ≤ 8 * qm * 7 = mul-le-mul_left (8 * qm) (omega (arith, c.loop-eight-test.true)) in
          let short : qm * k + r < 64 = omega (arith, in_columns, c.requires.few) in
          let word : (8 * qm * e + (qm * k + r)) / 64 < qm = omega (arith, in_columns, in_words) in
          let place : c.args.from + 64 * ((8 * qm * e + (qm * k + r)) / 64) + (8 * qm * e + (qm * k + r)) % 64
          ≡ c.args.from + (qm * (8 * e + k) + r) = omega arith in
          c.row_octets.ensures r k row column
          ∙ ap (λ b. b == 1) (c.window-in-loop-eight.ensures j short
          ∙ place_of c.loop-word.read (64 * (at / 64) + at % 64 + j) ((at + j) / 64) ((at + j) % 64) (omega arith) (omega arith))
          ∙ c.loop-word.invariant.read ((at + j) / 64) (omega (arith, word, c.loop-word-test.false)) ((at + j) % 64) (omega arith)
          ∙ ap (bit bits) place)
          c.loop-eight.invariant.turned;
      long = length-set c.loop-eight.octets e c.row_octets.result ∙ c.loop-eight.invariant.long;
    }
