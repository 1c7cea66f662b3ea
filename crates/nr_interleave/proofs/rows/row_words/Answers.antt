use Rattle.nr_interleave.proofs.Common.{◌+◌, ◌*◌, ◌/◌, ◌%◌, ◌==◌, ap, ◌∙◌, arith, div-add-mod, bit}
use Rattle.nr_interleave.proofs.rows.row_words.Goals as goal

pub returns : goal.returns
returns g c = λ r j row below.
    ap (λ b. b == 1) (c.octets_exchanged.ensures r j (omega (arith, row, c.requires.few)) below)
    ∙ c.column_octets.ensures (j / 8) r (j % 8) (omega (arith, below)) row (omega arith)
    ∙ ap (λ n. bit c.args.bits.now.items (c.args.from + (g.row.QM * n + r))) (div-add-mod j 8)
