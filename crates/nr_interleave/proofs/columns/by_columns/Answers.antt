use Rattle.nr_interleave.proofs.Common.{◌≡◌, ◌+◌, ◌-◌, ◌*◌, ◌/◌, ◌++◌, ◌∙◌, length, take, drop}
use Rattle.nr_interleave.proofs.Common.{refl, ap, arith, taken-more, bit, interleaving_of}
use Rattle.nr_interleave.proofs.SpreadFacts.{columns-all, columns-inside}
use Rattle.nr_interleave.proofs.columns.by_columns.Goals as goal

-- The next 64 columns are whole columns of the matrix, so they end within the bits that the list has room for.
pub push_columns-requires-clause-room : goal.push_columns-requires-clause-room
push_columns-requires-clause-room g c =
    let columns : c.len-columns.result / g.row.QM ≡ length c.args.bits.now.items / g.row.QM =
    ap (λ n. n / g.row.QM) c.len-columns.ensures.value in
    omega (
      arith,
      c.loop-group.invariant.room,
      c.requires.room,
      columns-inside (length c.args.bits.now.items) g.row.QM (64 * c.loop-group.group) 64 c.requires.whole
          (omega (arith, columns, c.loop-group-test.true)),
    )

-- The interleaving reads the matrix column by column, so the next 64 columns follow those of the groups before.
pub loop-group-preserved : goal.loop-group-preserved
loop-group-preserved g c =
    let at = 64 * c.loop-group.group in
    let old = c.args.spread.now.items in
    let bits = c.args.bits.now.items in
    let all = interleaving_of g.row.QM c.args.bits.now.items in
    let columns : c.len-columns.result / g.row.QM ≡ length c.args.bits.now.items / g.row.QM =
    ap (λ n. n / g.row.QM) c.len-columns.ensures.value in
    let next : g.row.QM * (64 * c.loop-group.group) + g.row.QM * 64 ≡ g.row.QM * (64 * (c.loop-group.group + 1)) = omega arith in
    record {
      spread = taken-more old c.loop-group.spread.items c.push_columns.new.spread.items all
          (take (g.row.QM * 64) (drop (g.row.QM * at) all)) (g.row.QM * at) (g.row.QM * 64)
          c.loop-group.invariant.spread
          (c.push_columns.ensures.items bits at c.requires.whole (omega (arith, columns, c.loop-group-test.true))
          (λ e s r in_words in_columns in_rows. c.column_words-words.ensures e s r in_words in_columns in_rows
          ∙ ap (λ n. bit bits (r * n + at + (8 * e + s))) columns))
          refl ∙ ap (λ n. old ++ take n all) next;
      room = omega (arith, next, c.push_columns.ensures.room, c.loop-group.invariant.room);
    }

-- The columns that are left, fewer than 64, follow those of all groups, and with them the matrix is read to its end.
pub returns-clause-items : goal.returns-clause-items
returns-clause-items g c =
    let count = c.len-columns.result / g.row.QM in
    let at = 64 * (c.len-columns.result / g.row.QM / 64) in
    let old = c.args.spread.now.items in
    let bits = c.args.bits.now.items in
    let all = interleaving_of g.row.QM c.args.bits.now.items in
    let columns : c.len-columns.result / g.row.QM ≡ length c.args.bits.now.items / g.row.QM =
    ap (λ n. n / g.row.QM) c.len-columns.ensures.value in
    let done : c.loop-group.group ≡ c.len-columns.result / g.row.QM / 64 =
    omega (arith, c.loop-group-test.false, c.loop-group.auto.group-end) in
    let rest : 64 * (c.len-columns.result / g.row.QM / 64)
    + (c.len-columns.result / g.row.QM - 64 * (c.len-columns.result / g.row.QM / 64)) ≡ c.len-columns.result / g.row.QM =
    omega arith in
    taken-more old c.loop-group.spread.items c.push_columns-2.new.spread.items all
    (take (g.row.QM * (count - at)) (drop (g.row.QM * at) all)) (g.row.QM * at) (g.row.QM * (count - at))
    (c.loop-group.invariant.spread ∙ ap (λ k. old ++ take (g.row.QM * (64 * k)) all) done)
    (c.push_columns-2.ensures.items bits at c.requires.whole (omega (arith, columns, rest))
    (λ e s r in_words in_columns in_rows. c.column_words-words-2.ensures e s r in_words in_columns in_rows
    ∙ ap (λ n. bit bits (r * n + at + (8 * e + s))) columns))
    refl
    ∙ ap (λ n. old ++ take n all) (omega arith ∙ ap (λ n. g.row.QM * n) rest)
    ∙ ap (λ n. old ++ n) (columns-all bits g.row.QM count c.requires.whole columns)
