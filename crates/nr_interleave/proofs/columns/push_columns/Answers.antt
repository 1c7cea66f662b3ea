use Rattle.nr_interleave.proofs.Common.{◌≡◌, ◌+◌, ◌*◌, ◌/◌, ◌%◌, ◌≤◌, ◌++◌, ◌∙◌, take, drop}
use Rattle.nr_interleave.proofs.{Common.ap, Common.arith, Common.mul-le-mul_left, Common.interleaving_of, SpreadFacts.columns-more}
use Rattle.nr_interleave.proofs.columns.push_columns.Goals as goal

pub push_word-requires-clause-room : goal.push_word-requires-clause-room
push_word-requires-clause-room g c =
    let inside : 8 * c.loop-eight.eight + 8 ≤ c.args.count = omega (arith, c.loop-eight-test.true) in
    omega (arith, c.loop-eight.invariant.room, c.requires.room, mul-le-mul_left g.row.QM inside)

-- A word has its eight columns one after the other, so they follow those of the words before.
pub loop-eight-preserved : goal.loop-eight-preserved
loop-eight-preserved g c =
    let eight = c.loop-eight.eight in
    let old = c.args.spread.now.items in
    let inside : 8 * c.loop-eight.eight + 8 ≤ c.args.count = omega (arith, c.loop-eight-test.true) in
    let next : 8 * c.loop-eight.eight + 8 ≡ 8 * (c.loop-eight.eight + 1) = omega arith in
    record {
      spread = λ xs column whole all reads.
          columns-more old c.loop-eight.spread.items c.push_word.new.self.items xs c.args.words.now g.row.QM column
          c.args.count eight 8
          c.requires.some whole (omega (arith, inside, c.requires.count)) (omega arith) inside all reads
          (c.loop-eight.invariant.spread xs column whole all reads) c.push_word.ensures.items
          ∙ ap (λ k. old ++ take (g.row.QM * k) (drop (g.row.QM * column) (interleaving_of g.row.QM xs))) next;
      room = omega (arith, c.push_word.ensures.room, c.loop-eight.invariant.room);
    }

-- The last word gives the columns that are left, fewer than eight, and with them all `count` columns are put.
pub returns-then-count-gt0-clause-items : goal.returns-then-count-gt0-clause-items
returns-then-count-gt0-clause-items g c = λ xs column whole all reads.
    let old = c.args.spread.now.items in
    let done : c.loop-eight.eight ≡ c.args.count / 8 = omega (arith, c.loop-eight-test.false, c.loop-eight.auto.eight-end) in
    let count : 8 * (c.args.count / 8) + c.args.count % 8 ≡ c.args.count = omega arith in
    columns-more old c.loop-eight.spread.items c.push_word-then-count-gt0.new.self.items xs c.args.words.now g.row.QM column
    c.args.count (c.args.count / 8) (c.args.count % 8)
    c.requires.some whole (omega (arith, count, c.requires.count, c.if-count-gt0.true)) (omega arith) (omega arith) all reads
    (c.loop-eight.invariant.spread xs column whole all reads
    ∙ ap (λ k. old ++ take (g.row.QM * (8 * k)) (drop (g.row.QM * column) (interleaving_of g.row.QM xs))) done)
    c.push_word-then-count-gt0.ensures.items
    ∙ ap (λ k. old ++ take (g.row.QM * k) (drop (g.row.QM * column) (interleaving_of g.row.QM xs))) count

pub returns-then-count-gt0-clause-room : goal.returns-then-count-gt0-clause-room
returns-then-count-gt0-clause-room g c =
    let done : c.loop-eight.eight ≡ c.args.count / 8 = omega (arith, c.loop-eight-test.false, c.loop-eight.auto.eight-end) in
    let count : 8 * c.loop-eight.eight + c.args.count % 8 ≡ c.args.count = omega (arith, done) in
    let shared : g.row.QM * (8 * c.loop-eight.eight) + g.row.QM * (c.args.count % 8) ≡ g.row.QM * c.args.count =
    omega arith ∙ ap (λ k. g.row.QM * k) count in
    omega (arith, shared, c.push_word-then-count-gt0.ensures.room, c.loop-eight.invariant.room)
