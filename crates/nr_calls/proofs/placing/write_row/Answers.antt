use Rattle.nr_calls.proofs.Common.{◌≡◌, ◌≤◌, ◌+◌, ◌-◌, ◌*◌, ◌/◌, ◌<◌, ◌∙◌, ℕ, ap, sym}
use Rattle.nr_calls.proofs.Common.{arith, cases_lt, get_or, inl, inr, length}
use Rattle.nr_calls.proofs.PlaceRowFacts.{place-after, place-inside, place-other, row-other}
use Rattle.nr_ratematch.specs.Selection.{Circular, IsCircular, PlacesAreSent, place_of}
use Rattle.nr_calls.specs.{Placing.index_by, inside.Placings.placing_of}
use Rattle.nr_calls.proofs.placing.write_row.Goals as goal

-- a selected bit is none of the first two columns
low : (b : Circular) (rv k position : ℕ) → PlacesAreSent → IsCircular b → rv < 4 → place_of b rv (k + 0) ≡ position + 0
    → 2 * b.z ≤ position
low b rv k position sent circular version here = omega (arith, (sent b rv (k + 0) circular version).unpunctured, here)

-- the index of a run's bit i
row-index : (n r position i z other : ℕ) → 2 * other ≤ position → other ≡ z
    → r * n + (position - 2 * z) + i ≡ r * n + (position + i - 2 * other)
row-index n r position i z other low same = omega (arith, low, same)

-- The places of a run are written. Those of the columns before it, and those of other rows, are as they were.
pub loop-column-preserved : goal.loop-column-preserved
loop-column-preserved c =
    let placed = c.args.placed.now in
    let p = placing_of placed in
    let b = placed.buffer in
    let rv : ℕ = placed.tx.rv in
    let qm : ℕ = placed.tx.qm in
    let row : ℕ = c.args.row in
    let column : ℕ = c.loop-column.column in
    let columns : ℕ = length c.args.out.now / qm in
    let position : ℕ = c.run-position.result.0 in
    let inv = c.loop-column.invariant in
    let written = c.write_run.ensures in
    record {
      each = λ j lt. elim (cases_lt j column) [
        | inl before ↦
            written.others (j * qm + row) (λ i less. place-other j column row qm i placed.shared.order_some before)
            ∙ inv.each j before
        | inr ge ↦
            let i : ℕ = j - column in
            let less : i < c.run-position.result.1 = omega (arith, lt, ge) in
            let next : column + i ≡ j = omega (arith, ge) in
            let place : column * qm + row + i * qm ≡ j * qm + row =
            place-after column row qm i ∙ ap (λ n. n * qm + row) next in
            let bit : place_of b rv (row * columns + j) ≡ position + i =
            ap (place_of b rv) (omega (arith, next)) ∙ c.run-position.ensures.places i less in
            ap (λ m. get_or c.write_run.new.out m 0) (sym place) ∙ written.within i less
            ∙ row-index p.n c.args.r position i placed.plan.z b.z
            (low b rv _ position c.places_are_sent.ensures placed.circular placed.version
            (c.run-position.ensures.places 0 c.run-position.ensures.some)) placed.lifted
            ∙ ap (index_by p c.args.r) (sym bit)
      ];
      others = λ m other.
          written.others m (λ i less. row-other m column row qm i c.requires.row other) ∙ inv.others m other;
    }

pub overflow_sub-first : goal.overflow_sub-first
overflow_sub-first c =
    let placed = c.args.placed.now in
    let first = c.run-position.ensures.places 0 c.run-position.ensures.some in
    omega (
      arith,
      low placed.buffer placed.tx.rv _ c.run-position.result.0 c.places_are_sent.ensures placed.circular placed.version first,
      placed.lifted,
    )

pub write_run-requires-clause-inside : goal.write_run-requires-clause-inside
write_run-requires-clause-inside c = λ j less.
    let qm : ℕ = c.args.placed.now.tx.qm in
    let column : ℕ = c.loop-column.column in
    omega (
      arith,
      place-after column c.args.row qm j,
      place-inside (column + j) c.args.row qm (length c.args.out.now) c.requires.whole
          (omega (arith, less, c.run-position.ensures.most, c.loop-column-test.true)) c.requires.row,
      c.loop-column.auto.out,
    )
