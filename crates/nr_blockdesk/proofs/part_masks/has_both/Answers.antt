use Rattle.nr_blockdesk.proofs.Common.{◌≡◌, ℕ, ◌+◌, ◌-◌, ◌*◌, ◌/◌, ◌%◌, ◌<◌, ◌≤◌, inl, inr}
use Rattle.nr_blockdesk.proofs.Common.{ap, ◌∙◌, arith, cases_lt}
use Rattle.nr_blockdesk.proofs.Common.{marks_in, place_of, seat_of, mul-le-mul_right}
use Rattle.nr_blockdesk.specs.inside.PartMasks.{is_listed_both}
use Rattle.nr_interleave.proofs.SeatFacts.{whole-is}
use Rattle.std.proofs.Math.Nat.{div-add-mod, mod-lt}
use Rattle.nr_blockdesk.proofs.part_masks.has_both.Goals as goal

-- the bits of a row in these columns are selected bits
row-inside : (qm e row column count : ℕ) → e % qm ≡ 0 → row < qm → column + count ≤ e / qm
    → row * (e / qm) + column + count ≤ e
row-inside qm e row column count whole low most =
    let rows : (row + 1) * (e / qm) ≤ qm * (e / qm) = mul-le-mul_right (e / qm) (omega (arith, low)) in
    omega (arith, rows, most, whole-is qm e whole)

-- the column of a place
record IsColumn (qm column count m : ℕ) : Type 0 where
  pub low : column ≤ m / qm
  pub high : m / qm < column + count

column-of : (qm column count m : ℕ) → 0 < qm → qm * column ≤ m → m < qm * (column + count) → IsColumn qm column count m
column-of qm column count m some low high = record { low = at-least; high = below }
  where
    split : qm * (m / qm) + m % qm ≡ m
    split = div-add-mod m qm

    row : m % qm < qm
    row = mod-lt m some

    at-least : column ≤ m / qm
    at-least = elim (cases_lt (m / qm) column) [
      | inl less ↦
          let step : (m / qm + 1) * qm ≤ column * qm = mul-le-mul_right qm (omega (arith, less)) in
          absurd (omega (arith, split, row, step, low))
      | inr most ↦ most
    ]

    below : m / qm < column + count
    below = elim (cases_lt (m / qm) (column + count)) [
      | inl less ↦ less
      | inr more ↦
          let step : (column + count) * qm ≤ (m / qm) * qm = mul-le-mul_right qm more in
          absurd (omega (arith, split, step, high))
    ]

pub row_has_both-requires-clause-short : goal.row_has_both-requires-clause-short
row_has_both-requires-clause-short c =
    let part = c.args.part.now in
    omega (
      arith,
      part.short,
      row-inside part.arrival.now.tx.now.qm part.count c.loop-row.row c.args.column c.args.count part.whole
          c.loop-row-test.true c.requires.columns,
    )

-- a row more
pub loop-row-preserved : goal.loop-row-preserved
loop-row-preserved c = λ m low high below.
    let part = c.args.part.now in
    let tx = part.arrival.now.tx.now in
    let qm : ℕ = tx.qm in
    elim (cases_lt (m % qm) c.loop-row.row) [
      | inl before ↦ c.loop-row.invariant m low high before
      | inr past ↦
          let here : m % qm ≡ c.loop-row.row = omega (arith, below, past) in
          let columns = column-of qm c.args.column c.args.count m part.arrival.now.shared.order_some low high in
          let j : ℕ = m / qm - c.args.column in
          let seat : seat_of qm part.count m ≡ c.loop-row.row * (part.count / qm) + c.args.column + j =
          ap (λ i. i * (part.count / qm) + m / qm) here ∙ omega (arith, columns.low) in
          ap (λ k. is_listed_both (marks_in c.args.told.now) (place_of part.arrival.now.buffer.now tx.rv k)) seat
          ∙ c.row_has_both.ensures c.if-row_has_both.false j (omega (arith, columns.low, columns.high))
    ]

pub returns : goal.returns
returns c = λ none m low high. c.loop-row.invariant m low high
    (omega (arith, mod-lt m c.args.part.now.arrival.now.shared.order_some, c.loop-row-test.false))
