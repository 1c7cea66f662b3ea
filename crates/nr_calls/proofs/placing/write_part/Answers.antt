use Rattle.nr_calls.proofs.Common.{◌≡◌, ◌+◌, ◌*◌, ◌/◌, ◌∙◌, ℕ, ap, sym, arith, cases_lt, get_or}
use Rattle.nr_calls.proofs.Common.{inl, inr, length}
use Rattle.std.proofs.{Common.◌%◌, Math.Nat.mod-add-div}
use Rattle.nr_ratematch.specs.Selection.{place_of}
use Rattle.nr_calls.proofs.PlaceRowFacts.{column-inside}
use Rattle.nr_calls.specs.{Placing.index_by, inside.Placings.placing_of}
use Rattle.nr_calls.proofs.placing.write_part.Goals as goal

-- the places of one more row
pub loop-row-preserved : goal.loop-row-preserved
loop-row-preserved c = λ m inside below.
    let placed = c.args.placed.now in
    let qm : ℕ = placed.tx.qm in
    let row : ℕ = c.loop-row.row in
    let long : length c.write_row.new.out ≡ length c.args.out.now = omega (arith, c.write_row.auto.out, c.loop-row.auto.out) in
    elim (cases_lt (m % qm) row) [
      | inl before ↦ c.write_row.ensures.others m (omega (arith, before))
          ∙ c.loop-row.invariant m (omega (arith, inside)) before
      | inr ge ↦
          let here : m % qm ≡ row = omega (arith, ge, below) in
          let place : m / qm * qm + row ≡ m = omega (arith, here, mod-add-div m qm) in
          ap (λ k. get_or c.write_row.new.out k 0) (sym place)
          ∙ c.write_row.ensures.each (m / qm)
          (column-inside m qm (length c.write_row.new.out) (ap (λ n. n % qm) long ∙ c.requires.whole) inside)
          ∙ ap (λ k. index_by (placing_of placed) c.args.r (place_of placed.buffer placed.tx.rv k))
          (ap (λ n. row * (n / qm) + m / qm) long ∙ ap (λ i. i * (length c.args.out.now / qm) + m / qm) (sym here))
    ]
