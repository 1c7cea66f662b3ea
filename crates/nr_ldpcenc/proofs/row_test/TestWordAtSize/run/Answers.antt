use Rattle.std.proofs.Common.{◌≡◌, refl, sym, ap, subst, ◌∙◌, inl, inr, arith}
use Rattle.std.proofs.lemmas.Bool.{cases_lt, false≢true}
use Rattle.nr_bitvec.specs.Bit.{bit}
use Rattle.nr_graphpick.specs.Graph.{rows_of}
use Rattle.nr_shifttable.specs.Accepted.{entries_in}
use Rattle.nr_ldpcenc.specs.inside.Doubled.{col_bit}
use Rattle.nr_ldpcenc.specs.Parity.{parity}
use Rattle.nr_ldpcenc.specs.inside.Words.{row_at}
use Rattle.nr_ldpcenc.specs.Rows.{plan_checks}
use Rattle.nr_ldpcenc.proofs.{RowSumFacts.Meets-each, RowSumFacts.Meets-from_each, MetRowFacts.row-sum, MetRowFacts.AreMet}
use Rattle.nr_ldpcenc.proofs.row_test.TestWordAtSize.run.Goals as goal

-- The loop goes on only if the row of blocks sums to zero, and its sum over the columns is that over the word.
pub loop-i-preserved : goal.loop-i-preserved
loop-i-preserved g c = λ i t below lt. elim (cases_lt i c.loop-i.i) [
  | inl h ↦ c.loop-i.invariant i t h lt
  | inr h ↦
      let plan = c.args.self.now.plan.now in
      let es = entries_in plan.graph c.args.self.now.table.now in
      let here : i ≡ c.loop-i.i = omega (arith, h, below) in
      ap (λ k. parity (bit c.args.self.now.bits.now.items) (row_at es plan.set g.row.Z k t)) here
      ∙ row-sum plan.graph es plan.set g.row.Z c.cols-columns.result c.loop-i.i t c.args.self.now.bits.now.items
      (col_bit g.row.Z c.load_columns.new.cols) c.set_in-set.result c.row_entries.result.now
      c.requires.some c.cols-columns.ensures c.set_in-set.ensures.value c.row_entries.ensures.entries c.row_entries.ensures.in_range
      c.load_columns.ensures.same
      ∙ c.row_is_met.ensures.0 c.if-not-row_is_met.false t lt
]

-- a row of blocks that is not met
pub returns-then-not-row_is_met : goal.returns-then-not-row_is_met
returns-then-not-row_is_met g c =
    let plan = c.args.self.now.plan.now in
    let es = entries_in plan.graph c.args.self.now.table.now in (
      λ yes. absurd (false≢true yes),
      λ met.
          let all : AreMet es plan.set (rows_of plan.graph) g.row.Z (bit c.args.self.now.bits.now.items) =
          subst (λ z. AreMet es plan.set (rows_of plan.graph) z (bit c.args.self.now.bits.now.items)) c.requires.ready.0
          (Meets-each (plan_checks c.args.self.now.table.now plan) (bit c.args.self.now.bits.now.items) met) in
          sym c.if-not-row_is_met.true
          ∙ c.row_is_met.ensures.1 (λ t lt.
          sym (row-sum plan.graph es plan.set g.row.Z c.cols-columns.result c.loop-i.i t c.args.self.now.bits.now.items
          (col_bit g.row.Z c.load_columns.new.cols) c.set_in-set.result c.row_entries.result.now
          c.requires.some c.cols-columns.ensures c.set_in-set.ensures.value c.row_entries.ensures.entries
          c.row_entries.ensures.in_range c.load_columns.ensures.same)
          ∙ all c.loop-i.i t (omega (arith, c.loop-i-test.true, c.rows-i-end.ensures)) lt),
    )

pub returns : goal.returns
returns g c =
    let plan = c.args.self.now.plan.now in
    let table = c.args.self.now.table.now in
    let word = bit c.args.self.now.bits.now.items in (
      λ yes. Meets-from_each (plan_checks table plan) word
          (subst (λ z. AreMet (entries_in plan.graph table) plan.set (rows_of plan.graph) z word) (sym c.requires.ready.0)
          (λ i t low. c.loop-i.invariant i t (omega (arith, low)))),
      λ met. refl,
    )
