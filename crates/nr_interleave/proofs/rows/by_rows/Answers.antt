use Rattle.nr_interleave.proofs.Common.{◌≡◌, ℕ, ◌+◌, ◌-◌, ◌*◌, ◌/◌, Bool, inl, inr, subst, sym, ap}
use Rattle.nr_interleave.proofs.{Common.◌∙◌, Common.arith, Common.cases_lt, Common.bit, Common.ArePut, UnspreadFacts.rows-are}
use Rattle.nr_interleave.proofs.rows.by_rows.Goals as goal

-- `row_words` reads 64 more columns as words of their rows, and `put_group` puts these after what the rows have.
pub loop-group-preserved : goal.loop-group-preserved
loop-group-preserved g c =
    let qm = g.row.QM in
    let bits = c.args.bits.now.items in
    let column : ℕ = 64 * c.loop-group.group in
    let cell : ℕ → ℕ → Bool = λ r k. bit bits (c.args.from + (qm * k + r)) in
    let next : column + 64 ≡ 64 * (c.loop-group.group + 1) = omega arith in
    record {
      put = subst (λ n. ArePut qm cell (c.args.count / qm) n c.put_group.new.pending c.put_group.new.selected.items) next
          (c.put_group.ensures.put cell
          (λ r k low short. c.row_words-rows.ensures r k low short ∙ ap (bit bits) (omega arith))
          c.loop-group.invariant.put);
      long = c.put_group.ensures.long ∙ c.loop-group.invariant.long;
      room = c.put_group.ensures.room ∙ c.loop-group.invariant.room;
    }

-- After `put_pending` the rows have the columns of all groups, and `put_columns` keeps these and adds the others.
pub returns-clause-items : goal.returns-clause-items
returns-clause-items g c =
    let qm = g.row.QM in
    let bits = c.args.bits.now.items in
    let columns : ℕ = c.args.count / g.row.QM in
    let column : ℕ = 64 * (c.args.count / g.row.QM / 64) in
    let new = c.put_columns.new.selected.items in
    let cell : ℕ → ℕ → Bool = λ r k. bit bits (c.args.from + (qm * k + r)) in
    let done : c.loop-group.group ≡ c.args.count / g.row.QM / 64 =
    omega (arith, c.loop-group-test.false, c.loop-group.auto.group-end) in
    let are = subst (λ n. ArePut qm cell columns (64 * n) c.loop-group.pending c.loop-group.selected.items) done
    c.loop-group.invariant.put in
    rows-are qm c.args.from c.args.count bits new c.requires.whole
    (omega (arith, c.put_columns.ensures.long, c.put_pending.ensures.long, c.loop-group.invariant.long, c.lengthen.ensures.long))
    (λ r k low below. elim (cases_lt k column) [
      | inl before ↦ c.put_columns.ensures.before r k low before ∙ c.put_pending.ensures.put cell are r k low before
      | inr later ↦
          let there : column + (k - column) ≡ k = omega (arith, later) in
          let place : c.args.from + qm * column + (qm * (k - column) + r) ≡ c.args.from + (qm * k + r) =
          omega (arith, ap (λ n. qm * n) there) in
          ap (λ n. bit new (r * columns + n)) (sym there)
          ∙ c.put_columns.ensures.put r (k - column) low (omega (arith, below, later))
          ∙ c.row_words-rows-2.ensures r (k - column) low (omega (arith, below, later))
          ∙ ap (bit bits) place
    ])
