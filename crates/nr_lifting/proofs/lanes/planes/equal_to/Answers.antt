use Rattle.nr_lifting.proofs.Names.{arith, bit_at, bit_at-lt, nat_tests, place-zeros, sym, ◌∙◌, ◌≡◌, ◌≢◌}
use Rattle.nr_lifting.proofs.{Names.shr_and_one, LaneViewFacts.place-lt, PlaneLaneFacts.equal_more, PlaneLaneFacts.none_as_large}
use Rattle.nr_lifting.proofs.lanes.planes.equal_to.Goals.{then-n-b-eq1, else-n-b-eq1}
use Rattle.nr_lifting.proofs.lanes.planes.equal_to.Goals as goal

pub returns-then-n-ne0 : goal.returns-then-n-ne0
returns-then-n-ne0 g c = record {
  bits = λ t. grind (
    arith,
    nat_tests,
    place-zeros g.row.W t,
    none_as_large c.args.planes.now g.row.P c.args.n t c.told-planes c.if-n-ne0.true,
  );
  clear = λ m _ t _. place-zeros g.row.W t;
}

pub loop-b-init : goal.loop-b-init
loop-b-init g c = record {
  bits = λ t. grind (arith, nat_tests);
  clear = λ m clear. clear;
}

-- the next digit
pub loop-b-preserved : goal.loop-b-preserved
loop-b-preserved g c = elim c.if-n-b-eq1.branch [
  | then-n-b-eq1 w ↦
      let one : bit_at c.args.n c.loop-b.b ≡ 1 = sym (shr_and_one c.args.n c.loop-b.b) ∙ w.if-n-b-eq1.true in
      rw w.same-is (record {
        bits = λ t. grind (arith, nat_tests, equal_more, w.common-same.ensures.bits t, c.loop-b.invariant.bits t, one, place-lt);
        clear = λ m clear. w.common-same.ensures.clear m (c.loop-b.invariant.clear m clear);
      })
  | else-n-b-eq1 w ↦
      let other : bit_at c.args.n c.loop-b.b ≢ 1 = λ e. w.if-n-b-eq1.false (shr_and_one c.args.n c.loop-b.b ∙ e) in
      let none : bit_at c.args.n c.loop-b.b ≡ 0 = omega (arith, bit_at-lt c.args.n c.loop-b.b, other) in
      rw w.same-is (record {
        bits = λ t. grind (arith, nat_tests, equal_more, w.without-same.ensures.bits t, c.loop-b.invariant.bits t, none, place-lt);
        clear = λ m clear. w.without-same.ensures.clear m (c.loop-b.invariant.clear m clear);
      })
]

pub returns : goal.returns
returns g c = record {
  bits = λ t. grind (arith, nat_tests, c.loop-b.invariant.bits t);
  clear = c.loop-b.invariant.clear;
}
