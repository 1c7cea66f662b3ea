use Rattle.nr_calls.proofs.Common.{arith, inr, rules, Err, sym, ap, ◌∙◌, subst, length-map-range_with_len}
use Rattle.nr_calls.proofs.Common.{err_from_is_err_and, IsLink, Link}
use Rattle.nr_calls.proofs.ReceptionListFacts.{heard-all, heard-block, heard-err, heard-many, heard-more, heard-over, heard-short}
use Rattle.nr_calls.proofs.receiving.hear_all.Goals as goal

pub returns-then-places-g-clause-said : goal.returns-then-places-g-clause-said
returns-then-places-g-clause-said c =
    inr (heard-short _ _ _ _ _ _ _ c.in-Some.tx.now c.in-Some.rest.now c.loop-tx.places.now c.loop-tx.invariant.has
    c.if-places-g.true c.in-Some.ensures.cases.0)

pub returns-in_err-last-clause-said : goal.returns-in_err-last-clause-said
returns-in_err-last-clause-said c =
    let p = err_from_is_err_and c.from_residual.result c.from_residual.ensures.1 in
    heard-err _ _ _ _ _ _ _ c.in-Some.tx.now c.in-Some.rest.now c.loop-tx.places.now _ c.in_err-last.field-0.0
    c.from_residual.result c.loop-tx.invariant.has
    c.if-places-g.false c.in_err-last.ensures.refused (p.1 ∙ ap Err p.2) c.in-Some.ensures.cases.0 (cc)

pub loop-tx-preserved : goal.loop-tx-preserved
loop-tx-preserved c = record {
  link = c.in_ok-last.ensures.link ∙ c.loop-tx.invariant.link;
  has = heard-more c.loop-tx.receiver.link _ _ _ _ _ c.hear_next.new.receiver.link _ _ _ _ c.in-Some.tx.now c.in-Some.rest.now
      c.loop-tx.places.now _ _
      c.loop-tx.invariant.has c.if-places-g.false c.in_ok-last.ensures.heard c.in_ok-last.ensures.outcome
      c.in_ok-last.ensures.outcomes
      c.in_ok-last.ensures.link c.in-Some.ensures.cases.0 (cc) (cc);
}

pub returns-then-not-is_empty-clause-said : goal.returns-then-not-is_empty-clause-said
returns-then-not-is_empty-clause-said c = inr
    (heard-over _ _ _ _ _ _ _ c.loop-tx.places.now c.loop-tx.invariant.has (search rules) (search rules))

pub returns-clause-said : goal.returns-clause-said
returns-clause-said c = heard-all _ _ _ _ _ _ _ _ c.loop-tx.places.now c.loop-tx.invariant.has (search rules)
    (search rules) c.in_ok-left.ensures

pub returns-clause-outcomes : goal.returns-clause-outcomes
returns-clause-outcomes c = heard-many _ _ _ _ _ _ _ _ c.loop-tx.invariant.has (search rules)

pub returns-clause-left : goal.returns-clause-left
returns-clause-left c = grind (arith, length-map-range_with_len)

pub returns-clause-block : goal.returns-clause-block
returns-clause-block c = λ block is.
    heard-block _ _ _ _ _ _ _ _ c.delivered_is_only.ensures
    (subst (λ (k : Link). IsLink k) (sym c.loop-tx.invariant.link) c.requires.sound) c.loop-tx.invariant.has block is
    ∙ ap (λ (k : Link). k.a) c.loop-tx.invariant.link
