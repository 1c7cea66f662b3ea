use Rattle.nr_calls.proofs.Common.{◌≡◌, ◌≤◌, arith, inr, length, rules, Err, sym, ap}
use Rattle.nr_calls.proofs.Common.{◌∙◌, subst}
use Rattle.nr_calls.proofs.Common.{err_from_is_err_and, length-map-range_with_len, IsLink, Link}
use Rattle.nr_calls.proofs.ReceptionListFacts.{heard-all, heard-block, heard-err, heard-many, heard-more, heard-over, heard-short}
use Rattle.nr_calls.proofs.PackedFacts.{arrives, behind, next-long, next-short, nothing-over, over}
use Rattle.nr_calls.specs.Packed.{octet_count, unpacked}
use Rattle.std.specs.Prelude.{min}
use Rattle.nr_calls.proofs.packed.hear_all_packed.Goals as goal

pub returns-then-min-count-clause-said : goal.returns-then-min-count-clause-said
returns-then-min-count-clause-said c =
    let all = c.loop-tx.later.now in
    let bits = c.loop-tx.bits_left.now in
    let known = c.loop-tx.known_left.now in
    let is = c.in-Some.ensures.cases.0 in
    inr (heard-short _ _ _ _ _ _ _ c.in-Some.tx.now c.in-Some.rest.now (unpacked all bits known) c.loop-tx.invariant.has
    (next-short all c.in-Some.tx.now c.in-Some.rest.now bits known is
    (omega (arith, c.if-min-count.true, c.min.ensures, c.octet_count-count.ensures))) is)

pub returns-in_err-last-clause-said : goal.returns-in_err-last-clause-said
returns-in_err-last-clause-said c =
    let all = c.loop-tx.later.now in
    let bits = c.loop-tx.bits_left.now in
    let known = c.loop-tx.known_left.now in
    let is = c.in-Some.ensures.cases.0 in
    let t = c.in-Some.tx.now in
    let ts = c.in-Some.rest.now in
    let whole : octet_count t.g ≤ min (length bits) (length known) =
    omega (arith, c.if-min-count.false, c.min.ensures, c.octet_count-count.ensures) in
    let p = err_from_is_err_and c.from_residual.result c.from_residual.ensures.1 in
    heard-err _ _ _ _ _ _ _ t ts (unpacked all bits known) _ c.in_err-last.field-0.0 c.from_residual.result
    c.loop-tx.invariant.has (next-long all t ts bits known is whole) c.in_err-last.ensures.refused (p.1 ∙ ap Err p.2) is
    (arrives all t ts bits known is whole c.tx.result c.split_at.result.0.now c.split_at-in-Some.result.0.now (cc) (cc) (cc))

pub loop-tx-preserved : goal.loop-tx-preserved
loop-tx-preserved c =
    let all = c.loop-tx.later.now in
    let bits = c.loop-tx.bits_left.now in
    let known = c.loop-tx.known_left.now in
    let is = c.in-Some.ensures.cases.0 in
    let t = c.in-Some.tx.now in
    let ts = c.in-Some.rest.now in
    let whole : octet_count t.g ≤ min (length bits) (length known) =
    omega (arith, c.if-min-count.false, c.min.ensures, c.octet_count-count.ensures) in
    record {
      link = c.in_ok-last.ensures.link ∙ c.loop-tx.invariant.link;
      has = heard-more c.loop-tx.receiver.link _ _ _ _ _ c.hear_next_packed.new.receiver.link _ _ _ _ t ts
          (unpacked all bits known) _ _ c.loop-tx.invariant.has (next-long all t ts bits known is whole)
          c.in_ok-last.ensures.heard c.in_ok-last.ensures.outcome c.in_ok-last.ensures.outcomes c.in_ok-last.ensures.link is
          (arrives all t ts bits known is whole c.tx.result c.split_at.result.0.now c.split_at-in-Some.result.0.now (cc) (cc) (cc))
          (behind all t ts bits known is whole c.split_at.result.1.now c.split_at-in-Some.result.1.now (cc) (cc));
    }

pub returns-then-max-gt0-clause-said : goal.returns-then-max-gt0-clause-said
returns-then-max-gt0-clause-said c =
    let all = c.loop-tx.later.now in
    let bits = c.loop-tx.bits_left.now in
    let known = c.loop-tx.known_left.now in
    let none : length all ≡ 0 = search rules in
    inr (heard-over _ _ _ _ _ _ _ (unpacked all bits known) c.loop-tx.invariant.has none
    (over all bits known none (omega (arith, c.if-max-gt0.true, c.max.ensures))))

pub returns-clause-said : goal.returns-clause-said
returns-clause-said c =
    let all = c.loop-tx.later.now in
    let bits = c.loop-tx.bits_left.now in
    let known = c.loop-tx.known_left.now in
    let none : length all ≡ 0 = search rules in
    heard-all _ _ _ _ _ _ _ _ (unpacked all bits known) c.loop-tx.invariant.has none
    (nothing-over all bits known none (omega (arith, c.if-max-gt0.false, c.max.ensures))) c.in_ok-left.ensures

pub returns-clause-outcomes : goal.returns-clause-outcomes
returns-clause-outcomes c = heard-many _ _ _ _ _ _ _ _ c.loop-tx.invariant.has (search rules)

pub returns-clause-left : goal.returns-clause-left
returns-clause-left c = grind (arith, length-map-range_with_len)

pub returns-clause-block : goal.returns-clause-block
returns-clause-block c = λ block is.
    heard-block _ _ _ _ _ _ _ _ c.delivered_is_only.ensures
    (subst (λ (k : Link). IsLink k) (sym c.loop-tx.invariant.link) c.requires.sound) c.loop-tx.invariant.has block is
    ∙ ap (λ (k : Link). k.a) c.loop-tx.invariant.link
