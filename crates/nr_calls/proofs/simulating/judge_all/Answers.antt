use Rattle.nr_calls.proofs.Common.{◌∙◌, ap, arith, length-drop, Err, err_from_is_err_and}
use Rattle.nr_calls.proofs.AcceptedFacts.{all-accepted-by, judged-err, judged-none, judged-ok}
use Rattle.std.proofs.lemmas.List.{drop_more}
use Rattle.nr_calls.proofs.simulating.judge_all.Goals as goal

pub returns-in_err-shares_of-clause-said : goal.returns-in_err-shares_of-clause-said
returns-in_err-shares_of-clause-said c =
    let link = c.args.link.now in
    let p = err_from_is_err_and c.from_residual.result c.from_residual.ensures.1 in
    let said = rw c.tx.ensures at c.in_err-shares_of.ensures.said in
    rw (p.1 ∙ ap Err p.2)
    (c.loop-tx.invariant ∙ judged-err link _ _ _ _ (drop_more c.args.txs.now c.loop-tx.tx-index _ c.loop-tx-test.true) said)

pub loop-tx-preserved : goal.loop-tx-preserved
loop-tx-preserved c =
    let link = c.args.link.now in
    let said = rw c.tx.ensures at c.in_ok-shares_of.ensures.said in
    c.loop-tx.invariant ∙ judged-ok link _ _ _ _ (drop_more c.args.txs.now c.loop-tx.tx-index _ c.loop-tx-test.true) said

pub returns-clause-said : goal.returns-clause-said
returns-clause-said c = c.loop-tx.invariant
    ∙ judged-none c.args.link.now _ (omega (arith, length-drop c.loop-tx.tx-index c.args.txs.now, c.loop-tx-test.false))

pub returns-clause-accepted : goal.returns-clause-accepted
returns-clause-accepted c =
    all-accepted-by c.args.link.now c.args.txs.now
    (c.loop-tx.invariant ∙ judged-none c.args.link.now _
    (omega (arith, length-drop c.loop-tx.tx-index c.args.txs.now, c.loop-tx-test.false)))
