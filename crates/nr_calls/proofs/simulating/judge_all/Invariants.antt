use Rattle.nr_calls.proofs.Common.{◌≡◌, drop, txs_said}
use Rattle.nr_calls.proofs.simulating.judge_all.Given as goal

-- the result for all is the result for those that are left
abbrev pub invariant-loop-tx : goal.invariant-loop-tx
invariant-loop-tx l = txs_said l.link l.txs ≡ txs_said l.link (drop l.tx-index l.txs)
