use Rattle.std.proofs.Common.{◌∙◌, ◌++◌, ℕ, List, ap, length}
use Rattle.std.specs.List.{flat_map, range_with_len}
use Rattle.nr_calls.specs.Simulating.{delivered_within, drawn_round, erased_row, left_row}
use Rattle.nr_calls.proofs.BatchRoundFacts.{same-numbers, same-rows}
use Rattle.nr_calls.proofs.batch.hear_batch.Goals as goal

pub returns-clause-delivered : goal.returns-clause-delivered
returns-clause-delivered c = λ block whole.
    let round = λ (j : ℕ). drawn_round c.args.txs.now c.args.thresholds.now c.args.seeds.now j in
    c.in_ok-push_all.ensures.delivered ∙ ap (λ (l : List ℕ). c.args.rounds.now.delivered.items ++ l)
    (same-numbers _ (λ j. delivered_within c.args.link.now block (round j) (length c.args.txs.now)) c.args.count
    (λ j lt. (c.in_ok-hear_all.ensures.come j block lt whole).delivered_is))

pub returns-clause-left : goal.returns-clause-left
returns-clause-left c = λ block whole.
    let round = λ (j : ℕ). drawn_round c.args.txs.now c.args.thresholds.now c.args.seeds.now j in
    c.in_ok-push_all.ensures.left ∙ ap (λ (l : List ℕ). c.args.rounds.now.left.items ++ l)
    (same-rows _ (λ j. flat_map (left_row c.args.link.now block (round j)) (range_with_len 0 (length c.args.txs.now))) c.args.count
    (λ j lt. (c.in_ok-hear_all.ensures.come j block lt whole).left_is))

pub returns-clause-erased : goal.returns-clause-erased
returns-clause-erased c = λ block whole.
    let round = λ (j : ℕ). drawn_round c.args.txs.now c.args.thresholds.now c.args.seeds.now j in
    c.in_ok-push_all.ensures.erased ∙ ap (λ (l : List ℕ). c.args.rounds.now.erased.items ++ l)
    (same-rows _ (λ j. flat_map (erased_row c.args.link.now block (round j)) (range_with_len 0 (length c.args.txs.now)))
    c.args.count
    (λ j lt. (c.in_ok-hear_all.ensures.come j block lt whole).erased_is))
