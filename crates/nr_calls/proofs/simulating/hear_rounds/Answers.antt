use Rattle.std.proofs.Common.{◌≡◌, ◌≤◌, ◌∙◌, ℕ, ◌+◌, ◌-◌, ◌*◌, drop, take, length}
use Rattle.std.proofs.Common.{length-drop, ap, sym, refl, arith}
use Rattle.std.proofs.Common.{add-mul}
use Rattle.std.proofs.lemmas.List.{drop-drop}
use Rattle.nr_calls.specs.Simulating.{drawn_round}
use Rattle.nr_calls.proofs.BatchRoundFacts.{round-of, simulated-joined, simulated-none}
use Rattle.nr_calls.proofs.simulating.hear_rounds.Goals as goal

-- Before the first batch there is no result, and the seeds of all rounds are still to come.
pub batches-init : goal.batches-init
batches-init c =
    let t : ℕ = length c.args.txs.now in
    let none : 0 * t ≡ 0 = omega arith in
    let all : c.args.room.delivered - 0 ≡ c.args.room.delivered = omega arith in
    record {
      so_far = λ block whole. rw (c.in_ok-delivered.ensures.items, c.in_ok-left.ensures.items, c.in_ok-erased.ensures.items)
          (simulated-none c.args.link.now block (drawn_round c.args.txs.now c.args.thresholds.now c.args.seeds.now) t);
      within = omega arith;
      left = rw none refl;
      long = rw all c.requires.seeds;
    }

-- Round j of a batch is round `done + j` of all and has its seeds, so the batch's results follow those before.
pub batches-preserved : goal.batches-preserved
batches-preserved c =
    let txs = c.args.txs.now in
    let seeds = c.args.seeds.now in
    let t : ℕ = length txs in
    let n = c.batches.done in
    let m = c.min-few.result in
    let part = c.split_at.result.0.now in
    let inv = c.batches.invariant in
    let own : part ≡ take (m * t) (drop (n * t) seeds) = c.split_at.ensures.front ∙ ap (take (m * t)) inv.left in
    let next : n * t + m * t ≡ (n + m) * t = sym (add-mul n m t) in
    let fits : n + m ≤ c.args.room.delivered = omega (arith, c.min-few.ensures, inv.within) in
    let rest : ℕ = c.args.room.delivered - (n + m) in
    let parts : c.args.room.delivered - n ≡ m + rest = omega (arith, fits) in
    let long : length c.batches.later.now ≡ m * t + rest * t = inv.long ∙ ap (λ k. k * t) parts ∙ add-mul m rest t in
    record {
      so_far = λ block whole.
          simulated-joined c.args.link.now block (drawn_round txs c.args.thresholds.now seeds)
          (drawn_round txs c.args.thresholds.now part)
          t n m _ _ _ _ _ _ (inv.so_far block whole) (λ j lt. round-of txs c.args.thresholds.now seeds part n m j own lt)
          (c.in_ok-hear_batch.ensures.delivered block whole) (c.in_ok-hear_batch.ensures.left block whole)
          (c.in_ok-hear_batch.ensures.erased block whole);
      within = fits;
      left = c.split_at.ensures.back ∙ ap (drop (m * t)) inv.left ∙ drop-drop (m * t) (n * t) seeds
          ∙ ap (λ k. drop k seeds) next;
      long = ap length c.split_at.ensures.back ∙ omega (arith, length-drop (m * t) c.batches.later.now, long);
    }
