use Rattle.nr_calls.proofs.Common.{◌≡◌, ◌≢◌, ℕ, ◌+◌, ◌*◌, ◌<◌, ap, ◌∙◌, arith, below_more, get_or}
use Rattle.nr_calls.proofs.Common.{get_or-set_other, get_or-set_same, false, length, get_or-replicate, length-replicate}
use Rattle.nr_calls.proofs.{Common.positions_of, StageFacts.columns-after, StageFacts.word-is}
use Rattle.std.proofs.Math.ListN.{length-set}
use Rattle.nr_calls.proofs.stages.full_word.Goals as goal

pub loop-n-init : goal.loop-n-init
loop-n-init c =
    let p = c.args.plan.now in
    let all : positions_of p ≡ 2 * p.z + p.n = columns-after p.graph p.z p.n p.sound.coded in
    record {
      long = ap length c.in_ok-word.ensures ∙ length-replicate (positions_of p) false;
      front = λ k low. ap (λ w. get_or w k false) c.in_ok-word.ensures
          ∙ get_or-replicate (positions_of p) k false false (omega (arith, low, all));
      so_far = λ k none. absurd (omega (arith, none));
    }

pub set-requires : goal.set-requires
set-requires c =
    let p = c.args.plan.now in
    omega (arith, c.loop-n.invariant.long, columns-after p.graph p.z p.n p.sound.coded, c.requires)

-- Bit n of d is set after the first two columns. These stay zeros, and the bits that were set before stay too.
pub loop-n-preserved : goal.loop-n-preserved
loop-n-preserved c =
    let p = c.args.plan.now in
    let at : ℕ = 2 * p.z + c.loop-n.n in
    let long = c.loop-n.invariant.long in
    let within : at < length c.loop-n.word = omega (arith, long, columns-after p.graph p.z p.n p.sound.coded, c.requires) in
    let same : length c.set.new.self ≡ length c.loop-n.word = ap length c.set.ensures ∙ simp length-set in
    record {
      long = same ∙ long;
      front = λ k low.
          let other : k ≢ at = omega (arith, low) in
          ap (λ w. get_or w k false) c.set.ensures ∙ get_or-set_other c.loop-n.word at k _ false other
          ∙ c.loop-n.invariant.front k low;
      so_far = below_more _ _
          (λ k lt.
          let other : 2 * p.z + k ≢ at = omega (arith, lt) in
          ap (λ w. get_or w (2 * p.z + k) false) c.set.ensures ∙ get_or-set_other c.loop-n.word at (2 * p.z + k) _ false other
          ∙ c.loop-n.invariant.so_far k lt)
          (ap (λ w. get_or w at false) c.set.ensures ∙ get_or-set_same c.loop-n.word at _ false within);
    }

pub returns-clause-word : goal.returns-clause-word
returns-clause-word c =
    let p = c.args.plan.now in
    let inv = c.loop-n.invariant in
    word-is c.loop-n.word p.z p.n c.args.d.now (inv.long ∙ columns-after p.graph p.z p.n p.sound.coded) c.requires inv.front
    (λ k below. inv.so_far k (omega (arith, below, c.requires)))
