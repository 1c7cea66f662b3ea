use Rattle.nr_peel.proofs.Common.{◌≡◌, ◌∙◌, not, length, filter, range_with_len, bit, ap, arith, any_known}
use Rattle.nr_peel.proofs.UnknownFacts.{listed_more}
use Rattle.nr_peel.proofs.any_sweep.AnySweep.unknown.Goals as goal

pub loop-at-preserved : goal.loop-at-preserved
loop-at-preserved c = record {
  below = omega (arith, c.known_from-word.ensures.inside, c.requires);
  listed = listed_more _ _ _ _ _ c.known_from-word.ensures.known (rw c.loop-at.invariant.listed at c.in_ok-push_unknown.ensures);
}

pub push_unknown-requires-clause-short : goal.push_unknown-requires-clause-short
push_unknown-requires-clause-short c = omega (arith, c.known_from-word.ensures.inside, c.requires)

pub returns : goal.returns
returns c =
    let all : c.loop-at.at ≡ length (any_known c.args.self.now) =
    omega (arith, c.loop-at.invariant.below, c.loop-at-test.false, c.requires) in
    c.loop-at.invariant.listed ∙ ap (λ n. filter (λ p. not (bit (any_known c.args.self.now) p)) (range_with_len 0 n)) all
