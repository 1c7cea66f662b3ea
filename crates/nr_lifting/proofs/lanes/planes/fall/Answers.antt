use Rattle.nr_lifting.proofs.Names.{arith, refl, set, ℕ, ◌*◌, ◌+◌, ◌-◌, ◌<◌, ◌≡◌}
use Rattle.nr_lifting.proofs.LaneBitFacts.{made_next, made_two, added_bit, without_bit, word_bit}
use Rattle.nr_lifting.proofs.lanes.planes.fall.Goals as goal

-- the next two words fall
pub loop-k-preserved : goal.loop-k-preserved
loop-k-preserved g c =
    let i = 2 * c.loop-k.k in
    let plane = c.args.plane.now in
    let lane = c.args.lane.now in
    let h = c.loop-k.invariant in
    let first = h.falls.kept i (omega arith) in
    let second = h.falls.kept (i + 1) (omega arith) in
    record {
      falls = made_two i _ _ c.loop-k.plane plane _ _ h.falls (omega arith)
          (omega (arith, h.falls.long, c.told-plane, c.loop-k-test.true))
          (λ j short. added_bit plane lane i j _ _ first refl short)
          (λ j short. added_bit plane lane (i + 1) j _ _ second refl short);
      borrows = made_two i _ _ c.loop-k.left lane _ _ h.borrows (omega arith)
          (omega (arith, h.borrows.long, c.told-lane, c.loop-k-test.true))
          (λ j short. without_bit lane plane i j _ _ refl first (omega (arith, first)) short)
          (λ j short. without_bit lane plane (i + 1) j _ _ refl second (omega (arith, second)) short);
    }

-- the last of an odd number of words falls
pub returns-then-this-eq1 : goal.returns-then-this-eq1
returns-then-this-eq1 g c =
    let n = g.row.W - 1 in
    let plane = c.args.plane.now in
    let lane = c.args.lane.now in
    let word = c.fall_word-word.result in
    let last : 2 * c.loop-k.k ≡ n = omega arith in
    let falls = rw last at c.loop-k.invariant.falls in
    let borrows = rw last at c.loop-k.invariant.borrows in
    let old = λ (j : ℕ) (short : j < 64). word_bit n j _ plane (falls.kept n (omega arith)) short in
    let marked = λ (j : ℕ) (short : j < 64). word_bit n j _ lane refl short in
    let fallen =
    made_next n _ (set c.loop-k.plane n word.0) c.loop-k.plane plane word.0 falls (omega (arith, falls.long, c.told-plane)) refl
    (λ j short. omega (arith, c.fall_word-word.ensures.falls j short, old j short, marked j short)) in
    let left =
    made_next n _ (set c.loop-k.left n word.1) c.loop-k.left lane word.1 borrows (omega (arith, borrows.long, c.told-lane)) refl
    (λ j short. omega (arith, c.fall_word-word.ensures.borrows j short, old j short, marked j short)) in
    record {
      falls = λ t below. fallen.done t (omega (arith, below));
      borrows = λ t below. left.done t (omega (arith, below));
    }

-- all words of an even number have fallen
pub returns-else-this-eq1 : goal.returns-else-this-eq1
returns-else-this-eq1 g c = record {
  falls = λ t below. c.loop-k.invariant.falls.done t (omega (arith, below));
  borrows = λ t below. c.loop-k.invariant.borrows.done t (omega (arith, below));
}
