use Rattle.nr_lifting.proofs.Names.{ap, arith, bit_at_xor, get_or, place, refl, ◌%◌, ◌*◌, ◌+◌, ◌/◌, ◌==◌}
use Rattle.nr_lifting.proofs.{Names.◌∙◌, Names.◌≡◌, LaneBitFacts.made_next, LaneBitFacts.word_bit}
use Rattle.nr_lifting.proofs.LaneViewFacts.{place-lt, sum_bits}
use Rattle.nr_lifting.proofs.lanes.doubled_words.add_window.Goals as goal

-- the next word gains its places
pub loop-k-preserved : goal.loop-k-preserved
loop-k-preserved g c =
    let k = c.loop-k.k in
    let p = c.args.p in
    made_next _ _ _ _ _ _ c.loop-k.invariant (omega (arith, c.loop-k.invariant.long)) refl
    (λ j short.
    let was = word_bit k j _ c.args.sum.now (c.loop-k.invariant.kept k (omega arith)) short in
    let here : 64 * (c.args.at + p / 64 + k) + p % 64 + j ≡ 64 * c.args.at + p + (64 * k + j) = omega arith in
    omega (
      arith,
      bit_at_xor (get_or c.loop-k.sum k 0) c.piece.result j,
      was,
      c.piece.ensures j short ∙ ap (place c.args.words.now) here,
    ))

pub returns : goal.returns
returns g c = λ t below.
    let at = 64 * c.args.at + c.args.p + t in
    ap (λ n. n == 1) (c.loop-k.invariant.done t (omega (arith, below)))
    ∙ sum_bits (place c.args.sum.now t) (place c.args.words.now at) (place-lt c.args.sum.now t) (place-lt c.args.words.now at)
