use Rattle.std.proofs.{Common.drop, Common.length-append, Common.◌/◌, lemmas.List.take_all}
use Rattle.nr_drawing.proofs.Common.{Bool, Lcg, List, [], advance, ap, append-nil, append_assoc, arith, first_words}
use Rattle.nr_drawing.proofs.Common.{length-low_first, marks_drawn, multiplier_64, refl, sym, take, zero-add, ℕ, ◌*◌}
use Rattle.nr_drawing.proofs.Common.{◌++◌, ◌+◌, ◌-◌, ◌∙◌, ◌≡◌}
use Rattle.nr_drawing.proofs.DrawnWordFacts.{marks-split}
use Rattle.nr_drawing.proofs.drawn.Goals as goal

pub loop-init : goal.loop-init
loop-init c = grind arith

pub loop-preserved : goal.loop-preserved
loop-preserved c = grind (arith, append_assoc, length-append, length-low_first)

none : (threshold : ℕ) (g : Lcg) → marks_drawn threshold 0 g ≡ []
unfolding first_words
none threshold g = refl

-- both halves and the rest
joined : (threshold half rest left : ℕ) (g early mid late : Lcg) (marks behind : List Bool) → left ≡ 0
    → mid ≡ advance 64 multiplier_64 half g
    → marks ++ marks_drawn threshold left early ≡ marks_drawn threshold half g
    → ((n : ℕ) → behind ++ marks_drawn threshold (left + n) late ≡ marks_drawn threshold (half + n) mid)
    → (marks ++ behind) ++ marks_drawn threshold rest late ≡ marks_drawn threshold (half + (half + rest)) g
joined threshold half rest left g early mid late marks behind over begins first second =
    let m : marks ≡ marks_drawn threshold half g = rw (over, none threshold early, append-nil) at first in
    let b : behind ++ marks_drawn threshold rest late ≡ marks_drawn threshold (half + rest) mid =
    rw (over, zero-add rest) at (second rest) in
    append_assoc marks behind (marks_drawn threshold rest late)
    ∙ rw (b, m, begins) (sym (marks-split threshold half (half + rest) g))

-- The second generator began as many words on as the first one drew, so its marks follow those of the first. The rest is drawn
-- by the second one too.
pub returns : goal.returns
returns c =
    let half : ℕ = 64 * (c.args.count / 128) in
    let same : c.new-late.result ≡ c.new-early.result = c.new-late.ensures ∙ sym c.new-early.ensures in
    let begins : c.advance.new.self ≡ advance 64 multiplier_64 half c.new-early.result =
    rw (c.from.ensures, same) at c.advance.ensures in
    let all : take half (drop 0 c.loop.behind.items) ≡ c.loop.behind.items =
    take_all half c.loop.behind.items (omega (arith, c.loop.invariant.long_behind)) in
    let both = joined c.args.threshold half (c.args.count - 128 * (c.args.count / 128)) _ _ _ _ _ _ _
    (omega arith) begins c.loop.invariant.early c.loop.invariant.late in
    let total : half + (half + (c.args.count - 128 * (c.args.count / 128))) ≡ c.args.count = omega arith in
    c.push_draws.ensures ∙ rw (c.extend_range.ensures.items, all, both, total)
    (ap (marks_drawn c.args.threshold c.args.count) c.new-early.ensures)
