use Rattle.std.proofs.Common.{rules}
use Rattle.nr_drawing.proofs.Common.{ap, arith, get_or, get_or-replicate, length, length-set, refl, seeded}
use Rattle.nr_drawing.proofs.Common.{slice_index, ℕ, ◌<◌, ◌∙◌}
use Rattle.nr_drawing.proofs.Common.{Bool, if◌then◌else◌, marks_drawn, nat_tests, ◌+◌, ◌++◌, ◌≡◌, ◌≤◌}
use Rattle.nr_drawing.specs.inside.Streams.{on_stream}
use Rattle.nr_drawing.proofs.SideFacts.{arrived_more, counted_next, next_more, none_drawn}
use Rattle.nr_drawing.proofs.states.draw_all.Goals as goal

pub loop-m-init : goal.loop-m-init
loop-m-init c = record {
  arrived = λ j k short lt. absurd (omega (arith, lt));
  counted = λ j short. get_or-replicate 64 j 0 0 short;
  most = λ j short. omega (arith, get_or-replicate {A = ℕ} 64 j 0 0 short);
  next = λ j n short. none_drawn c.args.threshold n (get_or c.args.generators.now j (seeded 0))
      ∙ ap (λ g. marks_drawn c.args.threshold 0 (get_or c.args.generators.now j (seeded 0)) ++ marks_drawn c.args.threshold n g)
      (c.requires.states j short);
  long = refl;
  all = c.requires.generators;
}

most-more : (old new m : ℕ) (b : Bool) → new ≡ old + (if b then 1 else 0) → old ≤ m → new ≤ m + 1
most-more old new m b is le = grind (arith, nat_tests)

-- one more place
pub loop-m-preserved : goal.loop-m-preserved
loop-m-preserved c =
    let m = c.loop-m.m in
    let inv = c.loop-m.invariant in
    let inside : m < length c.loop-m.arrived = omega (arith, inv.long, c.loop-m-test.true) in
    let start = λ (j : ℕ). get_or c.args.generators.now j (seeded 0) in
    let now = λ (j : ℕ). on_stream (slice_index c.loop-m.states j) in
    record {
      arrived = λ j k short lt.
          arrived_more c.loop-m.arrived c.args.threshold m j k c.draw_word.result (start j) (now j)
          short (search rules) inside
          (c.draw_word.ensures.drawn j short) (λ n. inv.next j n short) (inv.arrived j k short) lt;
      counted = λ j short.
          counted_next c.args.threshold m (start j) (now j) _ _ _ (c.draw_word.ensures.drawn j short) (λ n. inv.next j n short)
          (inv.counted j short) (c.draw_word.ensures.counted j short);
      most = λ j short. most-more _ _ m _ (c.draw_word.ensures.counted j short) (inv.most j short);
      next = λ j n short.
          next_more c.args.threshold m n (start j) (now j) _ (c.draw_word.ensures.next j short) (λ k. inv.next j k short);
      long = length-set c.loop-m.arrived m _ ∙ inv.long;
      all = inv.all;
    }

pub draw_word-requires : goal.draw_word-requires
draw_word-requires c = record {
  few = λ j short. omega (arith, c.loop-m.invariant.most j short, c.requires.few, c.loop-m-test.true);
}
