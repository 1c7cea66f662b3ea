use Rattle.std.proofs.Common.{rules}
use Rattle.nr_drawing.proofs.Common.{arith, get_or, get_or-replicate, length, length-set, refl, seeded, ℕ, ◌<◌, ◌∙◌}
use Rattle.nr_drawing.proofs.SideFacts.{among_few, arrived_more, counted_next, next_more, none_drawn}
use Rattle.nr_drawing.proofs.side.draw_side.Goals as goal

pub loop-m-init : goal.loop-m-init
loop-m-init c = record {
  arrived = λ j k short lt. absurd (omega (arith, lt));
  counted = λ j is. get_or-replicate 64 j 0 0 (among_few c.args.listed.now j c.requires.listed is);
  most = λ j short. omega (arith, get_or-replicate {A = ℕ} 64 j 0 0 short);
  next = λ j n short. none_drawn c.args.threshold n (get_or c.args.generators.now j (seeded 0));
  long = refl;
  all = c.requires.generators;
}

pub draw_few-requires-clause-few : goal.draw_few-requires-clause-few
draw_few-requires-clause-few c = λ j short. omega (arith, c.loop-m.invariant.most j short, c.requires.few, c.loop-m-test.true)

-- one more place
pub loop-m-preserved : goal.loop-m-preserved
loop-m-preserved c =
    let m = c.loop-m.m in
    let inv = c.loop-m.invariant in
    let inside : m < length c.loop-m.arrived = omega (arith, inv.long, c.loop-m-test.true) in
    let start = λ (j : ℕ). get_or c.args.generators.now j (seeded 0) in
    let now = λ (j : ℕ). get_or c.loop-m.generators j (seeded 0) in
    record {
      arrived = λ j k short lt.
          arrived_more c.loop-m.arrived c.args.threshold m j k c.draw_few.result (start j) (now j)
          (among_few c.args.listed.now j c.requires.listed short) (search rules) inside
          (c.draw_few.ensures.drawn j short) (λ n. inv.next j n short) (inv.arrived j k short) lt;
      counted = λ j short.
          counted_next c.args.threshold m (start j) (now j) _ _ _ (c.draw_few.ensures.drawn j short) (λ n. inv.next j n short)
          (inv.counted j short) (c.draw_few.ensures.counted j short);
      most = λ j short. omega (arith, inv.most j short, c.draw_few.ensures.most j short);
      next = λ j n short.
          next_more c.args.threshold m n (start j) (now j) _ (c.draw_few.ensures.next j short) (λ k. inv.next j k short);
      long = length-set c.loop-m.arrived m _ ∙ inv.long;
      all = c.draw_few.ensures.long ∙ inv.all;
    }
