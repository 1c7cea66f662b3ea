use Rattle.nr_blockdesk.proofs.{Common.arith, Common.rules, Common.selected_says, TurnFacts.fold_more, TurnFacts.fold_none}
use Rattle.nr_blockdesk.proofs.selected.Selected.fold.Goals as goal

pub loop-at-init : goal.loop-at-init
loop-at-init c = record {
  said = λ one k v. fold_none (selected_says c.args.self.now) c.args.from k v;
  long = search rules;
  both = c.requires.both;
  room = λ n has. has;
  below = omega arith;
}

-- one word more is folded into the first turn
pub loop-at-preserved : goal.loop-at-preserved
loop-at-preserved c =
    let inv = c.loop-at.invariant in
    let e = c.fold_word-one_bit.ensures in
    record {
      said = fold_more (selected_says c.args.self.now) (selected_says c.loop-at.self)
          (selected_says c.fold_word-one_bit.new.self) c.args.from c.loop-at.at c.min-some.result
          (omega (arith, c.min-some.ensures, c.requires.apart, c.loop-at-test.true)) c.loop-at.one_bit c.fold_word-one_bit.result
          inv.said e.said;
      long = omega (arith, e.long, inv.long);
      both = omega (arith, e.both, inv.long);
      room = λ n has. e.room n (inv.room n has);
      below = omega (arith, c.min-some.ensures, c.loop-at-test.true);
    }
