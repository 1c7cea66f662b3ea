use Rattle.nr_lifting.proofs.Names.{arith, mod_below, refl, ◌+◌, ◌≡◌}
use Rattle.nr_lifting.proofs.blocks.TallyBlockAtSize.run.Goals as goal

pub returns : goal.returns
returns g c = (
  record {
    ones_at = λ t below.
        let first : 0 + t ≡ t = omega arith in
        let src = c.load.ensures.bits _ (mod_below (t + c.args.self.now.p) g.row.Z c.requires.some) in
        cc (c.store.ensures.within t below, c.tally.ensures.ones t below, c.load-once.ensures.bits t below, src);
    more_at = λ t below.
        let first : 0 + t ≡ t = omega arith in
        let src = c.load.ensures.bits _ (mod_below (t + c.args.self.now.p) g.row.Z c.requires.some) in
        let was = c.load-twice.ensures.bits t below in
        cc (c.store-2.ensures.within t below, c.tally.ensures.more t below, c.load-once.ensures.bits t below, was, src);
    ones_after = λ t past. c.store.ensures.after t (omega (arith, past));
    more_after = λ t past. c.store-2.ensures.after t (omega (arith, past));
    ones_long = c.store.ensures.long;
    more_long = c.store-2.ensures.long;
  },
  c.store.ensures.room,
  c.store-2.ensures.room,
  refl,
  refl,
)
