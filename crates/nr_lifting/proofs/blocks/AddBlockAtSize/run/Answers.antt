use Rattle.nr_lifting.proofs.Names.{mod_below, refl, ◌+◌, ◌∙◌, ◌⊕◌}
use Rattle.nr_lifting.proofs.blocks.AddBlockAtSize.run.Goals as goal

pub returns : goal.returns
returns g c = (
  record {
    within = λ t below.
        let src = c.load.ensures.bits _ (mod_below (t + c.args.self.now.p) g.row.Z c.requires.some) in
        c.store.ensures.within t below ∙ c.add_shifted.ensures.sum t below
        ∙ (λ i. c.load-row.ensures.bits t below i ⊕ src i);
    before = c.store.ensures.before;
    after = c.store.ensures.after;
    long = c.store.ensures.long;
  },
  c.store.ensures.room,
  refl,
)
