use Rattle.nr_lifting.proofs.Names.{ap, arith, length, sym, ◌*◌, ◌∙◌}
use Rattle.nr_lifting.proofs.DoubledLaneFacts.{blocks_alike, lanes_are, long_is}
use Rattle.nr_lifting.proofs.lanes.doubled_lanes.DoubledLanes.copy_from.Goals as goal

-- as many bits are in as many blocks
pub copy_from_slice-requires : goal.copy_from_slice-requires
copy_from_slice-requires g c =
    let own = c.self.inside in
    let other = c.from.inside in
    let size = lanes_are c.self.invariant c.self.view_is ∙ c.requires.lanes ∙ sym (lanes_are c.from.invariant c.from.view_is) in
    let alike = blocks_alike (length own.blocks.items) (length other.blocks.items) own.size c.self.invariant.some
    (sym (long_is own.size c.self.invariant.some own.blocks.items) ∙ ap (λ v. length v.items) c.self.view_is
    ∙ c.requires.long ∙ sym (ap (λ v. length v.items) c.from.view_is)
    ∙ long_is other.size c.from.invariant.some other.blocks.items
    ∙ ap (λ z. length other.blocks.items * z) (sym size)) in
    omega (arith, alike, ap length c.deref.ensures.value)
