use Rattle.nr_lifting.proofs.Names.{ap, arith, length, sym, ◌*◌, ◌∙◌}
use Rattle.nr_lifting.proofs.{CountViewFacts.counts_long, DoubledLaneFacts.blocks_alike}
use Rattle.nr_lifting.proofs.lanes.bit_sliced_counts.BitSlicedCounts.copy_from.Goals as goal

-- as many counts are in as many blocks
pub copy_from_slice-requires : goal.copy_from_slice-requires
copy_from_slice-requires g c =
    let own = c.self.inside in
    let other = c.from.inside in
    let size = ap (λ v. v.lanes) c.self.view_is ∙ c.requires.lanes ∙ sym (ap (λ v. v.lanes) c.from.view_is) in
    let alike = blocks_alike (length own.blocks.items) (length other.blocks.items) own.size c.self.invariant.some
    (sym (counts_long own.size c.self.invariant.some own.blocks.items) ∙ ap (λ v. length v.items) c.self.view_is
    ∙ c.requires.long ∙ sym (ap (λ v. length v.items) c.from.view_is)
    ∙ counts_long other.size c.from.invariant.some other.blocks.items
    ∙ ap (λ z. length other.blocks.items * z) (sym size)) in
    omega (arith, alike, ap length c.deref.ensures.value)
