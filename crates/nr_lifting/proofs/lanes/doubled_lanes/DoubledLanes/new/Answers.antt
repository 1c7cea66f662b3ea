use Rattle.nr_lifting.proofs.Names.{ap, block_bits, length-replicate, replicate, subst, sym, ℕ, ◌∙◌, AreDoubled}
use Rattle.nr_lifting.proofs.DoubledLaneFacts.{cloned, zeros_are, zero_bits}
use Rattle.nr_lifting.proofs.lanes.doubled_lanes.DoubledLanes.new.Goals as goal

pub invariant_of-result : goal.invariant_of-result
invariant_of-result g c =
    let doubled = replicate {A = ℕ} g.row.D 0 in
    let made = c.in_ok-blocks.ensures.items_if_clones_equal (λ y same. cloned doubled y g.row.D same (length-replicate g.row.D 0))
    in
    subst (AreDoubled g.row.W g.row.D c.args.size c.mask_of-mask.result) (sym made)
    (zeros_are c.args.size c.args.count g.row.W g.row.D c.mask_of-mask.result c.mask_of-mask.ensures c.requires.some
    c.requires.short c.requires.words c.requires.twice c.requires.few)

pub returns-clause-items : goal.returns-clause-items
returns-clause-items g c =
    let doubled = replicate {A = ℕ} g.row.D 0 in
    let made = c.in_ok-blocks.ensures.items_if_clones_equal (λ y same. cloned doubled y g.row.D same (length-replicate g.row.D 0))
    in
    ap (λ blocks. (block_bits c.args.size blocks).items) made ∙ zero_bits c.args.size c.args.count g.row.W g.row.D
    c.requires.some
