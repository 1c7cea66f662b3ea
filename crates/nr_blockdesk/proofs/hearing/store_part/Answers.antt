use Rattle.nr_blockdesk.proofs.Common.{length, sym, ◌∙◌, heards_of, received_marks, part_hearings}
use Rattle.nr_blockdesk.proofs.SelectedBitFacts.{says-part}
use Rattle.nr_blockdesk.proofs.hearing.store_part.Goals as goal

-- the masks have exactly what the part's places tell
pub returns-then-gather_part-clause-stored : goal.returns-then-gather_part-clause-stored
returns-then-gather_part-clause-stored c =
    let part = c.args.part.now in
    let arrival = part.arrival.now in
    let b = arrival.buffer.now in
    let tx = arrival.tx.now in
    c.absorb.ensures.stored (part_hearings b tx (heards_of part) (length (heards_of part)))
    (λ p v. sym (c.gather_part.ensures.part_masks c.if-gather_part.true p v
    ∙ says-part b tx arrival.marks.now.heard.items arrival.marks.now.value.items
    (received_marks c.load.new.self) c.load.new.self.value.items part.from part.count arrival.shared.order_some part.whole
    part.inside arrival.marks.now.both c.load.ensures.marks c.load.ensures.bits p v))
