use Rattle.nr_blockdesk.proofs.Common.{◌∙◌, subst, arith, false≢true, length-map, AreEmpty, CodeBlock}
use Rattle.nr_blockdesk.proofs.ReceptionFacts.{none-of}
use Rattle.nr_blockdesk.proofs.receiver.Receiver.of_stores.Goals as goal

-- a new receiver has a tied peeler for each store, and no candidate yet
pub invariant_of-result : goal.invariant_of-result
invariant_of-result g c =
    let link = c.args.link in
    record {
      is_link = c.is_sound.ensures;
      desk = record {
        stores = c.requires.many;
        peelings = length-map c.in_ok-code_blocks.code_blocks.items (λ (b : CodeBlock g.row.K.Denot). b.peeler)
            ∙ c.in_ok-code_blocks.ensures.many;
        tied = λ r block. rw c.deref.ensures.value at (c.in_ok-code_blocks.ensures.tied r (none-of link) block);
      };
      room = omega (arith, c.in_ok-block.ensures.room, c.plan-plan.ensures.whole);
      sized = c.in_ok-code_blocks.ensures.words;
      candidate = λ read. absurd (false≢true read);
      empty = subst (λ n. AreEmpty n c.in_ok-part_masks.part_masks) c.plan-plan.ensures.positions c.in_ok-part_masks.ensures;
    }
