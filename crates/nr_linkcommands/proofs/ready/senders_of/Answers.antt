use Rattle.nr_linkcommands.proofs.Common.{[], append-nil, arith, err-is, length, map, senders_from, ◌++◌, ◌<◌, ◌∙◌}
use Rattle.nr_linkcommands.proofs.Common.{◌∷◌, ◌≡◌, drop_all}
use Rattle.nr_linkcommands.proofs.InputLemmas.{senders_turn-err, senders_turn-ok}
use Rattle.std.proofs.lemmas.{List.length-map, Grind.common_steps}
use Rattle.nr_commands.proofs.BlockTextFacts.{octets_at}
use Rattle.nr_linkcommands.proofs.ready.senders_of.Goals as goal

pub returns-in_err-sender-clause-said : goal.returns-in_err-sender-clause-said
returns-in_err-sender-clause-said c =
    let said = rw c.deref.ensures.value at c.in_err-sender.ensures.said in
    let at = octets_at c.args.blocks.now c.loop-index.index _ c.index-blocks-index.is in
    let more : c.loop-index.index < length (map (λ block. block.items) c.args.blocks.now) =
    omega (arith, length-map c.args.blocks.now (λ block. block.items)) in
    rw (err-is c.from_residual.result _ c.from_residual.ensures.1)
    (senders_turn-err _ _ c.loop-index.senders.items c.loop-index.index _ c.index-blocks-index.result.items _ _
    c.loop-index.invariant.so_far more at said)

-- the sender of one more block follows those made, and one block less is left
pub loop-index-preserved : goal.loop-index-preserved
loop-index-preserved c =
    let said = rw c.deref.ensures.value at c.in_ok-sender.ensures.said in
    let at = octets_at c.args.blocks.now c.loop-index.index _ c.index-blocks-index.is in
    let more : c.loop-index.index < length (map (λ block. block.items) c.args.blocks.now) =
    omega (arith, length-map c.args.blocks.now (λ block. block.items)) in
    let push = c.push.ensures.items in
    let pushed : c.push.new.self.items ≡ c.loop-index.senders.items ++ c.in_ok-sender.field-0 ∷ [] =
    grind (arith, common_steps) in
    record {
      count = grind (arith, common_steps);
      so_far =
          rw pushed (senders_turn-ok _ _ c.loop-index.senders.items c.loop-index.index _ c.index-blocks-index.result.items
          c.in_ok-sender.field-0 more at said ∙ c.loop-index.invariant.so_far);
    }

pub returns-clause-said : goal.returns-clause-said
unfolding senders_from
returns-clause-said c = grind (arith, length-map, drop_all, append-nil)
