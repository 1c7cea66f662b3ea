use Rattle.std.proofs.Common.{◌∙◌, ap, arith, flat_map, ◌/◌}
use Rattle.nr_bitvec.specs.BitList.{bits_of}
use Rattle.nr_blockdesk.specs.Link.{link_said}
use Rattle.nr_blockdesk.specs.Sent.{sent}
use Rattle.nr_calls.specs.Crossing.{tx_of}
use Rattle.nr_calls.proofs.ManySentFacts.{row-bits, rows-done, rows-more}
use Rattle.nr_calls.proofs.many_sent.send_rows.Goals as goal

pub sender_over-requires : goal.sender_over-requires
sender_over-requires c =
    ap (link_said c.args.table.now c.args.params.settings)
    (row-bits c.args.table.now c.args.params.settings c.args.params.a c.args.link.now c.args.blocks.count c.loop-k.k
    c.args.blocks.octets.now c.is_sound.ensures c.requires.linked c.loop-k-test.true c.requires.whole)
    ∙ c.requires.linked

pub loop-k-preserved : goal.loop-k-preserved
loop-k-preserved c =
    rows-more (λ row. flat_map (λ t. sent c.args.link.now (tx_of t) (bits_of row)) c.args.txs.now) (c.args.params.a / 8)
    c.args.blocks.count c.loop-k.k c.args.blocks.octets.now _ c.loop-k-test.true
    (rw (c.in_ok-sender.ensures.link, c.in_ok-sender.ensures.block, c.loop-k.invariant) at c.in_ok-send_each.ensures.sent)

pub returns-clause-sent : goal.returns-clause-sent
returns-clause-sent c =
    rows-done (λ row. flat_map (λ t. sent c.args.link.now (tx_of t) (bits_of row)) c.args.txs.now) (c.args.params.a / 8)
    c.args.blocks.count c.loop-k.k c.args.blocks.octets.now _ (omega (arith, c.loop-k-test.false, c.loop-k.auto.k-end))
    c.loop-k.invariant
