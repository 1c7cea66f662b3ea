use Rattle.nr_linkcommands.proofs.{Common.arith, Common.length-map-range_with_len, ReceptionFacts.heard-all}
use Rattle.nr_linkcommands.proofs.channel.arrival_of.Goals as goal

pub invariant_of-result : goal.invariant_of-result
invariant_of-result c = grind (arith, length-map-range_with_len)

pub returns : goal.returns
returns c =
    heard-all c.args.transmission.now c.args.bits.items c.in_ok-heard.heard.items c.in_ok-value.value.items c.len.result
    c.len.ensures.value c.in_ok-heard.ensures c.in_ok-value.ensures
