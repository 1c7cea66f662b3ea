use Rattle.nr_bitvec.proofs.OctetReversalFacts.{filled-long, filled-octet, octets-place}
use Rattle.nr_bitvec.proofs.octets.word_of_octets.Goals as goal

pub returns : goal.returns
returns c =
    octets-place c.args.group.now _ c.from_le_bytes.result c.turned.result
    (filled-long c.args.group.now c.copy_from_slice.new.self c.copy_from_slice.ensures.after c.requires)
    (filled-octet c.args.group.now c.copy_from_slice.new.self c.copy_from_slice.ensures.after c.requires)
    (λ i. (c.type_inv.group i).fits) c.from_le_bytes.type_inv c.from_le_bytes.ensures c.turned.ensures
