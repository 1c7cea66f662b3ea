use Rattle.nr_bitvec.proofs.Common.{◌∙◌, ap, take, length, arith, HoldsOctets}
use Rattle.nr_bitvec.proofs.PushedWordFacts.{writes_all}
use Rattle.std.proofs.lemmas.List.{take_at}
use Rattle.nr_bitvec.proofs.bits.Bits.to_bytes.Goals as goal

-- no more octets than the list needs
pub returns : goal.returns
returns c =
    let writes : HoldsOctets c.self.inside.words.items c.write_octets.new.octets (length c.self.inside.words.items) =
    rw c.deref.ensures.value at c.write_octets.ensures in
    rw (← c.self.view_is) (c.truncate.ensures.items
    ∙ ap (take c.div_ceil.result)
    (take_at c.write_octets.new.octets _ _ (omega (arith, writes.long, c.in_ok-octets.ensures.len, c.len.ensures)))
    ∙ writes_all c.self.inside.len c.self.inside.words.items c.write_octets.new.octets _ c.div_ceil.result c.self.invariant writes
    (omega arith) c.div_ceil.ensures)
