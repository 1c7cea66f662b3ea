use Rattle.nr_bitvec.proofs.Common.{nat_tests, common_steps, ◌≡◌, ◌*◌, ap, length, arith, BitList}
use Rattle.nr_bitvec.proofs.{PlaceFacts.length-unpacked, PushedWordFacts.filled-packed, PushedWordFacts.filled-items}
use Rattle.nr_bitvec.proofs.bits.Bits.extend_words.Goals as goal

pub push_windows-requires-clause-inside : goal.push_windows-requires-clause-inside
push_windows-requires-clause-inside c = grind (arith, length-unpacked)

pub invariant_of-self : goal.invariant_of-self
invariant_of-self c = grind (arith, common_steps, nat_tests, length-unpacked, filled-packed)

-- The list fills its words, so the windows that are pushed after them are its next bits, 64 of `from` in each.
pub returns-clause-items : goal.returns-clause-items
returns-clause-items c =
    let size = ap (λ (b : BitList). length b.items) c.self.view_is in
    let filled : c.self.inside.len ≡ 64 * length c.self.inside.words.items = omega (
      arith,
      c.requires.filled,
      c.self.invariant.above,
      c.self.invariant.below,
      length-unpacked c.self.inside.len c.self.inside.words.items,
      size,
    ) in
    rw (← c.self.view_is, ← c.from.view_is)
    (filled-items c.self.inside.len c.from.inside.len _ c.args.at c.args.count c.self.inside.words.items c.from.inside.words.items
    c.push_windows.new.words.items filled (omega arith)
    (omega (
      arith,
      c.requires.inside,
      length-unpacked c.from.inside.len c.from.inside.words.items,
      ap (λ (b : BitList). length b.items) c.from.view_is,
    )) (rw c.deref.ensures.value at c.push_windows.ensures.places))
