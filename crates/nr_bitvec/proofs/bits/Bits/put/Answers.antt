use Rattle.nr_bitvec.proofs.Common.{◌≡◌, ℕ, ◌+◌, ◌≤◌, ◌/◌, List, ap, length, set, arith, BitList}
use Rattle.nr_bitvec.proofs.{Common.bits_of_words, PlaceFacts.length-unpacked}
use Rattle.nr_bitvec.proofs.PackedListFacts.{Puts, put-none, puts, puts-word}
use Rattle.nr_bitvec.proofs.bits.Bits.put.Goals as goal

-- the bits that are put are within the list
within : (at count n r : ℕ) (ws : List ℕ) (b : BitList) → record { items = bits_of_words n ws; room = r } ≡ b
    → at + count ≤ length b.items → at + count ≤ n
within at count n r ws b e h = omega (arith, h, length-unpacked n ws, ap (λ (c : BitList). length c.items) e)

pub flip-requires : goal.flip-requires
flip-requires c =
    λ j. put-none c.self.inside.len c.self.inside.words.items c.args.at c.args.count c.args.word c.change-added.result j
    c.self.invariant (within c.args.at c.args.count c.self.inside.len _ c.self.inside.words.items c.args.self.now c.self.view_is
    c.requires.inside) (rw c.deref.ensures.value at c.change-added.ensures)

-- what the write makes of the list
put : (c : goal.After-flip)
    → Puts c.self.inside.len c.args.at c.args.count c.args.word c.self.inside.words.items c.flip.new.words.items
put c =
    puts c.self.inside.len c.self.inside.words.items c.flip.new.words.items c.args.at c.args.count c.args.word c.change-added.result
    c.self.invariant (within c.args.at c.args.count c.self.inside.len _ c.self.inside.words.items c.args.self.now c.self.view_is
    c.requires.inside) (rw c.deref.ensures.value at c.change-added.ensures)
    (omega (arith, c.flip.ensures.len)) c.flip.ensures.places

pub invariant_of-self-2 : goal.invariant_of-self-2
invariant_of-self-2 c = (put c).packed

pub returns-clause-within : goal.returns-clause-within
returns-clause-within c = (put c).within

pub returns-clause-before : goal.returns-clause-before
returns-clause-before c = rw (← c.self.view_is) (put c).before

pub returns-clause-after : goal.returns-clause-after
returns-clause-after c = rw (← c.self.view_is) (put c).after

-- a whole word
stored : (c : goal.After-self-1)
    → Puts c.self.inside.len c.args.at c.args.count c.args.word c.self.inside.words.items
    (set c.self.inside.words.items (c.args.at / 64) c.args.word)
stored c = puts-word c.self.inside.len c.args.at c.args.count c.args.word c.self.inside.words.items c.self.invariant
    c.if-at-eq0.true c.if-count-eq64.true
    (within c.args.at c.args.count c.self.inside.len _ c.self.inside.words.items c.args.self.now c.self.view_is c.requires.inside)

pub index_mut-requires : goal.index_mut-requires
index_mut-requires c =
    let inside = within c.args.at c.args.count c.self.inside.len _ c.self.inside.words.items c.args.self.now c.self.view_is
    c.requires.inside in
    omega (arith, inside, c.self.invariant.below)

pub invariant_of-self : goal.invariant_of-self
invariant_of-self c = (stored c).packed

pub returns-then-count-eq64-clause-within : goal.returns-then-count-eq64-clause-within
returns-then-count-eq64-clause-within c = (stored c).within

pub returns-then-count-eq64-clause-before : goal.returns-then-count-eq64-clause-before
returns-then-count-eq64-clause-before c = rw (← c.self.view_is) (stored c).before

pub returns-then-count-eq64-clause-after : goal.returns-then-count-eq64-clause-after
returns-then-count-eq64-clause-after c = rw (← c.self.view_is) (stored c).after
