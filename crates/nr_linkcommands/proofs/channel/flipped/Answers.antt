use Rattle.nr_linkcommands.proofs.Common.{ap, arith, bit, is_named, ◌*◌, ◌+◌, ◌<◌, ◌∙◌, ◌⊕◌}
use Rattle.nr_linkcommands.proofs.ReceptionFacts.{bit-firsts, firsts, none-flipped, turned-all, turned-more, xor-marked}
use Rattle.nr_linkcommands.proofs.channel.flipped.Goals as goal

pub returns-in-Nothing : goal.returns-in-Nothing
returns-in-Nothing c =
    none-flipped c.args.flip.now c.args.bits.items c.in-Nothing.is

-- one more word is xored, and the others are unchanged
pub loop-i-preserved : goal.loop-i-preserved
loop-i-preserved c =
    let inv = c.loop-i.invariant in
    let flip = c.args.flip.now in
    let bits = c.args.bits.items in
    let n = 64 * c.loop-i.i in
    let count = c.len-count.result in
    turned-more (bit bits) (λ m. is_named flip m ⊕ bit bits m) count c.loop-i.i c.min-wide.result _ c.loop-i.bits.items
    c.put.new.self.items
    (c.min-wide.ensures) c.put.ensures.within c.put.ensures.before c.put.ensures.after c.put.ensures.long
    (λ t below.
    let short : t < 64 = omega (arith, below, c.min-wide.ensures) in
    let inside : n + t < count = omega (arith, below, c.min-wide.ensures, c.loop-i-test.true, c.div_ceil-i-end.ensures) in
    xor-marked c.window.result c.window-in-loop-i.result t (is_named flip (n + t)) (bit bits (n + t))
    (c.window.ensures t short ∙ ap (λ l. bit l (n + t)) c.in_ok-flips.ensures
    ∙ bit-firsts (is_named flip) count (n + t) inside)
    (c.window-in-loop-i.ensures t short ∙ inv.behind (n + t) (omega arith)))
    inv

pub returns : goal.returns
returns c =
    turned-all (bit c.args.bits.items) (λ m. is_named c.args.flip.now m ⊕ bit c.args.bits.items m) c.len-count.result c.loop-i.i
    c.loop-i.bits.items
    (omega (arith, c.loop-i-test.false, c.div_ceil-i-end.ensures)) c.loop-i.invariant
    ∙ ap (firsts (λ m. is_named c.args.flip.now m ⊕ bit c.args.bits.items m)) c.len-count.ensures.value
