use Rattle.nr_lifting.proofs.Names.{◌*◌, ◌+◌, ◌/◌, ◌<◌, ◌==◌, ◌∙◌, ◌≡◌, ◌≤◌, mul-le-mul_right}
use Rattle.nr_lifting.proofs.Names.{[], ap, arith, bit, block_bits, get_or_read, is_set, length, mod_below, place, sym, ◌%◌}
use Rattle.nr_lifting.proofs.DoubledLaneFacts.{bit_in, bit_within, long_is}
use Rattle.nr_lifting.proofs.lanes.doubled_lanes.DoubledLanes.word_from.Goals as goal

pub index-requires : goal.index-requires
index-requires g c = omega (arith, bit_within c.self.invariant c.self.view_is c.args.p c.requires)

-- The bits that count end with p's block, so each of them is in the window from p's place on.
pub returns-clause-bits : goal.returns-clause-bits
returns-clause-bits g c = λ j below.
    let z = c.self.inside.size in
    let blocks = c.self.inside.blocks.items in
    let p = c.args.p in
    let t = p % z in
    let within = bit_within c.self.invariant c.self.view_is p c.requires in
    let small : t < z = mod_below p z c.self.invariant.some in
    let inside : t + j < z = omega (arith, below, small, c.min.ensures) in
    let few : j < 64 = omega (arith, below, c.min.ensures) in
    let there : 64 * (t / 64) + t % 64 + j ≡ t + j = omega arith in
    let whole : p / z * z + (t + j) ≡ p + j = omega arith in
    rw (← c.self.view_is) (ap (λ n. n == 1) (c.window-word.ensures j few ∙ ap (place c.index.result.now) there)
    ∙ ap (λ doubled. is_set doubled (t + j)) (get_or_read blocks (p / z) c.index.result.now within c.index.ensures [])
    ∙ sym (bit_in z c.self.invariant.some blocks (p / z) (t + j) inside)
    ∙ ap (bit (block_bits z blocks).items) whole)

pub returns-clause-inside : goal.returns-clause-inside
returns-clause-inside g c =
    let z = c.self.inside.size in
    let blocks = c.self.inside.blocks.items in
    let p = c.args.p in
    let small = mod_below p z c.self.invariant.some in
    let whole : p / z * z + p % z ≡ p = omega arith in
    let block : (p / z + 1) * z ≤ length blocks * z =
    mul-le-mul_right z (omega (arith, bit_within c.self.invariant c.self.view_is p c.requires)) in
    rw (← c.self.view_is) (omega (arith, block, whole, small, c.min.ensures, long_is z c.self.invariant.some blocks))
