use Rattle.nr_calls.proofs.Common.{◌≡◌, ◌≢◌, ◌*◌, ◌∙◌, length, list_all, eq-eqb, ne_eqb, is_digit, refl}
use Rattle.nr_calls.proofs.Common.{rules, sym, true}
use Rattle.nr_calls.specs.Joining.{joining_said}
use Rattle.nr_calls.proofs.joining.join_plan.Goals as goal

-- All tests before were passed, so the first cause is the room for the transport block.
pub returns-then-block-from-clause-said : goal.returns-then-block-from-clause-said
unfolding joining_said
returns-then-block-from-clause-said c =
    let p = c.in_ok-plan.plan in
    let octets = c.args.octets.now in
    let long : length octets ≡ p.c * p.kdash = search rules in
    let bits : list_all is_digit octets ≡ true = sym c.are_bits.ensures ∙ c.if-not-are_bits.false in
    let other : 8 * c.args.block ≢ c.args.a = λ e. c.if-block-from.true (e ∙ sym c.from-3.ensures) in
    rw (c.in_ok-plan.ensures.said, eq-eqb _ _ long, bits, eq-eqb _ _ c.if-passed-plan.false, ne_eqb _ _ other) refl

pub returns-clause-said : goal.returns-clause-said
unfolding joining_said
returns-clause-said c =
    let p = c.in_ok-plan.plan in
    let octets = c.args.octets.now in
    let long : length octets ≡ p.c * p.kdash = search rules in
    let bits : list_all is_digit octets ≡ true = sym c.are_bits.ensures ∙ c.if-not-are_bits.false in
    let same : 8 * c.args.block ≡ c.args.a = c.if-block-from.false ∙ c.from-3.ensures in
    rw (c.in_ok-plan.ensures.said, eq-eqb _ _ long, bits, eq-eqb _ _ c.if-passed-plan.false, eq-eqb _ _ same) refl
