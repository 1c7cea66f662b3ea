use Rattle.std.proofs.Common.{◌∙◌, ◌≡◌, ◌-◌, ◌*◌, ◌%◌, ◌==◌, arith, false, length, refl, sym, true}
use Rattle.std.proofs.lemmas.Bool.{eq-eqb, ne_eqb}
use Rattle.std.proofs.lemmas.Bool.Decides.{nat_tests}
use Rattle.std.specs.Prelude.{nat_le}
use Rattle.nr_graphpick.specs.Graph.{cols_of}
use Rattle.nr_ratematch.specs.Lengths.{is_order}
use Rattle.nr_calls.specs.Matching.{matching_judged}
use Rattle.nr_calls.specs.Stages.{is_told}
use Rattle.nr_calls.proofs.matching.judge_bits.Goals as goal

-- All tests before were passed, so the first cause is that Qm does not divide E.
pub returns-then-e-numbers-ne0-clause-said : goal.returns-then-e-numbers-ne0-clause-said
unfolding matching_judged
returns-then-e-numbers-ne0-clause-said c =
    let m = c.args.numbers.now in
    let b = c.args.buffer.now in
    let d = c.args.d.now in
    let version : nat_le m.rv 3 ≡ true = grind (arith, nat_tests) in
    let order : is_order m.qm ≡ true = sym c.is_order.ensures.value ∙ c.if-not-is_order.false in
    let long : length d ≡ (cols_of b.graph - 2) * b.z =
    rw (c.requires.graph, c.requires.lifted) (c.if-d-plan.false ∙ c.args.plan.now.sound.coded) in
    let told : is_told b d ≡ true =
    sym (c.is_told.ensures b c.requires.lifted c.requires.filled c.requires.whole) ∙ c.if-not-is_told.false in
    let few : nat_le c.args.e 4194304 ≡ true = grind (arith, nat_tests) in
    let ragged : (c.args.e % m.qm == 0) ≡ false = ne_eqb _ _ c.if-e-numbers-ne0.true in
    rw (version, order, eq-eqb _ _ long, told, few, ragged) refl
