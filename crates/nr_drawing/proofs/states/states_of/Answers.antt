use Rattle.std.proofs.Common.{◌&&◌}
use Rattle.rand_pcg.specs.Lcg.{increment_of}
use Rattle.nr_drawing.proofs.Common.{Lcg, ap, arith, cases_eq, false, get_or, get_or-set_other, get_or-set_same, get_or_default}
use Rattle.nr_drawing.proofs.Common.{inl, inr, length-set, nat_tests, not, seeded, sym, ℕ, ◌==◌, ◌∙◌, ◌≡◌}
use Rattle.nr_drawing.specs.inside.Streams.{on_stream}
use Rattle.nr_drawing.proofs.states.states_of.Goals as goal

-- a generator that equals the one of a state on the stream
same : (g : Lcg) (state : ℕ) → false ≡ not ((g.state == state) && (g.increment == increment_of 64 54))
    → g ≡ on_stream state
same g state equal =
    let one : g.state ≡ state = grind (arith, nat_tests, equal) in
    let two : g.increment ≡ increment_of 64 54 = grind (arith, nat_tests, equal) in
    ap (λ (s : ℕ). record { state = s; increment = g.increment }) one
    ∙ ap (λ (i : ℕ). record { state = state; increment = i }) two

-- one more generator
pub loop-j-preserved : goal.loop-j-preserved
loop-j-preserved c =
    let j = c.loop-j.j in
    let gens = c.args.generators.now in
    let start : Lcg = seeded 0 in
    let inv = c.loop-j.invariant in
    let short = c.loop-j-test.true in
    let here = get_or-set_same c.loop-j.states j c.state-state.result 0 (omega (arith, inv.long, short)) in
    let x = c.index-generators-j-in-loop-j.result in
    let read : x ≡ get_or gens j start = c.index-generators-j-in-loop-j.is
    ∙ get_or_default gens j x start (omega (arith, c.requires, short)) in
    let on : x ≡ on_stream c.state-state.result =
    same x c.state-state.result (rw c.from_state.ensures at (sym c.if-ne.false ∙ c.ne.ensures)) in
    record {
      each = λ k lt. elim (cases_eq k j) [
        | inl e ↦ rw (e, here) (sym read ∙ on)
        | inr ne ↦ inv.each k (omega (arith, lt, ne)) ∙ ap on_stream (sym (get_or-set_other c.loop-j.states j k _ 0 ne))
      ];
      long = length-set c.loop-j.states j _ ∙ inv.long;
    }
