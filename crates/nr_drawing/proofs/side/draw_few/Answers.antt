use Rattle.nr_drawing.proofs.Common.{Lcg, ap, arith, cases_eq, get_or, get_or-set_other, get_or-set_same, get_or_default, inl, inr}
use Rattle.nr_drawing.proofs.Common.{length, length-set, nat_lt, nat_tests, pcg32, seeded, slice_index, ℕ, ◌<◌, ◌==◌}
use Rattle.nr_drawing.proofs.Common.{◌∙◌, ◌≡◌, ◌≢◌, ◌≤◌}
use Rattle.nr_drawing.proofs.SideFacts.{each_differs, side_other, side_own}
use Rattle.nr_drawing.proofs.side.draw_few.Goals as goal

-- one more generator draws: its digit is put at its place, and its count rises by the digit
pub loop-i-preserved : goal.loop-i-preserved
loop-i-preserved c =
    let i = c.loop-i.i in
    let inv = c.loop-i.invariant in
    let listed = c.args.listed.now in
    let at = λ (k : ℕ). slice_index listed k in
    let j = at i in
    let old = c.args.generators.now in
    let gens = c.loop-i.generators in
    let start : Lcg = seeded 0 in
    let x = c.index-generators-round.result in
    let below-end : i < length listed = c.loop-i-test.true in
    let short : j < 64 = c.requires.listed.few i below-end in
    let digit : c.from.result ≤ 1 = grind (arith, nat_tests, c.from.ensures) in
    let inside : j < length old = omega (arith, c.requires.generators, short) in
    let inside_too : j < length gens = omega (arith, inv.long, inside) in
    let draws : (c.next_word.result, c.next_word.new.self) ≡ pcg32 (get_or old j start) =
    c.next_word.ensures ∙ ap pcg32 (get_or_default gens j x start inside_too ∙ inv.later i (omega arith) below-end) in
    let below : (c.from.result == 1) ≡ nat_lt c.next_word.result c.args.threshold = grind (arith, nat_tests, c.from.ensures) in
    let here = side_own c.loop-i.word c.from.result j digit short (inv.clear i (omega arith) below-end) in
    let other = λ (k : ℕ) (ne : k ≢ j). side_other c.loop-i.word c.from.result j k digit short ne in
    let apart = λ (k : ℕ) (lt : k < length listed) (ne : k ≢ i). each_differs listed c.requires.listed k i lt below-end ne in
    record {
      drawn = λ k lt. elim (cases_eq k i) [
        | inl e ↦ rw e (ap (λ n. n == 1) here ∙ below ∙ ap (λ (p : ℕ × Lcg). nat_lt p.0 c.args.threshold) draws)
        | inr ne ↦ ap (λ n. n == 1) (other (at k) (apart k (omega (arith, lt, below-end)) ne))
            ∙ inv.drawn k (omega (arith, lt, ne))
      ];
      clear = λ k le lt. other (at k) (apart k lt (omega (arith, le))) ∙ inv.clear k (omega (arith, le)) lt;
      counted = λ k lt. elim (cases_eq k i) [
        | inl e ↦ grind (
          arith,
          nat_tests,
          get_or-set_same,
          here,
          c.from.ensures,
          c.from-in-loop-i.ensures,
          inv.uncounted i (omega arith) below-end,
          digit,
        )
        | inr ne ↦
            let differ = apart k (omega (arith, lt, below-end)) ne in
            grind (arith, nat_tests, get_or-set_other, differ, other (at k) differ, inv.counted k (omega (arith, lt, ne)))
      ];
      uncounted = λ k le lt.
          grind (arith, get_or-set_other, apart k lt (omega (arith, le)), inv.uncounted k (omega (arith, le)) lt);
      most = λ q. elim (cases_eq q j) [
        | inl e ↦ grind (arith, nat_tests, get_or-set_same, c.from-in-loop-i.ensures, inv.uncounted i (omega arith) below-end)
        | inr ne ↦ grind (arith, get_or-set_other, ne, inv.most q)
      ];
      next = λ k lt. elim (cases_eq k i) [
        | inl e ↦ rw e (get_or-set_same gens j _ start inside_too ∙ ap (λ (p : ℕ × Lcg). p.1) draws)
        | inr ne ↦ get_or-set_other gens j (at k) _ start (apart k (omega (arith, lt, below-end)) ne)
            ∙ inv.next k (omega (arith, lt, ne))
      ];
      long = length-set gens j _ ∙ inv.long;
      later = λ k le lt. get_or-set_other gens j (at k) _ start (apart k lt (omega (arith, le)))
          ∙ inv.later k (omega (arith, le)) lt;
    }
