use Rattle.nr_peel.proofs.Common.{cond-most, ◌≡◌, ◌≤◌, ◌<◌, ◌+◌, ◌==◌, ◌∙◌, sym, nat_tests, Bool, ℕ}
use Rattle.nr_peel.proofs.Common.{cond, length, ap, append-nil, arith, bit_at, count_ones, length-append, ne_eqb, ones_marked}
use Rattle.nr_peel.proofs.Common.{take_all, step_along, with_steps, Fix}
use Rattle.nr_peel.proofs.StepFacts.{some_steps, steps_count}
use Rattle.nr_peel.proofs.bit_parallel.steps.push_marked.Goals.{After-len}
use Rattle.nr_peel.proofs.bit_parallel.steps.push_marked.Goals as goal

-- as many steps as there are in the end
whole : (c : After-len)
    → c.len.result + count_ones c.args.word ≡ length (with_steps c.args.order.now.items (step_along c.args.first) c.args.word)
whole c =
    let step = step_along c.args.first in
    let marked = ones_marked 64 c.args.word (omega arith) in
    omega (arith, length-append {A = Fix}, steps_count step (λ j. bit_at c.args.word j == 1) 64)

pub push_lowest-others-requires-clause-room : goal.push_lowest-others-requires-clause-room
push_lowest-others-requires-clause-room c = omega (arith, length-append {A = Fix}, c.requires.room)

pub push_lowest-rest-requires-clause-room : goal.push_lowest-rest-requires-clause-room
push_lowest-rest-requires-clause-room c = omega (arith, length-append {A = Fix}, cond-most (c.args.word == 0))

-- while a row is left no step was added in excess
exact : (n x r : ℕ) → n ≤ x → x ≤ n + cond (r == 0) 2 0 → 0 < r → x ≡ n
exact n x r long room some = grind (arith, nat_tests)

-- what two more steps leave
few_more : (n x y z r s t : ℕ) → x ≡ n → y ≡ x + cond (r == 0) 1 0 → z ≡ y + cond (s == 0) 1 0 → 0 < r
    → (s ≡ 0 → t ≡ 0) → z ≤ n + cond (t == 0) 2 0
few_more n x y z r s t same one two some none = grind (arith, nat_tests)

few_at_first : (n y z r s t : ℕ) → y ≡ n + cond (r == 0) 1 0 → z ≡ y + cond (s == 0) 1 0 → (r ≡ 0 → s ≡ 0)
    → (s ≡ 0 → t ≡ 0) → z ≤ n + cond (t == 0) 2 0
few_at_first n y z r s t one two none none' = grind (arith, nat_tests)

smaller : (r s t : ℕ) → 0 < r → (0 < r → s < r) → (0 < s → t < s) → (s ≡ 0 → t ≡ 0) → t < r
smaller r s t some one two none = grind (arith, nat_tests)

pub push_lowest-others-requires-in-bits-clause-room : goal.push_lowest-others-requires-in-bits-clause-room
push_lowest-others-requires-in-bits-clause-room c =
    let some = some_steps (step_along c.args.first) c.bits.rest (omega (arith, c.bits-test.true)) c.bits.invariant.fits in
    let same = exact _ _ c.bits.rest c.bits.invariant.long c.bits.invariant.room (omega (arith, c.bits-test.true)) in
    omega (arith, length-append {A = Fix}, whole (goal.at.push_lowest-others-requires-in-bits-clause-room c).After-len)

pub push_lowest-rest-requires-in-bits-clause-room : goal.push_lowest-rest-requires-in-bits-clause-room
push_lowest-rest-requires-in-bits-clause-room c =
    let same = exact _ _ c.bits.rest c.bits.invariant.long c.bits.invariant.room (omega (arith, c.bits-test.true)) in
    let one = ap (λ (b : Bool). cond {A = ℕ} b 1 0) (ne_eqb c.bits.rest 0 c.bits-test.true) in
    omega (arith, length-append {A = Fix}, whole (goal.at.push_lowest-rest-requires-in-bits-clause-room c).After-len)

-- the two steps before the loop were pushed if the word had rows, and one too many if it had none left
pub bits-init : goal.bits-init
bits-init c =
    let all = whole (goal.at.bits-init c).After-len in
    let first = c.push_lowest-others.ensures in
    let second = c.push_lowest-rest.ensures in
    let n = c.len.result + count_ones c.args.word in
    record {
      steps = second.kept n (omega (arith, all, first.long)) ∙ first.kept n (omega (arith, all))
          ∙ take_all n _ (omega (arith, all));
      long = omega (arith, all, first.long, second.long);
      room = few_at_first n _ _ c.args.word c.push_lowest-others.result c.push_lowest-rest.result
          (first.long ∙ ap (λ m. m + cond (c.args.word == 0) 1 0) (sym all)) second.long first.none second.none;
      fits = omega arith;
      capacity = second.capacity ∙ first.capacity;
    }

-- two more steps, the second of which is one too many if the word had one row left
pub bits-preserved : goal.bits-preserved
bits-preserved c =
    let n = c.len.result + count_ones c.args.word in
    let first = c.push_lowest-others-in-bits.ensures in
    let second = c.push_lowest-rest-in-bits.ensures in
    let some : 0 < c.bits.rest = omega (arith, c.bits-test.true) in
    let same = exact n _ c.bits.rest c.bits.invariant.long c.bits.invariant.room some in
    record {
      steps = second.kept n (omega (arith, first.long, c.bits.invariant.long)) ∙ first.kept n c.bits.invariant.long
          ∙ c.bits.invariant.steps;
      long = omega (arith, first.long, second.long, c.bits.invariant.long);
      room = few_more n _ _ _ c.bits.rest c.push_lowest-others-in-bits.result c.push_lowest-rest-in-bits.result same first.long
          second.long some second.none;
      fits = omega arith;
      capacity = second.capacity ∙ first.capacity ∙ c.bits.invariant.capacity;
    }

pub bits-smaller : goal.bits-smaller
bits-smaller c =
    let first = c.push_lowest-others-in-bits.ensures in
    let second = c.push_lowest-rest-in-bits.ensures in
    smaller c.bits.rest _ _ (omega (arith, c.bits-test.true)) first.less second.less second.none

pub returns-clause-steps : goal.returns-clause-steps
returns-clause-steps c =
    let none : c.bits.rest ≡ 0 = omega (arith, c.bits-test.false) in
    c.truncate.ensures.items ∙ rw (none, append-nil) at c.bits.invariant.steps
