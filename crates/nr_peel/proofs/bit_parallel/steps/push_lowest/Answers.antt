use Rattle.nr_peel.proofs.Common.{◌≡◌, ◌<◌, ◌+◌, ◌-◌, ◌%◌, ◌^◌, ℕ, length, take, ap, append-nil, arith}
use Rattle.nr_peel.proofs.Common.{Bool, cond, ne_eqb, bit_and, length-append, cases_lt, inl, inr, step_along, with_steps, Fix}
use Rattle.nr_peel.proofs.StepFacts.{lowest_taken, none_taken}
use Rattle.nr_peel.proofs.bit_parallel.steps.push_lowest.Goals.{After-push_reserved}
use Rattle.std.proofs.lemmas.Nat.{and_le_r}
use Rattle.nr_peel.proofs.bit_parallel.steps.push_lowest.Goals as goal

abbrev step : After-push_reserved → ℕ → Fix
step c = step_along c.args.first

less : (word : ℕ) → 0 < word → word < 2 ^ 64 → (word + (2 ^ 64 - 1)) % 2 ^ 64 ≡ word - 1
less word some fits = omega (arith, some, fits)

-- if a row is marked, the list with all steps is the same
taken : (c : After-push_reserved) → 0 < c.args.word
    → with_steps c.push_reserved.new.self.items (step c) (bit_and c.args.word ((c.args.word + (2 ^ 64 - 1)) % 2 ^ 64))
    ≡ with_steps c.args.order.now.items (step c) c.args.word
taken c some =
    rw (c.push_reserved.ensures.items, c.step_from.ensures, c.from.ensures, less c.args.word some (omega arith))
    (lowest_taken c.args.order.now.items (step c) c.args.word some (omega arith))

pub returns-clause-kept : goal.returns-clause-kept
returns-clause-kept c n le = elim (cases_lt 0 c.args.word) [
  | inl some ↦ ap (take n) (taken c some)
  | inr none ↦
      let zero : c.args.word ≡ 0 = omega (arith, none) in
      rw (zero, c.push_reserved.ensures.items)
      (none_taken c.args.order.now.items _ (step c) n (omega (arith, rw (zero, append-nil) at le)))
]

-- the list is one step longer if a row is marked
pub returns-clause-long : goal.returns-clause-long
returns-clause-long c = elim (cases_lt 0 c.args.word) [
  | inl some ↦ omega (
    arith,
    ap length (taken c some),
    ap (λ (b : Bool). cond {A = ℕ} b 1 0) (ne_eqb c.args.word 0 (λ e. omega (arith, e, some))),
  )
  | inr none ↦
      let zero : c.args.word ≡ 0 = omega (arith, none) in
      rw (zero, c.push_reserved.ensures.items) (grind (arith, append-nil, length-append))
]

pub returns-clause-less : goal.returns-clause-less
returns-clause-less c =
    λ some. rw (less c.args.word some (omega arith)) (omega (arith, and_le_r c.args.word (c.args.word - 1), some))
