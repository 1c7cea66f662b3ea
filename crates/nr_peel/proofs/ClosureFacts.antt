-- The closure of a set: it contains the set, it is closed, and it is in every closed set that contains the set.
use Rattle.nr_peel.proofs.Common.{rules, ◌≡◌, ℕ, ◌<◌, ◌≤◌, Bool, true, inl, inr, arith, ◌⊎◌, zero, suc}
use Rattle.nr_peel.proofs.Common.{and_parts, or_cases, or_left, or_right, false≢true, Checks, Within, AreSound, any_below, fixes}
use Rattle.nr_peel.proofs.{Common.stands, Common.IsClosed, Common.marked_count, Common.closure, RowPositionFacts.fixes_more}
use Rattle.nr_peel.specs.Closure.{rounds, union, round}
use Rattle.nr_peel.proofs.MarkedFacts.{marked_full, marked_back}

-- a number below n that passes
pub record PassesBelow (test : ℕ → Bool) (n : ℕ) : Type 0 where
  pub number : ℕ
  pub below : number < n
  pub passes : test number ≡ true

pub any_below_passes : (test : ℕ → Bool) (n : ℕ) → any_below test n ≡ true → PassesBelow test n
any_below_passes test zero h = absurd (false≢true h)
any_below_passes test (suc n) h = search (rules, or_cases, any_below_passes test n)

pub passes_any_below : (test : ℕ → Bool) (n k : ℕ) → k < n → test k ≡ true → any_below test n ≡ true
passes_any_below test zero k lt h = absurd (omega arith)
passes_any_below test (suc n) k lt h = grind (arith, passes_any_below test n k)

-- a round keeps the set, and adds what a row fixes
pub round_keeps : (c : Checks) (S : ℕ → Bool) → Within S (round c S)
unfolding round
round_keeps c S p h = or_left (S p) (any_below (λ i. any_below (λ t. fixes S (c.row i t) p) c.lanes) c.rows) h

pub round_adds : (c : Checks) (S : ℕ → Bool) (i t p : ℕ) → i < c.rows → t < c.lanes → fixes S (c.row i t) p ≡ true
    → round c S p ≡ true
unfolding round
round_adds c S i t p li lt h = search (rules, or_right, passes_any_below)

-- a round stays in each set that contains the set and what a row fixes
round_into : (c : Checks) (S U : ℕ → Bool) → Within S U
    → ((i t p : ℕ) → i < c.rows → t < c.lanes → fixes S (c.row i t) p ≡ true → U p ≡ true) → Within (round c S) U
unfolding round
round_into c S U within fixed p h =
    elim (or_cases (S p) (any_below (λ i. any_below (λ t. fixes S (c.row i t) p) c.lanes) c.rows) h) [
      | inl s ↦ within p s
      | inr a ↦
          let r = any_below_passes (λ i. any_below (λ t. fixes S (c.row i t) p) c.lanes) c.rows a in
          let q = any_below_passes (λ t. fixes S (c.row r.number t) p) c.lanes r.passes in
          fixed r.number q.number p r.below q.below q.passes
    ]

-- a round stays in each closed set that contains the set
pub round_within : (c : Checks) (S T : ℕ → Bool) → Within S T → IsClosed c T → Within (round c S) T
round_within c S T within closed =
    round_into c S T within (λ i t p li lt f. closed i t p li lt (fixes_more S T (c.row i t) p within f))

pub rounds_keep : (c : Checks) (S : ℕ → Bool) (k : ℕ) → Within S (rounds c S k)
rounds_keep c S zero p h = h
rounds_keep c S (suc k) p h = round_keeps c (rounds c S k) p (rounds_keep c S k p h)

pub rounds_within : (c : Checks) (S T : ℕ → Bool) (k : ℕ) → Within S T → IsClosed c T → Within (rounds c S k) T
rounds_within c S T zero within closed = within
rounds_within c S T (suc k) within closed = round_within c (rounds c S k) T (rounds_within c S T k within closed) closed

pub closure_keeps : (c : Checks) (S : ℕ → Bool) → Within S (closure c S)
unfolding closure
closure_keeps c S = rounds_keep c S c.size

pub closure_least : (c : Checks) (S T : ℕ → Bool) → Within S T → IsClosed c T → Within (closure c S) T
unfolding closure
closure_least c S T = rounds_within c S T c.size

-- a closed set stays closed under a round
closed_round : (c : Checks) (T : ℕ → Bool) → IsClosed c T → IsClosed c (round c T)
closed_round c T closed i t p li lt h = grind (arith, round_keeps, fixes_more, round_within)

-- a set to which a round adds nothing is closed
still : (c : Checks) (T : ℕ → Bool) → AreSound c → marked_count (round c T) c.size ≤ marked_count T c.size
    → IsClosed c T
still c T sound same i t p li lt h =
    marked_back T (round c T) (round_keeps c T) c.size p (sound.in_range i t p li lt (and_parts (stands p (c.row i t)) _ h).0) same
    (round_adds c T i t p li lt h)

-- after k rounds the set is closed, or has k positions
settles : (c : Checks) (S : ℕ → Bool) → AreSound c → (k : ℕ)
    → IsClosed c (rounds c S k) ⊎ (k ≤ marked_count (rounds c S k) c.size)
settles c S sound zero = inr (omega arith)
settles c S sound (suc k) = grind (arith, settles c S sound k, closed_round c (rounds c S k), still c (rounds c S k) sound)

pub closure_closed : (c : Checks) (S : ℕ → Bool) → AreSound c → IsClosed c (closure c S)
unfolding closure
closure_closed c S sound i t p li lt h = elim (settles c S sound c.size) [
  | inl closed ↦ closed i t p li lt h
  | inr full ↦ marked_full (rounds c S c.size) c.size full p (sound.in_range i t p li lt (and_parts (stands p (c.row i t)) _ h).0)
]

-- a round of a larger set is larger
round_more : (c : Checks) (S T : ℕ → Bool) → Within S T → Within (round c S) (round c T)
round_more c S T within = round_into c S (round c T) (λ p s. round_keeps c T p (within p s))
    (λ i t p li lt f. round_adds c T i t p li lt (fixes_more S T (c.row i t) p within f))

rounds_more : (c : Checks) (S T : ℕ → Bool) (k : ℕ) → Within S T → Within (rounds c S k) (rounds c T k)
rounds_more c S T zero within = within
rounds_more c S T (suc k) within = round_more c (rounds c S k) (rounds c T k) (rounds_more c S T k within)

pub closure_monotone : (c : Checks) (S T : ℕ → Bool) → Within S T → Within (closure c S) (closure c T)
unfolding closure
closure_monotone c S T = rounds_more c S T c.size

pub same_truth : (a b : Bool) → (a ≡ true → b ≡ true) → (b ≡ true → a ≡ true) → a ≡ b
same_truth a b f g = grind arith

pub closure_continues : (c : Checks) (S T : ℕ → Bool) (p : ℕ) → AreSound c
    → closure c (union (closure c S) T) p ≡ closure c (union S T) p
closure_continues c S T p sound =
    let both = union (closure c S) T in
    let up : Within (union S T) both = λ q h. grind (arith, closure_keeps c S q) in
    let inside : Within both (closure c (union S T)) =
    λ q h. grind (arith, closure_monotone c S (union S T) (λ r. or_left (S r) (T r)) q, closure_keeps c (union S T) q) in
    grind (
      arith,
      closure_least c both (closure c (union S T)) inside (closure_closed c (union S T) sound) p,
      closure_monotone c (union S T) both up p,
    )
