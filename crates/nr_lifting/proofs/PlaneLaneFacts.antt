-- Counts that are kept plane by plane: lanes that are subtracted from them, counts that are exactly one, and planes
-- that are made.
use Rattle.nr_lifting.proofs.Names.{List, [], ap, arith, bit_at, bit_at-lt, cases_lt, digits_below, get_or, inl, inr, length}
use Rattle.nr_lifting.proofs.Names.{mod_below, nat_tests, place, subst, ℕ, ◌%◌, ◌&&◌, ◌*◌, ◌+◌, ◌/◌, ◌<◌}
use Rattle.nr_lifting.proofs.Names.{◌==◌, ◌^◌, ◌≡◌, ◌≤◌, pow_pos}
use Rattle.nr_lifting.{specs.Planes.plane_number, proofs.LaneViewFacts.place-lt}
use Rattle.nr_lifting.proofs.PlaneCountFacts.{below-lt, below-next, below-same, digit_times}
use Rattle.std.proofs.Math.Nat.{add_comm, mul_comm, div-eq_of_lt, pow-le-pow_right}
use Rattle.std.proofs.lemmas.Nat.{mod-pow-add}

-- digit k of count t of a block
abbrev pub plane_digit : List (List ℕ) → ℕ → ℕ → ℕ
plane_digit planes t k = place (get_or planes k []) t

-- ---- planes that are all alike

-- one more digit of n
pub digits_more : (k n : ℕ) (next D : ℕ → ℕ) → digits_below k D ≡ n % 2 ^ k → ((b : ℕ) → b < k → next b ≡ D b)
    → next k ≡ bit_at n k
    → digits_below (k + 1) next ≡ n % 2 ^ (k + 1)
digits_more k n next D before same here =
    let split : n % 2 ^ (k + 1) ≡ n % 2 ^ k + 2 ^ k * bit_at n k =
    rw (add_comm k 1, mod-pow-add n 1 k) (omega (arith, mul_comm (2 ^ k) (bit_at n k))) in
    omega (arith, below-next k next, below-same k next D same, before, ap (λ m. 2 ^ k * m) here, split)

-- ---- counts that are exactly a number

-- numbers are equal if their lower digits and the next one are
pub equal_more : (k n : ℕ) (D : ℕ → ℕ) → ((b : ℕ) → D b < 2)
    → (digits_below (k + 1) D == n % 2 ^ (k + 1)) ≡ ((digits_below k D == n % 2 ^ k) && (D k == bit_at n k))
equal_more k n D small =
    let split : n % 2 ^ (k + 1) ≡ n % 2 ^ k + 2 ^ k * bit_at n k =
    rw (add_comm k 1, mod-pow-add n 1 k) (omega (arith, mul_comm (2 ^ k) (bit_at n k))) in
    grind (
      arith,
      nat_tests,
      below-next k D,
      below-lt k D small,
      split,
      mod_below n (2 ^ k) (pow_pos k),
      digit_times (2 ^ k) (D k) (small k),
      digit_times (2 ^ k) (bit_at n k) (bit_at-lt n k),
    )

-- planes write no larger number than their digits can
pub number_below : (k : ℕ) (planes : List (List ℕ)) (t : ℕ) → digits_below k (plane_digit planes t) < 2 ^ k
number_below k planes t = below-lt k (plane_digit planes t) (λ b. place-lt (get_or planes b []) t)

-- none of them is as large as a number that needs more digits
pub none_as_large : (planes : List (List ℕ)) (k n t : ℕ) → length planes ≡ k → (n / 2 ^ k ≡ 0 → ⊥)
    → plane_number planes t < n
none_as_large planes k n t long more = elim (cases_lt n (2 ^ k)) [
  | inl small ↦ absurd (more (div-eq_of_lt small))
  | inr large ↦ omega (arith, large, subst (λ m. plane_number planes t < 2 ^ m) long (number_below (length planes) planes t))
]

pub number_small : (planes : List (List ℕ)) (t : ℕ) → length planes ≤ 7 → plane_number planes t < 128
number_small planes t few = omega (arith, number_below (length planes) planes t, pow-le-pow_right {n = 2} (omega arith) few)
