-- Counts that are kept as bit planes: their digits, and how they fall.
use Rattle.nr_lifting.proofs.Names.{List, ap, arith, bit_and, bit_at, bit_at_and, bit_at_not, bit_not, cases_eq, digits_below}
use Rattle.nr_lifting.proofs.Names.{get_or, get_or-set_other, get_or-set_same, inl, inr, length, length-set, min, refl, set, subst}
use Rattle.nr_lifting.proofs.Names.{suc, w64, zero, ℕ, ◌%◌, ◌*◌, ◌+◌, ◌-◌, ◌<◌, ◌^◌, ◌∙◌, ◌≡◌}
use Rattle.nr_lifting.proofs.Names.{◌≢◌, ◌≤◌, pow-suc}
use Rattle.std.proofs.{Common.◌⊎◌, Common.add-one, lemmas.Grind.pow_more}

-- one more digit
pub below-next : (n : ℕ) (D : ℕ → ℕ) → digits_below (n + 1) D ≡ digits_below n D + 2 ^ n * D n
below-next n D = rw add-one refl

-- digits that are the same write the same number
pub below-same : (n : ℕ) (D E : ℕ → ℕ) → ((k : ℕ) → k < n → D k ≡ E k) → digits_below n D ≡ digits_below n E
below-same zero D E same = refl
below-same (suc n) D E same =
    ap (λ m. m + 2 ^ n * D n) (below-same n D E (λ k h. same k (omega (arith, h))))
    ∙ ap (λ d. digits_below n E + 2 ^ n * d) (same n (omega arith))

-- what a digit is worth
pub digit_times : (p x : ℕ) → x < 2 → ((x ≡ 0) × (p * x ≡ 0)) ⊎ ((x ≡ 1) × (p * x ≡ p))
digit_times p zero h = inl (refl, omega arith)
digit_times p (suc zero) h = inr (refl, omega arith)
digit_times p (suc (suc x)) h = absurd (omega (arith, h))

-- n digits write a number below 2 ^ n
pub below-lt : (n : ℕ) (D : ℕ → ℕ) → ((k : ℕ) → D k < 2) → digits_below n D < 2 ^ n
below-lt zero D small = omega arith
below-lt (suc n) D small = rw pow-suc (grind (arith, digit_times (2 ^ n) (D n) (small n), below-lt n D small))

-- ---- one is subtracted

-- a borrow y comes to the digit x of worth p: the digit that is left, and the borrow that goes on
plane : (a b p u x y : ℕ) → x < 2 → y < 2 → a + u ≡ b + p * y
    → a + p * ((x + y) % 2) + u ≡ b + p * x + p * 2 * min y (1 - x)
plane a b p u x y h k e = grind (arith, digit_times)

-- u is subtracted from the first n digits, with a borrow y from the others, which are unchanged
pub record Borrows (n : ℕ) (now old : ℕ → ℕ) (u y : ℕ) : Type 0 where
  pub number : digits_below n now + u ≡ digits_below n old + 2 ^ n * y
  pub kept : (k : ℕ) → n ≤ k → now k ≡ old k

-- one more digit falls
borrows_more : (n : ℕ) (next now old : ℕ → ℕ) (u y x : ℕ) → Borrows n now old u y → x ≡ now n → x < 2 → y < 2
    → ((k : ℕ) → k ≢ n → next k ≡ now k) → next n ≡ (x + y) % 2 → Borrows (n + 1) next old u (min y (1 - x))
borrows_more n next now old u y x h is low high others here = record {
  number =
      let first : digits_below n next ≡ digits_below n now =
      below-same n next now (λ k below. others k (λ e. omega (arith, e, below))) in
      grind (
        arith,
        first,
        below-next n next,
        below-next n old,
        here,
        is,
        h.kept n (omega arith),
        pow_more 2 n,
        plane (digits_below n now) (digits_below n old) (2 ^ n) u x y low high h.number,
      );
  kept = λ k above. others k (λ e. omega (arith, e, above)) ∙ h.kept k (omega (arith, above));
}

-- if no borrow is left, one more digit has fallen, unchanged
borrows_idle : (n : ℕ) (now old : ℕ → ℕ) (u y : ℕ) → Borrows n now old u y → y ≡ 0 → Borrows (n + 1) now old u y
borrows_idle n now old u y h none = record {
  number = grind (
    arith,
    below-next n now,
    below-next n old,
    h.number,
    h.kept n (omega arith),
    digit_times (2 ^ n) y (omega (arith, none)),
    digit_times (2 ^ (n + 1)) y (omega (arith, none)),
  );
  kept = λ k above. h.kept k (omega (arith, above));
}

-- if no borrow is left, all digits have fallen
borrows_rest : (n m : ℕ) (now old : ℕ → ℕ) (u y : ℕ) → Borrows n now old u y → y ≡ 0 → n ≤ m
    → Borrows m now old u y
borrows_rest n zero now old u y h none within = subst (λ k. Borrows k now old u y) (omega (arith, within)) h
borrows_rest n (suc m) now old u y h none within = elim (cases_eq n (suc m)) [
  | inl at ↦ subst (λ k. Borrows k now old u y) at h
  | inr apart ↦
      subst (λ k. Borrows k now old u y) (add-one m)
      (borrows_idle m now old u y (borrows_rest n m now old u y h none (omega (arith, within, apart))) none)
]

-- no borrow is left if the number was not less
borrows_all : (n : ℕ) (now old : ℕ → ℕ) (u y : ℕ) → Borrows n now old u y → ((k : ℕ) → now k < 2) → y < 2
    → u ≤ digits_below n old
    → digits_below n now + u ≡ digits_below n old
borrows_all n now old u y h small high enough = grind (arith, below-lt n now small, h.number, digit_times (2 ^ n) y high)

-- ---- planes, each with one digit of every count

-- digit k of count t, if plane k has the digit `read (get_or planes k none) t`
abbrev pub digit_in : {A : Type 0} → (A → ℕ → ℕ) → A → List A → ℕ → ℕ → ℕ
digit_in read none planes t k = read (get_or planes k none) t

-- The first n planes of the counts before count z have fallen, with borrows from the others.
pub record PlanesBorrow (A : Type 0) (read : A → ℕ → ℕ) (none : A) (z n : ℕ) (now old : List A)
    (lane borrow : ℕ → ℕ) : Type 0 where
  pub digits : (t : ℕ) → t < z → Borrows n (digit_in read none now t) (digit_in read none old t) (lane t) (borrow t)
  pub long : length now ≡ length old

module _ (A : Type 0) (read : A → ℕ → ℕ) (none : A) (low : (x : A) (t : ℕ) → read x t < 2) (z n : ℕ)
    (now old : List A) (lane borrow : ℕ → ℕ) (h : PlanesBorrow A read none z n now old lane borrow) where
  -- one more plane falls
  pub planes_more : (next : List A) (left : ℕ → ℕ) (plane : A) → n < length now → ((t : ℕ) → borrow t < 2)
      → next ≡ set now n plane
      → ((t : ℕ) → t < z → read plane t ≡ (read (get_or now n none) t + borrow t) % 2)
      → ((t : ℕ) → t < z → left t ≡ min (borrow t) (1 - read (get_or now n none) t))
      → PlanesBorrow A read none z (n + 1) next old lane left
  planes_more next left plane within high put falls goes = record {
    digits =
        λ t below. rw (goes t below)
        (borrows_more n _ (digit_in read none now t) _ (lane t) (borrow t) _ (h.digits t below) refl
        (low (get_or now n none) t) (high t)
        (λ k apart. rw put (ap (λ p. read p t) (get_or-set_other now n k plane none apart)))
        (rw put (ap (λ p. read p t) (get_or-set_same now n plane none within) ∙ falls t below)));
    long = ap length put ∙ length-set now n plane ∙ h.long;
  }

  -- if no borrow is left, all planes have fallen
  pub planes_rest : (m : ℕ) → ((t : ℕ) → t < z → borrow t ≡ 0) → n ≤ m
      → PlanesBorrow A read none z m now old lane borrow
  planes_rest m idle within = record {
    digits = λ t below. borrows_rest n m (digit_in read none now t) (digit_in read none old t) (lane t) (borrow t)
        (h.digits t below) (idle t below) within;
    long = h.long;
  }

  pub planes_all : n ≡ length old → ((t : ℕ) → borrow t < 2)
      → ((t : ℕ) → t < z → lane t ≤ digits_below (length old) (digit_in read none old t))
      → (t : ℕ) → t < z
      → digits_below (length now) (digit_in read none now t) + lane t ≡ digits_below (length old) (digit_in read none old t)
  planes_all all high enough t below =
      ap (λ m. digits_below m (digit_in read none now t) + lane t) h.long
      ∙ borrows_all (length old) (digit_in read none now t) (digit_in read none old t) (lane t) (borrow t)
      (subst (λ m. Borrows m (digit_in read none now t) (digit_in read none old t) (lane t) (borrow t)) all (h.digits t below))
      (λ k. low (get_or now k none) t) (high t) (enough t below)

-- the digits that a word lowers
pub lowered_digit : (word borrow j : ℕ) → word < 2 ^ 64 → j < 64
    → bit_at (bit_and borrow (bit_not w64 word)) j ≡ min (bit_at borrow j) (1 - bit_at word j)
lowered_digit word borrow j fits short =
    bit_at_and borrow (bit_not w64 word) j ∙ ap (min (bit_at borrow j)) (bit_at_not w64 word j fits short)
