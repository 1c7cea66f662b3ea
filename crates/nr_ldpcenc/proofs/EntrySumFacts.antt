-- Sums over the entries of a row so far.
use Rattle.nr_ldpcenc.proofs.Common.{[], ◌∷◌, length, take, get_or, refl, sym, ap, ◌∙◌, arith, cases_lt, lt-ltb, le-ltb}
use Rattle.nr_ldpcenc.proofs.Common.{◌⊕◌, place, Entry, value_in, one_at, Lifting, IsHead, sum_before, core_sum, sum_between}
use Rattle.nr_ldpcenc.proofs.Common.{nat_tests, ◌≡◌, ℕ, ◌+◌, ◌<◌, ◌≤◌, ◌==◌, nat_lt, Bool, false, List}
use Rattle.std.proofs.{Common.cond, Common.◌++◌, lemmas.List.take_more}

module _ (set z : ℕ) (w : ℕ → Bool) (j t : ℕ) where
  -- what one entry adds
  abbrev pub entry_bit : Entry → Bool
  entry_bit e = cond (nat_lt e.col j) (w (one_at z t e.col (value_in set e))) false

  sum-last : (xs : List Entry) (x : Entry) → sum_before set z w j t (xs ++ x ∷ []) ≡ sum_before set z w j t xs ⊕ entry_bit x
  sum-last [] x = grind (arith, nat_tests, cases_lt, lt-ltb, le-ltb)
  sum-last (y ∷ ys) x = grind (arith, nat_tests, cases_lt, lt-ltb, sum-last ys x, le-ltb)

  -- one more entry
  pub sum-next : (xs : List Entry) (i : ℕ) (d : Entry) → i < length xs
      → sum_before set z w j t (take (i + 1) xs) ≡ sum_before set z w j t (take i xs) ⊕ entry_bit (get_or xs i d)
  sum-next xs i d lt = ap (sum_before set z w j t) (take_more xs i d lt) ∙ sum-last (take i xs) (get_or xs i d)

-- one more bit has been added
pub gained : (first old new sum more bit_ : Bool) → old ≡ first ⊕ sum → new ≡ old ⊕ bit_ → more ≡ sum ⊕ bit_
    → new ≡ first ⊕ more
gained first old new sum more bit_ e f g = grind arith

-- no bit has been added
pub passed : (first old sum more bit_ : Bool) → old ≡ first ⊕ sum → more ≡ sum ⊕ bit_ → bit_ ≡ false
    → old ≡ first ⊕ more
passed first old sum more bit_ e f g = grind arith

-- the bit that an entry before the column adds
pub entry_bit-there : (set z : ℕ) (w : ℕ → Bool) (j t : ℕ) (e : Entry) → e.col < j
    → w (one_at z t e.col (value_in set e)) ≡ entry_bit set z w j t e
entry_bit-there set z w j t e lt = grind (arith, nat_tests, lt-ltb)

pub entry_bit-not : (set z : ℕ) (w : ℕ → Bool) (j t : ℕ) (e : Entry) → j ≤ e.col → entry_bit set z w j t e ≡ false
entry_bit-not set z w j t e le = rw (le-ltb e.col j le) refl

module _ (set z : ℕ) (w : ℕ → Bool) (from j t : ℕ) (order : from ≤ j) where
  -- what one entry adds from a column on and before another
  abbrev pub rest_bit : Entry → Bool
  rest_bit e = entry_bit set z w from t e ⊕ entry_bit set z w j t e

  pub rest-next : (xs : List Entry) (i : ℕ) (d : Entry) → i < length xs
      → sum_between set z w from j t (take (i + 1) xs) ≡ sum_between set z w from j t (take i xs) ⊕ rest_bit (get_or xs i d)
  rest-next xs i d lt = grind (arith, sum-next set z w from t xs i d lt, sum-next set z w j t xs i d lt)

  pub rest_bit-there : (e : Entry) → from ≤ e.col → e.col < j → w (one_at z t e.col (value_in set e)) ≡ rest_bit e
  rest_bit-there e le lt = grind (arith, entry_bit-not set z w from t e le, entry_bit-there set z w j t e lt)

  pub rest_bit-before : (e : Entry) → e.col < from → rest_bit e ≡ false
  rest_bit-before e lt =
      grind (arith, sym (entry_bit-there set z w from t e lt), sym (entry_bit-there set z w j t e (omega (arith, lt, order))))

  pub rest_bit-after : (e : Entry) → j ≤ e.col → rest_bit e ≡ false
  rest_bit-after e le = grind (arith, entry_bit-not set z w from t e (omega (arith, le, order)), entry_bit-not set z w j t e le)

-- the four core rows, one after another
pub core_heads : (l : Lifting) (w : ℕ → Bool) (zero one two three first second all : List ℕ)
    → IsHead l w 0 zero → IsHead l w 1 one → IsHead l w 2 two → IsHead l w 3 three
    → ((t : ℕ) → (place first t == 1) ≡ (place zero t == 1) ⊕ (place one t == 1))
    → ((t : ℕ) → (place second t == 1) ≡ (place first t == 1) ⊕ (place two t == 1))
    → ((t : ℕ) → (place all t == 1) ≡ (place second t == 1) ⊕ (place three t == 1))
    → (t : ℕ) → t < l.z → (place all t == 1) ≡ core_sum l w t
core_heads l w zero one two three first second all h0 h1 h2 h3 s1 s2 s3 t lt =
    four_sums _ _ _ _ _ _ _ _ _ _ _ (h0 t lt) (h1 t lt) (h2 t lt) (h3 t lt)
    (s1 t) (s2 t) (s3 t)
  where
    four_sums : (a b c d e f g h i j k : Bool) → a ≡ h → b ≡ i → c ≡ j → d ≡ k → e ≡ a ⊕ b → f ≡ e ⊕ c
        → g ≡ f ⊕ d → g ≡ (h ⊕ i) ⊕ (j ⊕ k)
    four_sums a b c d e f g h i j k p q r s x y v = grind arith
