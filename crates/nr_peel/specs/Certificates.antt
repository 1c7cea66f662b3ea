-- What shows that positions can be fixed, and what shows that they can't.
use Rattle.std.specs.Prelude.{◌≡◌, ◌≢◌, ℕ, ◌<◌, ◌==◌, nat_lt, ◌&&◌, ◌||◌, Bool, true, false}
use Rattle.std.specs.Prelude.{if◌then◌else◌, List, [], ◌∷◌, length, slice_index, count_by}
use Rattle.std.specs.List.{list_any}
use Rattle.nr_ldpcenc.specs.Rows.{Checks}
use Rattle.nr_peel.specs.{Closure.fixes, Closure.stands, declared.fix.Fix.Fix}

-- A step is accepted from a set. It is in range, its position is in its row, and the set has every other position of
-- the row.
abbrev pub accepts : Checks → (ℕ → Bool) → Fix → Bool
accepts c S s = nat_lt s.row c.rows && (nat_lt s.lane c.lanes && (nat_lt s.pos c.size && fixes S (c.row s.row s.lane) s.pos))

-- a set with one more position
abbrev pub with_position : (ℕ → Bool) → ℕ → ℕ → Bool
with_position S p q = S q || (p == q)

-- each step is accepted in turn
abbrev pub all_accepted : Checks → (ℕ → Bool) → List Fix → Bool
all_accepted c S [] = true
all_accepted c S (s ∷ ss) = accepts c S s && all_accepted c (with_position S s.pos) ss

-- the set with the positions of the accepted steps, up to the first that isn't accepted
abbrev pub after_steps : Checks → (ℕ → Bool) → List Fix → ℕ → Bool
after_steps c S [] = S
after_steps c S (s ∷ ss) = if accepts c S s then after_steps c (with_position S s.pos) ss else S

-- a position is that of one of the steps
abbrev pub is_fixed_by : List Fix → ℕ → Bool
is_fixed_by steps p = list_any (λ s. s.pos == p) steps

-- a fix order from a set: each step is accepted in turn, and every position below K' is in the set after them
pub record IsFixOrder (c : Checks) (kdash : ℕ) (S : ℕ → Bool) (steps : List Fix) : Type 0 where
  pub accepted : all_accepted c S steps ≡ true
  pub complete : (p : ℕ) → p < kdash → after_steps c S steps p ≡ true

-- a list ascends
abbrev pub IsRising : List ℕ → Type 0
IsRising xs = (i j : ℕ) → i < j → j < length xs → slice_index xs i < slice_index xs j

-- an ascending list of positions in range, none of them in S
pub record IsBeside (size : ℕ) (S : ℕ → Bool) (set : List ℕ) : Type 0 where
  pub rising : IsRising set
  pub in_range : (i : ℕ) → i < length set → slice_index set i < size
  pub beside : (i : ℕ) → i < length set → S (slice_index set i) ≡ false

-- a stopping set beside S, which has a position below K': no row has exactly one member
pub record IsStoppingSet (c : Checks) (kdash : ℕ) (S : ℕ → Bool) (set : List ℕ) : Type 0 where
  pub is_beside : IsBeside c.size S set
  pub low : 0 < count_by (λ p. nat_lt p kdash) set
  pub never_one : (i t : ℕ) → i < c.rows → t < c.lanes → count_by (λ p. stands p set) (c.row i t) ≢ 1
