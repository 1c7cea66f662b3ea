-- How a row and a sweep fix positions in sets side by side.
use Rattle.std.specs.Prelude.{◌≡◌, ℕ, ◌+◌, ◌<◌, ◌==◌, ◌||◌, ◌&&◌, Bool, true, false, not, nat_le}
use Rattle.std.specs.Prelude.{nat_lt, List, length, count_by}
use Rattle.nr_lifting.specs.DoubledLanes.{marked_count}
use Rattle.nr_shifttable.specs.declared.entry.Entry.{Entry}
use Rattle.nr_ldpcenc.specs.Rows.{Checks, positions}
use Rattle.nr_peel.specs.{Closure.any_below, Closure.stands, Closure.Within, Slices.slice, Touches.sum_below}
use Rattle.nr_peel.specs.{inside.Closure.IsClosed, declared.lifted.Lifted.Lifted}

-- a row has exactly one position outside a set
abbrev pub lacks_one : (ℕ → Bool) → List ℕ → Bool
lacks_one S row = count_by (λ p. not (S p)) row == 1

-- the positions of row t of a row of blocks
abbrev pub row_in : Lifted → List Entry → ℕ → List ℕ
row_in l row t = positions l.plan.set l.plan.z t row

-- for some set, a row has exactly one position outside it
unfoldable pub some_lone : List ℕ → List ℕ → Bool
some_lone words row = any_below (λ j. lacks_one (slice words j) row) 64

-- each set grows, and stays in each closed set that contains it
pub record SlicesGrow (c : Checks) (old new : List ℕ) : Type 0 where
  pub long : length new ≡ length old
  pub kept : (j : ℕ) → j < 64 → Within (slice old j) (slice new j)
  pub inside : (j : ℕ) → j < 64 → (T : ℕ → Bool) → IsClosed c T → Within (slice old j) T → Within (slice new j) T

-- how many positions the sets have together
unfoldable pub held : Checks → List ℕ → ℕ
held c words = sum_below (λ j. marked_count (slice words j) c.size) 64

-- Rows added to the sets what they fix. If some row had exactly one position outside a set, some set has more.
pub record IsSwept (c : Checks) (again : Bool) (old new : List ℕ) : Type 0 where
  pub grows : SlicesGrow c old new
  pub more : again ≡ true → held c old < held c new
  pub still : again ≡ false → new ≡ old

-- none of the first n rows of row of blocks i has exactly one position outside a set
abbrev pub NoneLoneIn : Checks → List ℕ → ℕ → ℕ → Type 0
NoneLoneIn c words i n = (t : ℕ) → t < n → some_lone words (c.row i t) ≡ false

-- nor has any row of the first n rows of blocks, but those that are left out
abbrev pub NoneLoneBut : Checks → (ℕ → Bool) → List ℕ → ℕ → Type 0
NoneLoneBut c left_out words n = (i : ℕ) → i < n → left_out i ≡ false → NoneLoneIn c words i c.lanes

-- a number is one of `count` numbers from `at` on
abbrev pub is_in_run : ℕ → ℕ → ℕ → Bool
is_in_run at count t = nat_le at t && nat_lt t (at + count)

-- for some row of a row of blocks, of z rows, and some set the row has exactly one position outside it
abbrev pub some_lone_below : List ℕ → (ℕ → List ℕ) → ℕ → Bool
some_lone_below words row z = any_below (λ t. some_lone words (row t)) z

-- each set gains the positions of those of z rows that have exactly one position outside it
abbrev pub GainsInBlock : (ℕ → List ℕ) → ℕ → List ℕ → List ℕ → Type 0
GainsInBlock row z old new = (j p : ℕ) → j < 64
    → slice new j p ≡ (slice old j p || any_below (λ t. lacks_one (slice old j) (row t) && stands p (row t)) z)
