-- Definitions that only the proofs need, beside those of Closure.antt.
use Rattle.std.specs.Prelude.{◌≡◌, ◌≢◌, ℕ, ◌<◌, ◌==◌, ◌||◌, Bool, true, false, not, List, count_by}
use Rattle.std.specs.List.{list_all}
use Rattle.nr_ldpcenc.specs.Rows.{Checks}
use Rattle.nr_peel.specs.Closure.{fixes, stands}

-- no row fixes a position outside the set
abbrev pub IsClosed : Checks → (ℕ → Bool) → Type 0
IsClosed c T = (i t p : ℕ) → i < c.rows → t < c.lanes → fixes T (c.row i t) p ≡ true → T p ≡ true

-- no row has exactly one position outside the set
abbrev pub LacksNoneOrSeveral : Checks → (ℕ → Bool) → Type 0
LacksNoneOrSeveral c S = (i t : ℕ) → i < c.rows → t < c.lanes → count_by (λ p. not (S p)) (c.row i t) ≢ 1

-- a position of a row is the only one outside a set
pub record IsOnlyMissing (S : ℕ → Bool) (row : List ℕ) (p : ℕ) : Type 0 where
  pub stands_there : stands p row ≡ true
  pub missing : S p ≡ false
  pub others : list_all (λ q. (q == p) || S q) row ≡ true
