-- What a set of known positions fixes by parity rows: a row with one unknown position fixes it.
use Rattle.std.specs.Prelude.{◌≡◌, ◌≢◌, ℕ, zero, suc, ◌<◌, ◌≤◌, ◌==◌, ◌&&◌, ◌||◌, Bool, true}
use Rattle.std.specs.{Prelude.false, Prelude.List, Prelude.count_by, List.list_all, List.list_any}
use Rattle.nr_ldpcenc.specs.Rows.{Checks}

-- a position is in a row
abbrev pub stands : ℕ → List ℕ → Bool
stands p row = list_any (λ q. q == p) row

-- a row fixes a position: it is in the row, and every other position of the row is in the set
abbrev pub fixes : (ℕ → Bool) → List ℕ → ℕ → Bool
fixes S row p = stands p row && list_all (λ q. (q == p) || S q) row

-- some number below n passes a test
abbrev pub any_below : (ℕ → Bool) → ℕ → Bool
any_below test zero = false
any_below test (suc n) = any_below test n || test n

-- a round adds each position that is the only one of some row outside the set
unfoldable pub round : Checks → (ℕ → Bool) → ℕ → Bool
round c S p = S p || any_below (λ i. any_below (λ t. fixes S (c.row i t) p) c.lanes) c.rows

-- a set after this many rounds
abbrev pub rounds : Checks → (ℕ → Bool) → ℕ → ℕ → Bool
rounds c S zero = S
rounds c S (suc k) = round c (rounds c S k)

-- the closure of a set: the set after as many rounds as there are positions
unfoldable pub closure : Checks → (ℕ → Bool) → ℕ → Bool
closure c S = rounds c S c.size

-- a set is in another
abbrev pub Within : (ℕ → Bool) → (ℕ → Bool) → Type 0
Within S T = (p : ℕ) → S p ≡ true → T p ≡ true

-- two sets together
abbrev pub union : (ℕ → Bool) → (ℕ → Bool) → ℕ → Bool
union S T p = S p || T p

-- how often a position occurs in a row
abbrev pub times_in : ℕ → List ℕ → ℕ
times_in p row = count_by (λ q. q == p) row

-- no position occurs twice in a row
abbrev pub IsDistinctRow : List ℕ → Type 0
IsDistinctRow row = (p : ℕ) → times_in p row ≤ 1

-- the positions of each row are those of a word, and none occurs twice in a row
pub record AreSound (c : Checks) : Type 0 where
  pub in_range : (i t p : ℕ) → i < c.rows → t < c.lanes → stands p (c.row i t) ≡ true → p < c.size
  pub distinct : (i t : ℕ) → i < c.rows → t < c.lanes → IsDistinctRow (c.row i t)

-- two words agree on a set
abbrev pub AgreeOn : (ℕ → Bool) → (ℕ → Bool) → (ℕ → Bool) → Type 0
AgreeOn S v w = (p : ℕ) → S p ≡ true → v p ≡ w p

-- a stopping set beside S: no row has exactly one member
pub record IsStopping (c : Checks) (S U : ℕ → Bool) : Type 0 where
  pub beside : (p : ℕ) → U p ≡ true → S p ≡ false
  pub never_one : (i t : ℕ) → i < c.rows → t < c.lanes → count_by U (c.row i t) ≢ 1
