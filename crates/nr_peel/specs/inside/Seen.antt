-- What the counts of each row block know of.
use Rattle.std.specs.Prelude.{◌≡◌, ℕ, ◌+◌, ◌*◌, ◌/◌, ◌<◌, ◌≤◌, ◌==◌, ◌&&◌, ◌||◌, nat_lt}
use Rattle.std.specs.Prelude.{not, Bool, true, false, if◌then◌else◌, List, [], length, get_or, slice_index}
use Rattle.std.specs.Int.{bit_at}
use Rattle.nr_bitvec.specs.Bit.{bit}
use Rattle.nr_lifting.specs.DoubledLanes.{is_set}
use Rattle.nr_ldpcenc.specs.Rows.{Checks}
use Rattle.nr_peel.specs.{Touches.sum_below, declared.bit_parallel.seen_lanes.SeenLanes.SeenLanes}

-- whether the count of row t of row block i knows of the position that entry k gives it
abbrev pub has_seen : {W : ℕ} → SeenLanes W → ℕ → ℕ → ℕ → Bool
has_seen s i k t = is_set (get_or s.lanes.items (slice_index s.starts i + k) []) t

-- whether row block i has yet to look at column j
abbrev pub is_stale : {W : ℕ} → SeenLanes W → ℕ → ℕ → Bool
is_stale s i j = bit_at (slice_index s.stale j) i == 1

-- whether row block i has an entry in column j
abbrev pub holds : {W : ℕ} → SeenLanes W → ℕ → ℕ → Bool
holds s i j = bit_at (slice_index s.holders j) i == 1

-- whether row block i may have an entry to look at
abbrev pub is_behind : {W : ℕ} → SeenLanes W → ℕ → Bool
is_behind s i = bit_at s.behind i == 1

-- position k of row t of row block i
abbrev pub row_position : Checks → ℕ → ℕ → ℕ → ℕ
row_position c i t k = slice_index (c.row i t) k

-- how many positions of row t of row block i the counts don't know of
abbrev pub unseen : {W : ℕ} → Checks → SeenLanes W → ℕ → ℕ → ℕ
unseen c s i t = sum_below (λ k. if has_seen s i k t then 0 else 1) (length (c.row i t))

-- each count is the number of its row's positions that the counts don't know of
abbrev pub CountsUnseen : {W : ℕ} → Checks → SeenLanes W → List ℕ → Type 0
CountsUnseen c s counts = (i t : ℕ) → i < c.rows → t < c.lanes → slice_index counts (i * c.lanes + t) ≡ unseen c s i t

-- how many entries all row blocks have
unfoldable pub entry_count : Checks → ℕ
entry_count c = sum_below (λ i. length (c.row i 0)) c.rows

-- Each entry has a lane, and its row block holds its column. The counts know only of known positions, and of all in a
-- column that needs no look. A row block that has caught up needs none at all. A column that became known at once is
-- known.
pub record AreSeen {W : ℕ} (c : Checks) (known : List Bool) (s : SeenLanes W) : Type 0 where
  pub starts : (i t : ℕ) → i < c.rows → slice_index s.starts i + length (c.row i t) ≤ slice_index s.starts (i + 1)
  pub enough : slice_index s.starts c.rows ≤ length s.lanes.items
  pub long : length s.lanes.items ≡ entry_count c
  pub within : (i t k : ℕ) → i < c.rows → t < c.lanes → k < length (c.row i t) → has_seen s i k t ≡ true
      → bit known (row_position c i t k) ≡ true
  pub fresh : (i t k : ℕ) → i < c.rows → t < c.lanes → k < length (c.row i t)
      → is_stale s i (row_position c i t k / c.lanes) ≡ false → has_seen s i k t ≡ bit known (row_position c i t k)
  pub holders : (i t k : ℕ) → i < c.rows → t < c.lanes → k < length (c.row i t)
      → holds s i (row_position c i t k / c.lanes) ≡ true
  pub rested : (i t k : ℕ) → i < c.rows → t < c.lanes → k < length (c.row i t) → is_behind s i ≡ false
      → is_stale s i (row_position c i t k / c.lanes) ≡ false
  pub whole : (i t k : ℕ) → i < c.rows → t < c.lanes → k < length (c.row i t)
      → bit s.whole (row_position c i t k / c.lanes) ≡ true → bit known (row_position c i t k) ≡ true
  pub all : (t : ℕ) → is_set s.all t ≡ nat_lt t c.lanes

-- the counts know of nothing, which is all there is to know of if nothing is known
pub record HasSeenNone {W : ℕ} (c : Checks) (s : SeenLanes W) : Type 0 where
  pub none : (i k t : ℕ) → has_seen s i k t ≡ false
  pub seen : (known : List Bool) → ((p : ℕ) → bit known p ≡ false) → AreSeen c known s

-- row block i has no column of its own to look at
abbrev pub NeedsNoLook : {W : ℕ} → Checks → ℕ → SeenLanes W → Type 0
NeedsNoLook c i s = (t k : ℕ) → t < c.lanes → k < length (c.row i t)
    → is_stale s i (row_position c i t k / c.lanes) ≡ false

-- each count is that, except for the rows of row block i that a lane marks
abbrev pub CountsOthers : {W : ℕ} → Checks → ℕ → List ℕ → SeenLanes W → List ℕ → Type 0
CountsOthers c i ones s counts = (h t : ℕ) → h < c.rows → t < c.lanes → ((i == h) && is_set ones t) ≡ false
    → slice_index counts (h * c.lanes + t) ≡ unseen c s h t

-- the counts know of what they knew of, except for the rows of row block i that a lane marks
abbrev pub SeesOthers : {W : ℕ} → Checks → ℕ → List ℕ → SeenLanes W → SeenLanes W → Type 0
SeesOthers c i ones old new = (h t k : ℕ) → h < c.rows → t < c.lanes → k < length (c.row h t)
    → ((i == h) && is_set ones t) ≡ false → has_seen new h k t ≡ has_seen old h k t

-- what was known of before is still known of, and no more
pub record IsSeenStill {W : ℕ} (old new : SeenLanes W) : Type 0 where
  pub lanes : new.lanes ≡ old.lanes
  pub starts : new.starts ≡ old.starts
  pub holders : new.holders ≡ old.holders
  pub all : new.all ≡ old.all

-- Positions of column j became known, or all of them at once. All row blocks must now look at it, and those that hold
-- it have not caught up.
pub record MarksColumn {W : ℕ} (j : ℕ) (full : Bool) (old new : SeenLanes W) : Type 0 where
  pub still : IsSeenStill old new
  pub stale : (i h : ℕ) → i < 64 → is_stale new i h ≡ (j == h || is_stale old i h)
  pub whole : (h : ℕ) → bit new.whole h ≡ (if j == h then full else bit old.whole h)
  pub behind : (i : ℕ) → i < 64 → is_behind new i ≡ (holds old i j || is_behind old i)

-- row block i has looked at column j, and nothing else has changed but what the counts know of
pub record HasLooked {W : ℕ} (i j : ℕ) (old new : SeenLanes W) : Type 0 where
  pub stale : (h m : ℕ) → h < 64 → is_stale new h m ≡ (is_stale old h m && not ((i == h) && (j == m)))
  pub starts : new.starts ≡ old.starts
  pub holders : new.holders ≡ old.holders
  pub whole : new.whole ≡ old.whole
  pub behind : new.behind ≡ old.behind
  pub all : new.all ≡ old.all

-- In a column that needs no look nothing became known, and one that is marked as whole now is known. A row block that
-- has caught up has no more columns of its own to look at.
abbrev pub IsMarkedIn : {W : ℕ} → ℕ → List Bool → List Bool → SeenLanes W → SeenLanes W → Type 0
IsMarkedIn z known known' old new = ((i p : ℕ) → i < 64 → is_stale new i (p / z) ≡ false
    → (is_stale old i (p / z) ≡ false) × (bit known' p ≡ bit known p))
    × ((i p : ℕ) → i < 64 → is_behind new i ≡ false
    → (is_behind old i ≡ false) × (holds old i (p / z) ≡ true → is_stale new i (p / z) ≡ is_stale old i (p / z)))
    × ((p : ℕ) → bit new.whole (p / z) ≡ true → (bit old.whole (p / z) || bit known' p) ≡ true)
