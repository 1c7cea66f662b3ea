-- How rows fix positions and counts follow, all rows of the code a round.
use Rattle.std.specs.Prelude.{◌≡◌, ℕ, ◌+◌, ◌*◌, ◌<◌, ◌≤◌, ◌==◌, ◌||◌, Bool, true, false, not}
use Rattle.std.specs.Prelude.{nat_lt, if◌then◌else◌, List, length, count_by, slice_index}
use Rattle.std.specs.Int.{div_ceil}
use Rattle.nr_bitvec.specs.Bit.{bit}
use Rattle.nr_lifting.specs.DoubledLanes.{is_set, marked_count}
use Rattle.nr_ldpcenc.specs.Rows.{Checks, Meets}
use Rattle.nr_peel.specs.{Certificates.all_accepted, Certificates.is_fixed_by, Closure.Within, Peeling.HasBits}
use Rattle.nr_peel.specs.inside.{Certificates.AddsSteps, Certificates.Order, Seen.AreSeen, Seen.NeedsNoLook, Seen.SeesOthers}
use Rattle.nr_peel.specs.{Touches.step_pairs, Touches.sum_below, inside.Touches.row_length, declared.fix.Fix.Fix}
use Rattle.nr_peel.specs.declared.bit_parallel.lanes.Lanes.{Lanes}

-- each count of row block i is the number of its row's positions that aren't in a set
abbrev pub BlockCountsOf : Checks → (ℕ → Bool) → List ℕ → ℕ → Type 0
BlockCountsOf c K counts i = (t : ℕ) → t < c.lanes
    → slice_index counts (i * c.lanes + t) ≡ count_by (λ p. not (K p)) (c.row i t)

-- this is true of each count
abbrev pub CountsOf : Checks → (ℕ → Bool) → List ℕ → Type 0
CountsOf c K counts = (i t : ℕ) → i < c.rows → t < c.lanes
    → slice_index counts (i * c.lanes + t) ≡ count_by (λ p. not (K p)) (c.row i t)

-- whether row number k has this many unknown positions
abbrev pub has_count : ℕ → List ℕ → ℕ → Bool
has_count n counts k = slice_index counts k == n

-- how many pairs there are of a position and one of the first n rows that are marked
abbrev pub searched_below : Checks → (ℕ → Bool) → ℕ → ℕ
searched_below c u n = sum_below (λ k. if u k then row_length c k else 0) n

-- how many such pairs there are of all marked rows
unfoldable pub searched_pairs : Checks → (ℕ → Bool) → ℕ
searched_pairs c u = searched_below c u (c.rows * c.lanes)

-- how many words a lane takes at a lifting size: the least that hold it, but six for five
unfoldable pub lane_words : ℕ → ℕ
lane_words z = if nat_lt 4 (div_ceil z 64) then 6 else div_ceil z 64

-- each list has a place for each position; unknown positions have no bit, and the counts know only of known ones
pub record AreLanes {W D : ℕ} (c : Checks) (s : Lanes W D) : Type 0 where
  pub known_long : length s.known.items ≡ c.size
  pub bits_long : length s.bits.items ≡ c.size
  pub known_lanes : s.known.lanes ≡ c.lanes
  pub bits_lanes : s.bits.lanes ≡ c.lanes
  pub blank : (p : ℕ) → bit s.known.items p ≡ false → bit s.bits.items p ≡ false
  pub seen : AreSeen c s.known.items s.seen
  pub words : W ≤ 6
  pub short : c.lanes ≤ 64 * W
  pub fit : W ≡ lane_words c.lanes

-- Steps fixed positions that weren't known. They are accepted, in turn, from any set that has the positions of K. Each
-- word that meets every row and had the known bits still has them.
pub record Fixes {W D : ℕ} (c : Checks) (K : ℕ → Bool) (old new : Lanes W D) (before after : Order) : Type 0 where
  pub steps : List Fix
  pub known : (p : ℕ) → bit new.known.items p ≡ (bit old.known.items p || is_fixed_by steps p)
  pub adds : AddsSteps steps before after
  pub missing : (p : ℕ) → is_fixed_by steps p ≡ true → bit old.known.items p ≡ false
  pub accepted : (S : ℕ → Bool) → Within K S → all_accepted c S steps ≡ true
  pub kept : (p : ℕ) → bit old.known.items p ≡ true → bit new.bits.items p ≡ bit old.bits.items p
  pub words : (w : ℕ → Bool) → Meets c w → HasBits old.known.items old.bits.items w
      → HasBits new.known.items new.bits.items w
  pub lanes : AreLanes c new

-- The rows of a lane fixed the positions that were their only unknown ones in row block i. There is at most one step
-- for each of them, and then such a row has no unknown position. The steps' rows have no more positions than theirs.
-- The counts know of what was fixed in these rows, so the row block still needs no look.
pub record IsBlockSought {W D : ℕ} (c : Checks) (i : ℕ) (ones : List ℕ) (old new : Lanes W D)
    (before after : Order) : Type 0 where
  pub fixes : Fixes c (bit old.known.items) old new before after
  pub few : length fixes.steps ≤ marked_count (is_set ones) c.lanes
  pub whole : (t : ℕ) → t < c.lanes → is_set ones t ≡ true
      → count_by (λ p. not (bit new.known.items p)) (c.row i t) ≡ 0
  pub searched : step_pairs c fixes.steps ≤ marked_count (is_set ones) c.lanes * length (c.row i 0)
  pub own : NeedsNoLook c i new.seen
  pub others : SeesOthers c i ones old.seen new.seen
