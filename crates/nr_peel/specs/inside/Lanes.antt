-- How a row of blocks fixes positions, all its rows at a time.
use Rattle.std.specs.Prelude.{◌≡◌, ◌≢◌, ℕ, zero, suc, ◌+◌, ◌-◌, ◌*◌, ◌/◌, ◌%◌, ◌^◌, ◌<◌}
use Rattle.std.specs.Prelude.{◌==◌, ◌&&◌, ◌||◌, Bool, true, false, get_or, slice_index, not, nat_lt}
use Rattle.std.specs.Prelude.{if◌then◌else◌, List, [], ◌∷◌, ◌++◌, length}
use Rattle.std.specs.Int.{bit_at}
use Rattle.nr_bitvec.specs.Bit.{bit}
use Rattle.nr_lifting.specs.DoubledLanes.{is_set}
use Rattle.nr_ldpcenc.specs.{Rows.one_at, inside.Solving.unrotate}
use Rattle.nr_shifttable.specs.{declared.entry.Entry.Entry, Tails.value_in}
use Rattle.nr_peel.specs.inside.{Certificates.AddsSteps, Certificates.Order, Seen.holds, Seen.is_behind, Seen.is_stale}
use Rattle.nr_peel.specs.declared.{bit_parallel.seen_lanes.SeenLanes.SeenLanes, fix.Fix.Fix, bit_parallel.lanes.Lanes.Lanes}
use Rattle.nr_peel.specs.declared.lifted.Lifted.{Lifted}

-- the step by which row t of row block i fixes its position in the block of column j, which is rotated by `rotation`
abbrev pub rotated_step : ℕ → ℕ → ℕ → ℕ → ℕ → Fix
rotated_step z i j rotation t = record { row = i; lane = t; pos = j * z + (t + rotation) % z }

-- the place of row t in a block of z positions
abbrev pub place_in : ℕ → ℕ → ℕ → ℕ
place_in z rotation t = if nat_lt (t + rotation) z then t + rotation else t + rotation - z

-- the step by which row t of row block i fixes its position, in a block whose first position is `first`
abbrev pub step_in : ℕ → ℕ → ℕ → ℕ → ℕ → Fix
step_in i first z rotation t = record { row = i; lane = t; pos = first + place_in z rotation t }

-- the number of a step: its row of blocks, its row from bit 16 on, and its position from bit 32 on
abbrev pub step_number : ℕ → ℕ → ℕ → ℕ
step_number i lane pos = i + lane * 2 ^ 16 + pos * 2 ^ 32

-- the step of a number
abbrev pub step_of : ℕ → Fix
step_of n = record { row = n % 2 ^ 16; lane = n / 2 ^ 16 % 2 ^ 16; pos = n / 2 ^ 32 }

-- the step that is b rows and b positions after that of a number
abbrev pub step_along : ℕ → ℕ → Fix
step_along n b = step_of (n + b * (2 ^ 16 + 2 ^ 32))

-- the steps of those of the first n rows that are marked
abbrev pub steps_below : (ℕ → Fix) → (ℕ → Bool) → ℕ → List Fix
steps_below step u zero = []
steps_below step u (suc n) = steps_below step u n ++ (if u n then step n ∷ [] else [])

-- a list, followed by the steps of those of 64 rows that a word marks
abbrev pub with_steps : List Fix → (ℕ → Fix) → ℕ → List Fix
with_steps order step word = order ++ steps_below step (λ j. bit_at word j == 1) 64

-- the rows of a lane whose position in the block of column j with value v isn't in a set
abbrev pub lacks : ℕ → ℕ → ℕ → List ℕ → (ℕ → Bool) → ℕ → Bool
lacks z j v lane K t = is_set lane t && not (K (one_at z t j v))

-- the positions of the marked rows in the block of column j with value v
abbrev pub marks_of : ℕ → ℕ → ℕ → (ℕ → Bool) → ℕ → Bool
marks_of z j v u p = (p / z == j) && u (unrotate z v (p % z))

-- the rows of a lane whose position in an entry's block isn't known
abbrev pub missing_at : {W D : ℕ} → Lifted → Entry → List ℕ → Lanes W D → ℕ → Bool
missing_at l e ones s = lacks l.plan.z e.col (value_in l.plan.set e) ones (bit s.known.items)

-- Row block i fixed the positions of its entry k. The counts of the rows that missed them know of them, and the row
-- block has no more columns to look at than before. For other row blocks the column is marked.
pub record TakesSeen {W : ℕ} (z i k : ℕ) (missing : ℕ → Bool) (known known' : List Bool)
    (old new : SeenLanes W) : Type 0 where
  pub lanes : (m t : ℕ) → is_set (get_or new.lanes.items m []) t
      ≡ (is_set (get_or old.lanes.items m []) t || ((slice_index old.starts i + k == m) && missing t))
  pub long : length new.lanes.items ≡ length old.lanes.items
  pub starts : new.starts ≡ old.starts
  pub holders : new.holders ≡ old.holders
  pub all : new.all ≡ old.all
  pub own : (j : ℕ) → is_stale old i j ≡ false → is_stale new i j ≡ false
  pub stale : (h p : ℕ) → h < 64 → h ≢ i → is_stale new h (p / z) ≡ false
      → (is_stale old h (p / z) ≡ false) × (bit known' p ≡ bit known p)
  pub behind : (h p : ℕ) → h < 64 → is_behind new h ≡ false
      → (is_behind old h ≡ false) × (holds old h (p / z) ≡ true → is_stale new h (p / z) ≡ is_stale old h (p / z))
  pub whole : (p : ℕ) → bit new.whole (p / z) ≡ true → (bit old.whole (p / z) || bit known' p) ≡ true

-- The rows of a lane in row block i fixed positions of the block of its entry k, e: those that weren't known. They have
-- the bits of another lane. Nothing else has changed.
pub record TakesLane {W D : ℕ} (l : Lifted) (i k : ℕ) (e : Entry) (ones sums : List ℕ) (old new : Lanes W D)
    (before after : Order) : Type 0 where
  pub known : (p : ℕ) → bit new.known.items p
      ≡ (bit old.known.items p || marks_of l.plan.z e.col (value_in l.plan.set e) (missing_at l e ones old) p)
  pub seen : TakesSeen l.plan.z i k (missing_at l e ones old) old.known.items new.known.items old.seen new.seen
  pub bits : (p : ℕ)
      → bit new.bits.items p ≡ (bit old.bits.items p
      || marks_of l.plan.z e.col (value_in l.plan.set e) (λ t. missing_at l e ones old t && is_set sums t) p)
  pub adds : AddsSteps (steps_below (rotated_step l.plan.z e.row e.col (value_in l.plan.set e % l.plan.z))
      (missing_at l e ones old) l.plan.z) before after
  pub known_long : length new.known.items ≡ length old.known.items
  pub bits_long : length new.bits.items ≡ length old.bits.items
  pub known_lanes : new.known.lanes ≡ old.known.lanes
  pub bits_lanes : new.bits.lanes ≡ old.bits.lanes
