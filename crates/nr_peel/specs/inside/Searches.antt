-- What a turn of a row block and a pass over all of them leave.
use Rattle.std.specs.Prelude.{◌≡◌, ◌≢◌, ℕ, ◌+◌, ◌-◌, ◌*◌, ◌/◌, ◌<◌, ◌≤◌, ◌==◌, ◌&&◌}
use Rattle.std.specs.Prelude.{◌||◌, nat_le, Bool, true, false, not, List, slice_index}
use Rattle.nr_bitvec.specs.Bit.{bit}
use Rattle.nr_lifting.specs.DoubledLanes.{marked_count}
use Rattle.nr_ldpcenc.specs.Rows.{Checks}
use Rattle.nr_peel.specs.inside.{Settled.IsHeld, Settled.Keeps, Sweeps.BlockCountsOf, Sweeps.has_count}
use Rattle.nr_peel.specs.declared.{bit_parallel.sweep.Sweep.Sweep, progress.Progress.Progress}

-- how many rows have no unknown position by their counts
abbrev pub full_rows : {W D : ℕ} → Checks → Sweep W D → ℕ
full_rows c s = marked_count (has_count 0 s.counts.items) (c.rows * c.lanes)

-- the counts of row block i know of all that is known, and none of them is one
abbrev pub IsQuiet : {W D : ℕ} → Checks → Sweep W D → ℕ → Type 0
IsQuiet c s i = BlockCountsOf c (bit s.lanes.known.items) s.counts.items i
    × ((t : ℕ) → t < c.lanes → slice_index s.counts.items (i * c.lanes + t) ≢ 1)

-- the column that row block i alone has, from row block 4 on
abbrev pub own_column : Checks → ℕ → ℕ
own_column c i = c.size / c.lanes + i - c.rows

-- Whether row block i may wait: nothing is known of a column that it alone has. So its rows fix nothing else.
abbrev pub may_wait : Checks → List Bool → ℕ → Bool
may_wait c known i = nat_le 4 i && (marked_count (λ t. bit known (own_column c i * c.lanes + t)) c.lanes == 0)

-- in a last pass each row block is quiet, and in another each that may not wait
abbrev pub IsDone : {W D : ℕ} → Checks → Bool → Sweep W D → ℕ → Type 0
IsDone c last s i = (last || not (may_wait c s.lanes.known.items i)) ≡ true → IsQuiet c s i

-- what is true after turns as before
pub record TurnsGoOn {W D : ℕ} (c : Checks) (old new : Sweep W D) (before after : Progress) : Type 0 where
  pub held : IsHeld c new after
  pub given : after.given ≡ before.given
  pub visited : before.touches ≤ after.touches
  pub keeps : Keeps c old.lanes new.lanes before.order after.order
  pub full : full_rows c old ≤ full_rows c new

-- Row block i had its turn. If a row was found, one more row has no unknown position. If none was found nothing became
-- known, and the row block is done.
pub record Visits {W D : ℕ} (c : Checks) (i : ℕ) (last found : Bool) (old new : Sweep W D)
    (before after : Progress) : Type 0 where
  pub on : TurnsGoOn c old new before after
  pub rises : found ≡ true → full_rows c old < full_rows c new
  pub known : found ≡ false → new.lanes.known ≡ old.lanes.known
  pub others : found ≡ false → (h t : ℕ) → h ≢ i → t < c.lanes
      → slice_index new.counts.items (h * c.lanes + t) ≡ slice_index old.counts.items (h * c.lanes + t)
  pub quiet : found ≡ false → IsDone c last new i

-- the first n row blocks had their turns
pub record Passes {W D : ℕ} (c : Checks) (n : ℕ) (last found : Bool) (old new : Sweep W D)
    (before after : Progress) : Type 0 where
  pub on : TurnsGoOn c old new before after
  pub rises : found ≡ true → full_rows c old < full_rows c new
  pub quiet : found ≡ false → (h : ℕ) → h < n → IsDone c last new h
