-- What is kept while rows fix positions and counts follow, turn after turn.
use Rattle.std.specs.Prelude.{◌≡◌, ◌≢◌, ℕ, ◌+◌, ◌*◌, ◌^◌, ◌<◌, ◌≤◌, ◌==◌, ◌&&◌}
use Rattle.std.specs.Prelude.{◌||◌, if◌then◌else◌, Bool, true, List, length, slice_index, sum}
use Rattle.nr_bitvec.specs.Bit.{bit}
use Rattle.nr_lifting.specs.DoubledLanes.{is_set, marked_count}
use Rattle.nr_ldpcenc.specs.Rows.{Checks, Meets}
use Rattle.nr_peel.specs.{Certificates.all_accepted, Certificates.is_fixed_by, inside.Due.DueCounts, inside.Due.work_of}
use Rattle.nr_peel.specs.{inside.Certificates.Extends, inside.Certificates.HasRoom, inside.Certificates.Order, Peeling.HasBits}
use Rattle.nr_peel.specs.inside.{Seen.CountsUnseen, Seen.NeedsNoLook, Sweeps.AreLanes, Sweeps.BlockCountsOf, Sweeps.has_count}
use Rattle.nr_peel.specs.{Touches.step_pairs, inside.Touches.all_pairs, inside.Touches.spent_pairs, declared.fix.Fix.Fix}
use Rattle.nr_peel.specs.declared.{bit_parallel.lanes.Lanes.Lanes, bit_parallel.sweep.Sweep.Sweep, progress.Progress.Progress}

-- The counts are those of the positions that they know of. Each step is that of a row without an unknown position. Each
-- pair of a row and a position that the counts know of was visited once, or twice if the row has no unknown one.
-- Operations, and one more for each row block that is due, are at most three a visit and one a row block. An operation makes at
-- most as many visits as a row block has rows.
pub record IsHeld {W D : ℕ} (c : Checks) (s : Sweep W D) (p : Progress) : Type 0 where
  pub lanes : AreLanes c s.lanes
  pub counts_lanes : s.counts.lanes ≡ c.lanes
  pub counts_long : length s.counts.items ≡ c.rows * c.lanes
  pub counted : CountsUnseen c s.lanes.seen s.counts.items
  pub order_few : length p.order.list.items ≤ marked_count (has_count 0 s.counts.items) (c.rows * c.lanes)
  pub order_room : HasRoom p.order (c.rows * c.lanes)
  pub least : all_pairs c + step_pairs c p.order.list.items ≤ p.touches + sum s.counts.items
  pub most : p.touches + sum s.counts.items ≤ all_pairs c + spent_pairs c s.counts.items
  pub worked : work_of s.counts ≤ 3 * p.touches + c.rows
  pub paid : p.touches ≤ c.lanes * s.counts.operations
  pub small : 16 * all_pairs c + c.rows + 4 < 2 ^ 62

-- The counts of row block i have fallen by the positions that they didn't know of. Each pair of a row and such a
-- position was visited. Nothing else has changed.
pub record LanesCatchUp {W D : ℕ} (c : Checks) (i visits : ℕ) (old new : Lanes W D) (before after : DueCounts) : Type 0 where
  pub lanes : AreLanes c new
  pub counted : CountsUnseen c new.seen after.items
  pub caught : BlockCountsOf c (bit new.known.items) after.items i
  pub others : (h t : ℕ) → h ≢ i → t < c.lanes
      → slice_index after.items (h * c.lanes + t) ≡ slice_index before.items (h * c.lanes + t)
  pub falls : (k : ℕ) → slice_index after.items k ≤ slice_index before.items k
  pub visits_are : visits + sum after.items ≡ sum before.items
  pub worked : work_of after ≤ work_of before + 2 * visits
  pub paid : visits + c.lanes * before.operations ≤ c.lanes * after.operations
  pub known : new.known ≡ old.known
  pub bits : new.bits ≡ old.bits
  pub own : NeedsNoLook c i new.seen
  pub counts_lanes : after.lanes ≡ before.lanes
  pub counts_long : length after.items ≡ length before.items

-- The rows of a lane had a count of one, and have none. The counts of row block i know of what they fixed. Nothing else
-- has changed.
pub record RowsSettle {W D : ℕ} (c : Checks) (i : ℕ) (ones : List ℕ) (old new : Lanes W D)
    (before after : DueCounts) : Type 0 where
  pub lanes : AreLanes c new
  pub counted : CountsUnseen c new.seen after.items
  pub falls : (h t : ℕ) → t < c.lanes
      → slice_index after.items (h * c.lanes + t) + (if (i == h) && is_set ones t then 1 else 0)
      ≡ slice_index before.items (h * c.lanes + t)
  pub worked : work_of after ≤ work_of before + 2
  pub paid : after.operations ≡ before.operations + 1
  pub known : new.known ≡ old.known
  pub bits : new.bits ≡ old.bits
  pub counts_lanes : after.lanes ≡ before.lanes
  pub counts_long : length after.items ≡ length before.items

-- the counts of row block i catch up, and the visits are counted
abbrev pub CatchesUp : {W D : ℕ} → Checks → ℕ → Sweep W D → Sweep W D → Progress → Progress → Type 0
CatchesUp c i old new before after = (visits : ℕ) × LanesCatchUp c i visits old.lanes new.lanes old.counts new.counts
    × (after ≡ record before { touches = before.touches + visits })

-- There are steps, accepted in turn from a set, and with it they are all that is known. If some are kept, they are these.
pub record Reaches (c : Checks) (G : ℕ → Bool) (known : List Bool) (order : Order) : Type 0 where
  pub steps : List Fix
  pub are : order.kept ≡ true → order.list.items ≡ steps
  pub accepted : all_accepted c G steps ≡ true
  pub reached : (p : ℕ) → bit known p ≡ (G p || is_fixed_by steps p)

-- Lanes after others: no known bit and no step is lost. Each word that meets every row and had the known bits has them.
-- What is known is still reached from each set from which it was.
pub record Keeps {W D : ℕ} (c : Checks) (old new : Lanes W D) (before after : Order) : Type 0 where
  pub known : (p : ℕ) → bit old.known.items p ≡ true → bit new.known.items p ≡ true
  pub bits : (p : ℕ) → bit old.known.items p ≡ true → bit new.bits.items p ≡ bit old.bits.items p
  pub words : (w : ℕ → Bool) → Meets c w → HasBits old.known.items old.bits.items w
      → HasBits new.known.items new.bits.items w
  pub reaches : (G : ℕ → Bool) → Reaches c G old.known.items before → Reaches c G new.known.items after
  pub order : Extends before.list.items after.list.items
  pub same : after.kept ≡ before.kept
