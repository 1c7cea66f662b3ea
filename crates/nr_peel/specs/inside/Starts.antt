-- What peeling by lanes begins with: nothing is known.
use Rattle.std.specs.Prelude.{◌≡◌, ℕ, ◌+◌, ◌*◌, ◌<◌, false, [], length, slice_index}
use Rattle.nr_bitvec.specs.Bit.{bit}
use Rattle.nr_lifting.specs.Planes.{BlockCounts}
use Rattle.nr_ldpcenc.specs.Rows.{Checks}
use Rattle.nr_segment.specs.Plan.{Numbers}
use Rattle.nr_peel.specs.{Peeling.fillers, inside.Certificates.HasRoom, inside.Seen.HasSeenNone, inside.Settled.IsHeld}
use Rattle.nr_peel.specs.{inside.Sweeps.AreLanes, declared.bit_parallel.lanes.Lanes.Lanes, declared.bit_parallel.sweep.Sweep.Sweep}
use Rattle.nr_peel.specs.declared.progress.Progress.{Progress}

-- each count is the number of its row's positions
pub record AreDegrees (c : Checks) (counts : BlockCounts) : Type 0 where
  pub counted : (i t : ℕ) → i < c.rows → t < c.lanes → slice_index counts.items (i * c.lanes + t) ≡ length (c.row i t)
  pub long : length counts.items ≡ c.rows * c.lanes
  pub lanes : counts.lanes ≡ c.lanes

-- nothing is known
pub record AreBlank {W D : ℕ} (c : Checks) (s : Lanes W D) : Type 0 where
  pub lanes : AreLanes c s
  pub unknown : (p : ℕ) → bit s.known.items p ≡ false
  pub none_seen : HasSeenNone c s.seen

-- the fillers are given, nothing was done, and there is room for a step of each row
pub record HasBegun (c : Checks) (n : Numbers) (p : Progress) : Type 0 where
  pub given : p.given.items ≡ fillers c n
  pub order : p.order.list.items ≡ []
  pub room : HasRoom p.order (c.rows * c.lanes)
  pub touches : p.touches ≡ 0

-- the counts are those if nothing is known
pub record IsBlankSweep {W D : ℕ} (c : Checks) (s : Sweep W D) : Type 0 where
  pub blank : AreBlank c s.lanes
  pub held : (n : Numbers) (p : Progress) → HasBegun c n p → IsHeld c s p
