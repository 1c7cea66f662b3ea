-- What a copy has of what it was made from.
use Rattle.std.specs.Prelude.{◌≡◌, ℕ, ◌≤◌, vec_capacity}
use Rattle.nr_ldpcenc.specs.Rows.{Checks}
use Rattle.nr_peel.specs.{inside.Learning.IsAnySettled, inside.Learning.IsSettled, inside.State.sweep_view, State.any_view}
use Rattle.nr_peel.specs.inside.{Settled.IsHeld, Sweeps.AreLanes}
use Rattle.nr_peel.specs.declared.any_sweep.AnySweep.{AnySweep}
use Rattle.nr_peel.specs.declared.any_sweep.AnySweep.TheVariants as variant
use Rattle.nr_peel.specs.declared.bit_parallel.{lanes.Lanes.Lanes, seen_lanes.SeenLanes.SeenLanes, sweep.Sweep.Sweep}
use Rattle.nr_peel.specs.declared.{lifted.Lifted.Lifted, progress.Progress.Progress}

-- both are of one code, so that one may become as the other
abbrev pub LanesFit : {W D : ℕ} → Lanes W D → Lanes W D → Type 0
LanesFit a b = (c : Checks) × AreLanes c a × AreLanes c b

abbrev pub IsHeldOver : {W D : ℕ} → Checks → Sweep W D → Type 0
IsHeldOver c s = (p : Progress) × IsHeld c s p

abbrev pub SweepsFit : {W D : ℕ} → Sweep W D → Sweep W D → Type 0
SweepsFit a b = (c : Checks) × IsHeldOver c a × IsHeldOver c b

-- the same, whatever number of words the lanes take
abbrev pub IsAnyHeld : Checks → AnySweep → Type 0
IsAnyHeld c (variant.One s) = IsHeldOver c s
IsAnyHeld c (variant.Two s) = IsHeldOver c s
IsAnyHeld c (variant.Three s) = IsHeldOver c s
IsAnyHeld c (variant.Four s) = IsHeldOver c s
IsAnyHeld c (variant.Six s) = IsHeldOver c s

abbrev pub AnySweepsFit : AnySweep → AnySweep → Type 0
AnySweepsFit a b = (c : Checks) × IsAnyHeld c a × IsAnyHeld c b

-- the counts know of the same
pub record IsSameSeen {W : ℕ} (a b : SeenLanes W) : Type 0 where
  pub lanes : b.lanes.items ≡ a.lanes.items
  pub starts : b.starts ≡ a.starts
  pub holders : b.holders ≡ a.holders
  pub stale : b.stale ≡ a.stale
  pub begun : b.begun ≡ a.begun
  pub whole : b.whole ≡ a.whole
  pub behind : b.behind ≡ a.behind
  pub all : b.all ≡ a.all

-- the same was given and done, and there is room for as many steps
pub record IsSameProgress (a b : Progress) : Type 0 where
  pub given : b.given.items ≡ a.given.items
  pub left : b.left ≡ a.left
  pub steps : b.order.list.items ≡ a.order.list.items
  pub kept : b.order.kept ≡ a.order.kept
  pub room : vec_capacity a.order.list ≤ vec_capacity b.order.list
  pub touches : b.touches ≡ a.touches

-- with the same given and done, one sweep is settled if the other is, and is seen alike
abbrev pub Serves : {W D : ℕ} → Sweep W D → Sweep W D → Type 0
Serves a b = (l : Lifted) (p q : Progress) → IsSameProgress p q → IsSettled l p a
    → IsSettled l q b × (sweep_view l q b ≡ sweep_view l p a)

-- the same, whatever number of words the lanes take
abbrev pub ServesAny : AnySweep → AnySweep → Type 0
ServesAny a b = (l : Lifted) (p q : Progress) → IsSameProgress p q → IsAnySettled l p a
    → IsAnySettled l q b × (any_view l q b ≡ any_view l p a)
