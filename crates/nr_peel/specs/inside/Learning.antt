-- What a peeler holds between calls, and what happens to positions that are given to it.
use Rattle.std.specs.Prelude.{◌≡◌, ℕ, ◌<◌, ◌≤◌, Bool, true, length, take}
use Rattle.nr_bitvec.specs.Bit.{bit}
use Rattle.nr_shifttable.specs.Accepted.{IsTable}
use Rattle.nr_peel.specs.Peeling.{GivesAll, IsSameCode, KeepsAllWords, KeepsBits, KeepsKnown, Peeling, TakesAll, left_of}
use Rattle.nr_peel.specs.inside.{Searches.IsDone, Settled.IsHeld, Settled.Reaches, State.lifted_checks}
use Rattle.nr_peel.specs.declared.any_sweep.AnySweep.{AnySweep}
use Rattle.nr_peel.specs.declared.any_sweep.AnySweep.TheVariants as variant
use Rattle.nr_peel.specs.declared.{bit_parallel.sweep.Sweep.Sweep, lifted.Lifted.Lifted, progress.Progress.Progress}

-- What was given has no more consequences, but that row blocks may wait if no steps are kept. The fillers are given, and
-- what is left is counted.
pub record IsSettled {W D : ℕ} (l : Lifted) (p : Progress) (s : Sweep W D) : Type 0 where
  pub table : IsTable l.table.now
  pub given_long : length p.given.items ≡ (lifted_checks l).size
  pub held : IsHeld (lifted_checks l) s p
  pub quiet : (i : ℕ) → i < (lifted_checks l).rows → IsDone (lifted_checks l) p.order.kept s i
  pub reaches : Reaches (lifted_checks l) (bit p.given.items) s.lanes.known.items p.order
  pub fillers : (q : ℕ) → l.plan.kdash ≤ q → q < l.plan.k → bit p.given.items q ≡ true
  pub left : p.left ≡ left_of l.plan.kdash s.lanes.known.items

-- the same, whatever number of words the lanes take
abbrev pub IsAnySettled : Lifted → Progress → AnySweep → Type 0
IsAnySettled l p (variant.One s) = IsSettled l p s
IsAnySettled l p (variant.Two s) = IsSettled l p s
IsAnySettled l p (variant.Three s) = IsSettled l p s
IsAnySettled l p (variant.Four s) = IsSettled l p s
IsAnySettled l p (variant.Six s) = IsSettled l p s

-- the positions of a set H are given, and those that weren't known take the bits V
pub record Learns (H V : ℕ → Bool) (old new : Peeling) : Type 0 where
  pub code : IsSameCode old new
  pub given : GivesAll H old new
  pub known : KeepsKnown old new
  pub bits : KeepsBits old new
  pub taken : TakesAll H V old new
  pub words : KeepsAllWords H V old new
  pub steps : take (length old.order) new.order ≡ old.order
  pub visited : old.touches ≤ new.touches
