-- Many positions that are given at a time.
use Rattle.std.specs.Prelude.{◌≡◌, ℕ, ◌&&◌, ◌||◌, Bool, not}
use Rattle.nr_bitvec.specs.Bit.{bit}
use Rattle.nr_ldpcenc.specs.Rows.{Checks}
use Rattle.nr_peel.specs.{inside.Seen.IsSeenStill, inside.Sweeps.AreLanes, declared.bit_parallel.lanes.Lanes.Lanes}

-- the positions of a set that aren't known
abbrev pub news : {W D : ℕ} → (ℕ → Bool) → Lanes W D → ℕ → Bool
news H s p = H p && not (bit s.known.items p)

-- The positions of a set are given: those that weren't known take the bits V. The counts don't know of them yet.
pub record GivesPositions {W D : ℕ} (c : Checks) (H V : ℕ → Bool) (old new : Lanes W D) : Type 0 where
  pub known : (p : ℕ) → bit new.known.items p ≡ (bit old.known.items p || H p)
  pub seen : IsSeenStill old.seen new.seen
  pub bits : (p : ℕ) → bit new.bits.items p ≡ (bit old.bits.items p || (news H old p && V p))
  pub lanes : AreLanes c new
