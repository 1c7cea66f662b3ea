-- How the bits of a transmission are shared out to its code blocks (TS 38.212, 5.4.2.1). Of C code blocks C' are
-- scheduled, and j counts those from 0. Qm is the modulation order, NL the number of layers, and G the number of all bits.
use Rattle.std.specs.Prelude.{◌≡◌, ℕ, ◌-◌, ◌*◌, ◌/◌, ◌%◌, ◌<◌, ◌≤◌, ◌==◌, Bool, true}
use Rattle.std.specs.Prelude.{◌&&◌, not, nat_le, if◌then◌else◌, Result, Ok, Err, MatchResult, List, [], ◌∷◌, length}
use Rattle.std.specs.{Prelude.map, Prelude.sum, Prelude.count_by, Prelude.All, Prelude.slice_index, Int.bit_at, Int.div_ceil}
use Rattle.std.specs.List.{list_any, range_with_len}
use Rattle.arrayvec.specs.ArrayVec.{ArrayVec}
use Rattle.nr_ratematch.specs.declared.{fault.RmFault.RmFault, mask.Mask.Mask}
use Rattle.nr_ratematch.specs.declared.fault.RmFault.TheVariants.{Order, Layers, Total, Ragged, NoneScheduled}
use Rattle.nr_ratematch.specs.declared.mask.Mask.TheVariants as mask

-- whether code block r is scheduled
abbrev pub is_scheduled : Mask → ℕ → Bool
is_scheduled mask.All r = true
is_scheduled (mask.Only words) r = bit_at (slice_index words (r / 64)) (r % 64) == 1

-- how many of the first r code blocks are scheduled: C' if r is C, and j of code block r
abbrev pub scheduled_count : (ℕ → Bool) → ℕ → ℕ
scheduled_count is_on r = count_by is_on (range_with_len 0 r)

-- the modulation orders
abbrev pub is_order : ℕ → Bool
is_order qm = list_any (λ order. order == qm) (1 ∷ 2 ∷ 4 ∷ 6 ∷ 8 ∷ [])

-- E_r of a scheduled code block: all is C', unit is NL Qm, and s is G / (NL Qm)
abbrev pub share_of : ℕ → ℕ → ℕ → ℕ → ℕ
share_of all unit s j = if nat_le j (all - s % all - 1) then unit * (s / all) else unit * div_ceil s all

-- E_r of code block r of c
abbrev pub length_of : (ℕ → Bool) → ℕ → ℕ → ℕ → ℕ → ℕ
length_of is_on c unit s r =
    if is_on r then share_of (scheduled_count is_on c) unit s (scheduled_count is_on r) else 0

-- E_r of each of c code blocks
abbrev pub shares_of : (ℕ → Bool) → ℕ → ℕ → ℕ → List ℕ
shares_of is_on c unit s = map (length_of is_on c unit s) (range_with_len 0 c)

-- E_r of each of c code blocks, from G, Qm and NL
abbrev pub lengths_of : (ℕ → Bool) → ℕ → ℕ → ℕ → ℕ → List ℕ
lengths_of is_on c g qm nl = shares_of is_on c (nl * qm) (g / (nl * qm))

-- the lengths, or the first fault
unfoldable pub lengths_said : (ℕ → Bool) → ℕ → ℕ → ℕ → ℕ → Result (List ℕ) RmFault
lengths_said is_on c g qm nl =
    if not (is_order qm) then Err Order
    else (if not (nat_le 1 nl && nat_le nl 4) then Err Layers
    else (if not (nat_le 1 g && nat_le g 4194304) then Err Total
    else (if not (g % (nl * qm) == 0) then Err Ragged
    else (if scheduled_count is_on c == 0 then Err NoneScheduled
    else Ok (lengths_of is_on c g qm nl)))))

-- a call's lengths, or its fault, are those of the specification
abbrev pub AreSaid : Result (ArrayVec ℕ) RmFault → Result (List ℕ) RmFault → Type 0
AreSaid result said = MatchResult result (λ v. said ≡ Ok v.items) (λ e. said ≡ Err e)

-- what is true of the lengths of c code blocks: they are multiples of Qm, and together they are all g bits
pub record IsShared (c g qm : ℕ) (lengths : List ℕ) : Type 0 where
  pub counted : length lengths ≡ c
  pub order_some : 0 < qm
  pub whole : All (λ e. e % qm ≡ 0) lengths
  pub together : sum lengths ≡ g
  pub few : g ≤ 4194304

-- this is always true of the lengths
abbrev pub LengthsAreShared : Type 0
LengthsAreShared = (is_on : ℕ → Bool) (c g qm nl : ℕ) (lengths : List ℕ)
    → lengths_said is_on c g qm nl ≡ Ok lengths → IsShared c g qm lengths
