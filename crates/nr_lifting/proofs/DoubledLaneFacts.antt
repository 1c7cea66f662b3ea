-- Blocks that are kept as doubled lanes, as the list that they are seen as.
use Rattle.std.proofs.Math.Nat.{mul-div_cancel}
use Rattle.nr_lifting.proofs.Names.{GainsDoubled, bit_at, bit_at-zero, get_or-set_same, get_or_past, mod-eq_of_lt, mul-le-mul_right}
use Rattle.nr_lifting.proofs.Names.{IsClear, block_bits, get_or_read, length-set, place-zeros, div-mul-add, mod-mul-add, AreDoubled}
use Rattle.nr_lifting.proofs.Names.{IsDoubledLane, get_or-replicate, get_or-set_other, length-replicate, length-map-range_with_len}
use Rattle.nr_lifting.proofs.Names.{arith, cases_eq, cases_lt, ◌%◌, ◌&&◌, ◌*◌, ◌==◌, ◌||◌, div_below, IsRotated}
use Rattle.nr_lifting.proofs.Names.{bit_and, mod_below, nat_tests, replicate, ◌∙◌, ◌≡◌, ◌≢◌, ◌≤◌, ◌⊕◌}
use Rattle.nr_lifting.proofs.Names.{get_or, is_set, length, ◌+◌, ◌-◌, ◌/◌, ◌<◌, ◌^◌, le-div, max-one, IsMask}
use Rattle.nr_lifting.proofs.Names.{List, [], ap, bit, false, min, not, place, refl, set, subst, suc, sym, zero, ℕ}
use Rattle.nr_lifting.specs.{inside.Lane.AddsPlaces, DoubledLanes.BlockBits, DoubledLanes.lane_marks, DoubledLanes.doubled_bit}
use Rattle.nr_lifting.proofs.LaneViewFacts.{place-lt, rest_bits, sum_bits}
use Rattle.std.{proofs.Common.map, proofs.Common.ext_get_or, specs.Array.AllZipBelow, specs.List.range_with_len}
use Rattle.std.proofs.lemmas.{Nat.and_mask, Nat.Bits.bit_at_lowest, List.FromFn.get_or-map-range_with_len}

-- the value of a function at a number, from the list of its values below m, if it has the default past m
pub view_is : {A : Type 0} (f : ℕ → A) (m k : ℕ) (d : A) → (m ≤ k → f k ≡ d)
    → get_or (map f (range_with_len 0 m)) k d ≡ f k
view_is f m k d past = grind (arith, nat_tests, cases_lt, get_or-map-range_with_len, get_or_past, length-map-range_with_len)

-- the list, if all values are one
view_same : {A : Type 0} (f : ℕ → A) (a m : ℕ) (d : A) → ((k : ℕ) → f k ≡ d)
    → map f (range_with_len a m) ≡ replicate m d
view_same f a zero d all = refl
view_same f a (suc m) d all = cc (all a, view_same f (a + 1) m d all)

pub is_set-nil : (t : ℕ) → is_set [] t ≡ false
is_set-nil t = ap (λ n. n == 1) (bit_at-zero (t % 64))

-- a block that a view has is one of n
pub block_below : (n z j : ℕ) → 0 < z → (j + 1) * z ≤ n * z → j < n
block_below n z j some fits = grind (arith, nat_tests, cases_lt, mul-le-mul_right)

module _ (z : ℕ) (some : 0 < z) where
  -- each bit of the view, past the end too
  pub bit_is : (blocks : List (List ℕ)) (p : ℕ) → bit (block_bits z blocks).items p ≡ doubled_bit z blocks p
  bit_is blocks p = grind (arith, view_is, get_or_past, le-div, is_set-nil)

  pub long_is : (blocks : List (List ℕ)) → length (block_bits z blocks).items ≡ length blocks * z
  long_is blocks = length-map-range_with_len (doubled_bit z blocks) 0 (length blocks * z)

  -- bit t of block j
  pub bit_in : (blocks : List (List ℕ)) (j t : ℕ) → t < z
      → bit (block_bits z blocks).items (j * z + t) ≡ is_set (get_or blocks j []) t
  bit_in blocks j t below = grind (arith, bit_is, div-mul-add, mod-mul-add)

  pub lane_read : (blocks : List (List ℕ)) (j rotation : ℕ) (lane : List ℕ) → IsRotated z lane (get_or blocks j []) rotation
      → (t : ℕ) → t < z → is_set lane t ≡ bit (block_bits z blocks).items (j * z + (t + rotation) % z)
  lane_read blocks j rotation lane rotated t below = grind (arith, nat_tests, bit_in, mod_below)

  -- a lane gains a block, and the bits of a lane that a block lacks
  pub lane_gains : (blocks : List (List ℕ)) (j rotation : ℕ) (sum old : List ℕ)
      → AddsPlaces z sum old (get_or blocks j []) rotation
      → (t : ℕ) → t < z → is_set sum t ≡ is_set old t ⊕ bit (block_bits z blocks).items (j * z + (t + rotation) % z)
  lane_gains blocks j rotation sum old adds t below = grind (arith, nat_tests, sum_bits, place-lt, bit_in, mod_below)

  pub lane_lacks : (blocks : List (List ℕ)) (j rotation : ℕ) (rest lane : List ℕ)
      → ((t : ℕ) → t < z → place rest t ≡ min (place lane t) (1 - place (get_or blocks j []) ((t + rotation) % z)))
      → (t : ℕ) → t < z
      → is_set rest t ≡ (is_set lane t && not (bit (block_bits z blocks).items (j * z + (t + rotation) % z)))
  lane_lacks blocks j rotation rest lane less t below = grind (arith, nat_tests, rest_bits, place-lt, bit_in, mod_below)

  -- ---- writes

  written_bit : (blocks : List (List ℕ)) (j : ℕ) (doubled : List ℕ) → j < length blocks → (p : ℕ) → p / z ≡ j
      → bit (block_bits z (set blocks j doubled)).items p ≡ is_set doubled (p % z)
  written_bit blocks j doubled within p here = grind (arith, bit_is, get_or-set_same)

  kept_bit : (blocks : List (List ℕ)) (j : ℕ) (doubled : List ℕ) (p : ℕ) → p / z ≢ j
      → bit (block_bits z (set blocks j doubled)).items p ≡ bit (block_bits z blocks).items p
  kept_bit blocks j doubled p apart = grind (arith, bit_is, get_or-set_other)

  pub joined_bits : (blocks : List (List ℕ)) (j : ℕ) (doubled lane : List ℕ) → j < length blocks
      → GainsDoubled z doubled (get_or blocks j []) lane
      → (p : ℕ) → bit (block_bits z (set blocks j doubled)).items p
      ≡ (bit (block_bits z blocks).items p || lane_marks z j (is_set lane) p)
  joined_bits blocks j doubled lane within gains p =
      grind (arith, nat_tests, cases_eq, mod_below, bit_is, written_bit, max-one, place-lt, mod-eq_of_lt, kept_bit)

  -- a lane that is rotated marks the places of the other
  pub turned_marks : (j p : ℕ) (turned lane : List ℕ) → IsRotated z turned lane p → (q : ℕ)
      → lane_marks z j (is_set turned) q ≡ lane_marks z j (λ t. is_set lane ((t + p) % z)) q
  turned_marks j p turned lane rotated q = ap (λ n. (q / z == j) && (n == 1)) (rotated (q % z) (mod_below q z some))

  pub cleared_bits : (blocks : List (List ℕ)) (j w : ℕ) → j < length blocks
      → (p : ℕ) → bit (block_bits z (set blocks j (replicate w 0))).items p
      ≡ (bit (block_bits z blocks).items p && not (p / z == j))
  cleared_bits blocks j w within p = grind (arith, nat_tests, cases_eq, written_bit, place-zeros, kept_bit)

  -- ---- doubled lanes stay doubled

  pub doubled_set : (W D : ℕ) (mask : List ℕ) (blocks : List (List ℕ)) (j : ℕ) (doubled : List ℕ)
      → AreDoubled W D z mask blocks
      → j < length blocks → IsDoubledLane z doubled → IsClear doubled (2 * z) → AreDoubled W D z mask (set blocks j doubled)
  doubled_set W D mask blocks j doubled are within twice clear = grind
      (arith, length-set, cases_eq, get_or-set_same, get_or-set_other)

-- the view's blocks have this length
pub lanes_are : {W D z : ℕ} {mask : List ℕ} {blocks : List (List ℕ)} {v : BlockBits} → AreDoubled W D z mask blocks
    → block_bits z blocks ≡ v → z ≡ v.lanes
lanes_are are e = ap (λ v. v.lanes) e

-- as many places in blocks of one size are in as many blocks
pub blocks_alike : (m n z : ℕ) → 0 < z → m * z ≡ n * z → m ≡ n
blocks_alike m n z some same = sym (mul-div_cancel m some) ∙ ap (λ k. k / z) same ∙ mul-div_cancel n some

-- if the view has a block or a bit, there is a doubled lane; and what is read there
pub block_within : {W D z : ℕ} {mask : List ℕ} {blocks : List (List ℕ)} {v : BlockBits} → AreDoubled W D z mask blocks
    → block_bits z blocks ≡ v → (j : ℕ) → (j + 1) * v.lanes ≤ length v.items → j < length blocks
block_within {W} {D} {z} {mask} {blocks} {v} are e j fits = grind (arith, block_below, long_is)

pub bit_within : {W D z : ℕ} {mask : List ℕ} {blocks : List (List ℕ)} {v : BlockBits} → AreDoubled W D z mask blocks
    → block_bits z blocks ≡ v → (p : ℕ) → p < length v.items → p / z < length blocks
bit_within {W} {D} {z} {mask} {blocks} {v} are e p below =
    div_below p z (length blocks) are.some (subst (λ m. p < m) (long_is z are.some blocks) (rw (← e) at below))

pub doubled_read : {W D z : ℕ} {mask : List ℕ} {blocks : List (List ℕ)} {v : BlockBits} → AreDoubled W D z mask blocks
    → block_bits z blocks ≡ v → (j : ℕ) → (j + 1) * v.lanes ≤ length v.items
    → {doubled : List ℕ} → doubled ≡ get_or blocks j doubled → doubled ≡ get_or blocks j []
doubled_read {W} {D} {z} {mask} {blocks} {v} are e j fits {doubled} read = get_or_read blocks j doubled (block_within are e j fits)
    read []

-- doubled lanes of zeros
module _ (z count W D : ℕ) where
  abbrev zeros : List (List ℕ)
  zeros = replicate count (replicate {A = ℕ} D 0)

  zero_at : (j t : ℕ) → place (get_or zeros j []) t ≡ 0
  zero_at j t = grind (arith, nat_tests, cases_lt, get_or-replicate, place-zeros, get_or_past, length-replicate, bit_at-zero)

  pub zeros_are : (mask : List ℕ) → IsMask z mask → 0 < z → z ≤ 64 * W → W ≤ 6 → D ≡ 2 * W → count < 2 ^ 16
      → AreDoubled W D z mask zeros
  zeros_are mask is some short words twice few = grind (arith, length-replicate, zero_at)

  pub zero_bits : 0 < z → (block_bits z zeros).items ≡ replicate (count * z) false
  zero_bits some = grind (arith, nat_tests, view_same, zero_at, length-replicate)

pub zero_doubled : (z w : ℕ) → IsDoubledLane z (replicate w 0)
zero_doubled z w t below = place-zeros w (z + t) ∙ sym (place-zeros w t)

-- the lowest place of a word
pub low_bit : (w : ℕ) → bit_and w 1 ≡ bit_at w 0
low_bit w = and_mask w 1 ∙ sym (bit_at_lowest w)

-- what is cloned number by number is the same
pub cloned : (xs ys : List ℕ) (n : ℕ) → AllZipBelow (λ x y. y ≡ x) xs ys n → length xs ≡ n → ys ≡ xs
cloned xs ys n clones long =
    ext_get_or 0 ys xs (clones.long ∙ sym long) (λ i within. clones.at i 0 0 (omega (arith, within, clones.long)))
