-- What a row of blocks fixes in the block of one entry.
use Rattle.nr_peel.proofs.Common.{nat_tests, ◌≡◌, ℕ, ◌+◌, ◌-◌, ◌*◌, ◌/◌, ◌%◌, ◌<◌, ◌≤◌}
use Rattle.nr_peel.proofs.Common.{◌==◌, ◌&&◌, ◌||◌, Bool, true, false, not, List, refl, sym, ap, ◌∙◌, ⊎_elim}
use Rattle.nr_peel.proofs.Common.{arith, count_by, and_parts, or_cases, eqb-true, true≢false, false_from_ne_true, not-true}
use Rattle.nr_peel.proofs.Common.{mod_below, bit, is_set, Entry, value_in, Checks, Meets, one_at, unrotate, Within, fixes, stands}
use Rattle.nr_peel.proofs.Common.{IsOnlyMissing, accepts, is_fixed_by, TakesLane, lacks, marks_of, steps_below, rotated_step}
use Rattle.nr_peel.proofs.Common.{lifted_checks, HasBits, AreLanes, Fixes, Fix, Lanes, Lifted, Order, AreSeen}
use Rattle.nr_peel.proofs.{FixOrderFacts.step_accepted, RowPlaceFacts.place-eqb, RowPlaceFacts.place_fits, CodewordFacts.only_fixes}
use Rattle.nr_peel.proofs.{RowPositionFacts.only_here, StepFacts.fixed_by_one, StepFacts.steps_accepted}

-- ---- bits

kept_bit : (b k x y s d : Bool) → d ≡ (b || (x && (y && s))) → ((x && y) ≡ true → k ≡ false) → k ≡ true → d ≡ b
kept_bit b k x y s d is out known = grind arith

blank_still : (k b x y s k' b' : Bool) → k' ≡ (k || (x && y)) → b' ≡ (b || (x && (y && s)))
    → (k ≡ false → b ≡ false) → k' ≡ false → b' ≡ false
blank_still k b x y s k' b' known bits blank out = grind arith

known_then : (k o m k' : Bool) → k' ≡ (k || m) → ((o && not k) ≡ true → m ≡ true) → o ≡ true → k' ≡ true
known_then k o m k' known marked set = grind arith

-- ---- the positions that rows mark

module _ (z j v : ℕ) (some : 0 < z) (u : ℕ → Bool) where
  -- the row of a marked position
  pub place_of_mark : (p : ℕ) → (p / z == j) ≡ true → one_at z (unrotate z v (p % z)) j v ≡ p
  place_of_mark p h = eqb-true (one_at z (unrotate z v (p % z)) j v) p (grind (arith, nat_tests, place-eqb, mod_below))

  -- a row marks its position if the row is marked
  pub marked_at : (t : ℕ) → t < z → marks_of z j v u (one_at z t j v) ≡ u t
  marked_at t below = grind (arith, nat_tests, place-eqb z t j v (one_at z t j v) below)

  -- the steps of the marked rows fix the positions that these mark
  pub marks_fixed : (i p : ℕ) → marks_of z j v u p ≡ is_fixed_by (steps_below (rotated_step z i j (v % z)) u z) p
  marks_fixed i p = grind (
    arith,
    nat_tests,
    fixed_by_one (rotated_step z i j (v % z)) u p (unrotate z v (p % z)) (p / z == j) z,
    place-eqb,
    mod_below,
  )

-- a position that a row marks because it isn't in a set
pub mark_missing : (z j v : ℕ) → 0 < z → (ones : List ℕ) (K : ℕ → Bool) (p : ℕ)
    → marks_of z j v (lacks z j v ones K) p ≡ true → K p ≡ false
mark_missing z j v some ones K p h = grind (arith, nat_tests, and_parts, place_of_mark, not-true)

-- a set that is within another has nothing that the other lacks
pub outside : (P K : ℕ → Bool) → Within P K → (p : ℕ) → K p ≡ false → P p ≡ false
outside P K within p out = false_from_ne_true (P p) (λ there. true≢false (sym (within p there) ∙ out))

-- ---- an entry is taken

module _ {W D : ℕ} (l : Lifted) (i k : ℕ) (e : Entry) (ones sums : List ℕ) (K : ℕ → Bool) (a d : Lanes W D) {x y : Order}
    (took : TakesLane l i k e ones sums a d x y) (lanes : AreLanes (lifted_checks l) a)
    (seen : AreSeen (lifted_checks l) d.known.items d.seen) where
  abbrev c : Checks
  c = lifted_checks l

  abbrev z : ℕ
  z = l.plan.z

  abbrev v : ℕ
  v = value_in l.plan.set e

  abbrev u : ℕ → Bool
  u = lacks z e.col v ones (bit a.known.items)

  abbrev at : ℕ → ℕ
  at t = one_at z t e.col v

  abbrev step : ℕ → Fix
  step = rotated_step z e.row e.col (v % z)

  missing_of : 0 < z → (p : ℕ) → marks_of z e.col v u p ≡ true → bit a.known.items p ≡ false
  missing_of some = mark_missing z e.col v some ones (bit a.known.items)

  bits_kept : 0 < z → (p : ℕ) → bit a.known.items p ≡ true → bit d.bits.items p ≡ bit a.bits.items p
  bits_kept some p = kept_bit (bit a.bits.items p) (bit a.known.items p) (p / z == e.col) (u (unrotate z v (p % z)))
      (is_set sums (unrotate z v (p % z))) (bit d.bits.items p) (took.bits p) (missing_of some p)

  lanes_still : AreLanes c d
  lanes_still =
      let blank = λ (p : ℕ). blank_still _ _ (p / z == e.col) (u (unrotate z v (p % z))) (is_set sums (unrotate z v (p % z))) _ _
      (took.known p) (took.bits p) (lanes.blank p) in
      search (blank, took, lanes, seen, ◌∙◌)

  module _ (some : 0 < z) (block : i < c.rows) (row_is : e.row ≡ i) (column : (e.col + 1) * z ≤ c.size)
      (within : Within K (bit a.known.items))
      (there : (t : ℕ) → t < z → stands (at t) (c.row i t) ≡ true)
      (one : (t : ℕ) → t < z → is_set ones t ≡ true → count_by (λ p. not (K p)) (c.row i t) ≡ 1) where
    -- the position of a marked row is its only one outside K
    pub only_at : (t : ℕ) → t < z → u t ≡ true → IsOnlyMissing K (c.row i t) (at t)
    only_at t below h =
        let parts = and_parts (is_set ones t) (not (bit a.known.items (at t))) h in
        only_here K (c.row i t) (at t) (one t below parts.0) (there t below)
        (outside K (bit a.known.items) within (at t) (not-true (bit a.known.items (at t)) parts.1))

    each_accepted : (t : ℕ) → t < z → u t ≡ true → accepts c K (step t) ≡ true
    each_accepted t below h =
        step_accepted c K (step t) (omega (arith, row_is, block)) below (place_fits z t e v c.size below column)
        (ap (λ r. fixes K (c.row r t) (at t)) row_is ∙ only_fixes K (c.row i t) (at t) (only_at t below h))

    new_bit : (right : (w : ℕ → Bool) → Meets c w → HasBits a.known.items a.bits.items w → (t : ℕ) → t < z
        → u t ≡ true → w (at t) ≡ is_set sums t) (p : ℕ) → marks_of z e.col v u p ≡ true → (w : ℕ → Bool)
        → Meets c w → HasBits a.known.items a.bits.items w → w p ≡ bit d.bits.items p
    new_bit right p h w meets has =
        let parts = and_parts (p / z == e.col) (u (unrotate z v (p % z))) h in
        let value = right w meets has (unrotate z v (p % z)) (mod_below (p % z + (z - v % z)) z some) parts.1 in
        grind (
          arith,
          ap w (place_of_mark z e.col v some u p parts.0),
          value,
          took.bits p,
          lanes.blank p (missing_of some p h),
          parts.0,
          parts.1,
        )

    -- what an entry's block fixes, with as many steps as rows marked it
    pub take_fixes : ((w : ℕ → Bool) → Meets c w → HasBits a.known.items a.bits.items w → (t : ℕ) → t < z
        → u t ≡ true → w (at t) ≡ is_set sums t) → (f : Fixes c K a d x y) × (f.steps ≡ steps_below step u z)
    take_fixes right = (
      record {
        steps = steps_below step u z;
        known = λ p. took.known p ∙ ap (λ b. bit a.known.items p || b) (marks_fixed z e.col v some u e.row p);
        adds = took.adds;
        missing = λ p h. missing_of some p (marks_fixed z e.col v some u e.row p ∙ h);
        accepted = λ S more. steps_accepted c K S step u z more each_accepted;
        kept = bits_kept some;
        words = λ w meets has p h. ⊎_elim
            (λ k. has p k ∙ sym (bits_kept some p k))
            (λ m. new_bit right p m w meets has)
            (or_cases (bit a.known.items p) (marks_of z e.col v u p) (sym (took.known p) ∙ h));
        lanes = lanes_still;
      },
      refl,
    )

    -- a row that has one position outside K, and an entry of its own, knows that entry's position
    pub take_knows : (t : ℕ) → t < z → is_set ones t ≡ true → bit d.known.items (at t) ≡ true
    take_knows t below = known_then (bit a.known.items (at t)) (is_set ones t) (marks_of z e.col v u (at t))
        (bit d.known.items (at t)) (took.known (at t)) (λ h. marked_at z e.col v some u t below ∙ h)
