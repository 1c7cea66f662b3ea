-- Row blocks that may wait: nothing is known of the column that each of them alone has.
use Rattle.nr_peel.proofs.Common.{◌≡◌, ℕ, ◌+◌, ◌*◌, ◌%◌, ◌<◌, ◌≤◌, ◌==◌, nat_le, true, false}
use Rattle.nr_peel.proofs.Common.{Bool, List, refl, arith, nat_tests, and_parts, eqb-true, mod-eq_of_lt, bit, is_set, marked_count}
use Rattle.nr_peel.proofs.Common.{cols_of, columns-are, info_cols_of, Lifted, lifted_checks}
use Rattle.nr_peel.proofs.{LeftPositionFacts.info_rotations, MarkedFacts.marked_zero, MarkedFacts.no_marks}
use Rattle.nr_peel.specs.inside.Searches.{may_wait, own_column}

-- it is as far behind the information columns as its row block is in the base graph
own_is : (l : Lifted) (i : ℕ) → own_column (lifted_checks l) i ≡ info_cols_of l.plan.graph + i
own_is l i = omega (
  arith,
  columns-are l.plan.graph,
  info_rotations l.plan.z (cols_of l.plan.graph * l.plan.z) (cols_of l.plan.graph) l.plan.sound.size_some refl,
)

-- a row block from 4 on may wait if the lane of its own column is blank
pub waits_from : (l : Lifted) (known : List Bool) (i : ℕ) (lane : List ℕ) → 4 ≤ i
    → ((t : ℕ) → t < l.plan.z
    → is_set lane t ≡ bit known ((info_cols_of l.plan.graph + i) * l.plan.z + (t + 0) % l.plan.z))
    → ((t : ℕ) → is_set lane t ≡ false) → may_wait (lifted_checks l) known i ≡ true
waits_from l known i lane late bits blank =
    let none = no_marks (λ t. bit known (own_column (lifted_checks l) i * l.plan.z + t)) l.plan.z
    (λ t below. rw (own_is l i) (grind (arith, mod-eq_of_lt, bits t below, blank t))) in
    grind (arith, nat_tests, none, late)

module _ (l : Lifted) (known : List Bool) (i : ℕ) (waits : may_wait (lifted_checks l) known i ≡ true) where
  abbrev own : ℕ → Bool
  own t = bit known (own_column (lifted_checks l) i * l.plan.z + t)

  parts : (nat_le 4 i ≡ true) × ((marked_count own l.plan.z == 0) ≡ true)
  parts = and_parts (nat_le 4 i) (marked_count own l.plan.z == 0) waits

  pub waits_late : 4 ≤ i
  waits_late = grind (arith, nat_tests, parts.0)

  -- nothing is known of its own column
  pub waits_unknown : (t : ℕ) → t < l.plan.z → bit known ((info_cols_of l.plan.graph + i) * l.plan.z + t) ≡ false
  waits_unknown t below =
      rw (own_is l i) at (marked_zero own l.plan.z (eqb-true (marked_count own l.plan.z) 0 parts.1) t below)
