-- Which row blocks are due.
use Rattle.nr_peel.proofs.Common.{◌≡◌, ◌≢◌, ◌≤◌, set, replicate, get_or_past, div_below, div-mul-add, BlockCounts}
use Rattle.nr_peel.proofs.Common.{ℕ, slice_index, mul-le-mul_right, get_or-set_other, get_or-set_same, div-add-mod', marked_count}
use Rattle.nr_peel.proofs.Common.{◌+◌, ◌*◌, ◌/◌, ◌%◌, ◌==◌, ◌&&◌, cases_eq, cases_lt, mod_below, cond-most}
use Rattle.nr_peel.proofs.Common.{◌<◌, Bool, true, false, cond, List, length, arith, eq-eqb, ne_eqb, bit, is_set, due_in}
use Rattle.nr_peel.{specs.inside.Due.AreKept, proofs.MarkedFacts.marked_zero}
use Rattle.std.proofs.lemmas.List.{Folds.sum_by-replicate, Sums.sum_by-set}

-- ---- how many are due

pub due_none : (n : ℕ) → due_in (replicate n false) ≡ 0
due_none n = omega (arith, sum_by-replicate (λ (b : Bool). cond {A = ℕ} b 1 0) n false)

pub due_more : (due : List Bool) (i : ℕ) (b : Bool) → i < length due → due_in (set due i b) ≤ due_in due + 1
due_more due i b below = omega (arith, sum_by-set (λ (b : Bool). cond {A = ℕ} b 1 0) due i b false below, cond-most b)

pub due_less : (due : List Bool) (i : ℕ) → i < length due → due_in (set due i false) + cond (bit due i) 1 0 ≡ due_in due
due_less due i below = omega (arith, sum_by-set (λ (b : Bool). cond {A = ℕ} b 1 0) due i false false below)

-- ---- places of blocks

pub kept_low : (p : BlockCounts) (due : List Bool) (i : ℕ) → AreKept p due → (i + 1) * p.lanes ≤ length p.items → i < 46
kept_low p due i kept block = grind (arith, cases_lt, mul-le-mul_right, kept.few, kept.some)

-- ---- counts of rows

-- at first those row blocks are due whose counts are all one
pub kept_new : (p : BlockCounts) (due : List Bool) (degrees : List ℕ) → 0 < p.lanes → length degrees ≤ 46
    → length p.items ≡ length degrees * p.lanes
    → ((i t : ℕ) → t < p.lanes → slice_index p.items (i * p.lanes + t) ≡ slice_index degrees i)
    → ((h : ℕ) → h < length degrees → bit due h ≡ (slice_index degrees h == 1)) → AreKept p due
kept_new p due degrees some few long alike ones = record {
  some = some;
  few = omega (arith, long, mul-le-mul_right p.lanes few);
  settled = λ k clear one. grind (
    arith,
    cases_lt,
    eq-eqb,
    div_below,
    get_or_past,
    mod_below k p.lanes,
    div-add-mod' k p.lanes,
    alike (k / p.lanes) (k % p.lanes),
    ones (k / p.lanes),
  );
}

-- a block whose counts fell is due
pub kept_lower : (a d : BlockCounts) (due : List Bool) (i : ℕ) (M : ℕ → Bool) → AreKept a due → i < length due
    → d.lanes ≡ a.lanes → length d.items ≡ length a.items
    → ((h t : ℕ) → t < a.lanes
    → slice_index d.items (h * a.lanes + t) + cond ((i == h) && M t) 1 0 ≡ slice_index a.items (h * a.lanes + t))
    → AreKept d (set due i true)
kept_lower a d due i M kept within lanes long falls = record {
  some = omega (arith, kept.some, lanes);
  few = rw lanes (omega (arith, kept.few, long));
  settled = λ k. rw lanes (λ clear one. grind (
    arith,
    cases_eq,
    get_or-set_same,
    get_or-set_other,
    div-add-mod' k a.lanes,
    mod_below k a.lanes,
    still (k / a.lanes) (k % a.lanes),
    kept.settled k,
  ));
}
  where
    still : (h t : ℕ) → t < a.lanes → i ≢ h
        → slice_index d.items (h * a.lanes + t) ≡ slice_index a.items (h * a.lanes + t)
    still h t below other = grind (arith, falls h t below, ne_eqb)

-- a block that has no count of one is no longer due
pub kept_looked : (p : BlockCounts) (due : List Bool) (i : ℕ) (ones : List ℕ) → AreKept p due → i < length due
    → marked_count (is_set ones) p.lanes ≡ 0
    → ((t : ℕ) → t < p.lanes → is_set ones t ≡ (slice_index p.items (i * p.lanes + t) == 1))
    → AreKept p (set due i false)
kept_looked p due i ones kept within none are = record {
  some = kept.some;
  few = kept.few;
  settled = λ k clear one. grind (
    arith,
    cases_eq,
    eq-eqb,
    get_or-set_other,
    div-add-mod' k p.lanes,
    mod_below k p.lanes,
    are (k % p.lanes),
    marked_zero (is_set ones) p.lanes none (k % p.lanes),
    kept.settled k,
  );
}

-- a block that isn't due has no count of one
pub kept_none : (p : BlockCounts) (due : List Bool) (i t : ℕ) → AreKept p due → bit due i ≡ false → t < p.lanes
    → (slice_index p.items (i * p.lanes + t) == 1) ≡ false
kept_none p due i t kept clear below = grind (arith, div-mul-add i p.lanes t below, ne_eqb, kept.settled (i * p.lanes + t))

pub kept_due : (p : BlockCounts) (due : List Bool) (i t : ℕ) → AreKept p due → bit due i ≡ false → t < p.lanes
    → slice_index p.items (i * p.lanes + t) ≢ 1
kept_due p due i t kept clear below = grind (arith, div-mul-add i p.lanes t below, kept.settled (i * p.lanes + t))

-- ---- what a search costs

-- two operations an entry, one for the look and perhaps one for the last entry, are at most three a visit
pub search_cost : (rows d : ℕ) → 0 < rows → 0 < d → (r : ℕ) → r ≤ 1 → (r ≡ 1 → 2 ≤ d)
    → 1 + r + 2 * d ≤ 3 * (rows * d)
search_cost rows d some long r few least = grind (arith, mul-le-mul_right d some)
