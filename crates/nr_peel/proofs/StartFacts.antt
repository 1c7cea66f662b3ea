-- How many positions a code block has, and how many pairs there are of a row and a position of it.
use Rattle.nr_peel.proofs.Common.{rows_most, ◌≡◌, ℕ, ◌+◌, ◌*◌, ◌<◌, ◌≤◌, zero, suc, if◌then◌else◌}
use Rattle.nr_peel.proofs.Common.{mod_below, div-add-mod', cols_of, rows_of, IsTable, Checks, lifted_checks, row_length, Lifted}
use Rattle.nr_peel.proofs.Common.{work_of, IsBlankSweep, Sweep, CountsUnseen, HasSeenNone, BlockCounts, SeenLanes, all_pairs}
use Rattle.nr_peel.proofs.Common.{length, refl, sym, ap, ◌∙◌, arith, ◌^◌, sum, sum_below, length-map, div_below}
use Rattle.nr_peel.{specs.inside.Starts.AreBlank, specs.inside.Starts.AreDegrees, proofs.TableGridFacts.rows_short}
use Rattle.nr_peel.proofs.{CountedPairFacts.lanes_sum, CountedPairFacts.sum-below, StepPairFacts.step_pairs-none}
use Rattle.nr_peel.proofs.PairSumFacts.{sum_below-same}
use Rattle.std.proofs.lemmas.Nat.{mul-le}

pub size_most : (l : Lifted) → (lifted_checks l).size ≤ 68 * 384
size_most l = grind (arith, mul-le (cols_of l.plan.graph) l.plan.z 68 384)

pub few_operations : (l : Lifted) → IsTable l.table.now → 16 * all_pairs (lifted_checks l) + (lifted_checks l).rows + 4 < 2 ^ 62
unfolding all_pairs
few_operations l table =
    omega (
      arith,
      rows_most l.plan.graph,
      mul-le (rows_of l.plan.graph) l.plan.z 46 384 (rows_most l.plan.graph) l.plan.sound.size_most,
      lanes_sum (row_length (lifted_checks l)) 68 (rows_of l.plan.graph * l.plan.z) (λ k. grind (arith, rows_short, length-map)),
    )

-- a sum of ones
ones_below : (f : ℕ → ℕ) (n : ℕ) → ((k : ℕ) → f k ≡ 1) → sum_below f n ≡ n
ones_below f zero ones = refl
ones_below f (suc n) ones = omega (arith, ones_below f n ones, ones n)

-- ---- lanes and counts with which nothing is known

-- each count is the number of its row's positions, of which it knows none
degrees_unseen : {W : ℕ} → (c : Checks) (s : SeenLanes W) (counts : BlockCounts) → HasSeenNone c s → AreDegrees c counts
    → CountsUnseen c s counts.items
degrees_unseen c s counts none d i t row below =
    d.counted i t row below ∙ sym (ones_below _ (length (c.row i t)) (λ k. ap (λ b. if b then 0 else 1) (none.none i k t)))

-- the sum of all counts
degrees_total : (c : Checks) (s : BlockCounts) → 0 < c.lanes → AreDegrees c s → sum s.items ≡ all_pairs c
unfolding all_pairs
degrees_total c s some d = grind (arith, sum-below, sum_below-same, div-add-mod', div_below, mod_below)

pub blank_sweep : {W D : ℕ} → (l : Lifted) (s : Sweep W D) → IsTable l.table.now → AreBlank (lifted_checks l) s.lanes
    → (p : BlockCounts) → AreDegrees (lifted_checks l) p → s.counts.items ≡ p.items → s.counts.lanes ≡ p.lanes
    → work_of s.counts ≤ (lifted_checks l).rows → IsBlankSweep (lifted_checks l) s
blank_sweep l s table blank p degrees items lanes worked =
    let c = lifted_checks l in
    record {
      blank = blank;
      held = λ _ _ begun. grind (
        arith,
        begun,
        degrees_total c p,
        degrees_unseen c s.lanes.seen p blank.none_seen degrees,
        step_pairs-none c,
        few_operations l table,
      );
    }
