-- Sets of positions side by side: what sweeps over the rows add to them.
use Rattle.nr_peel.proofs.Common.{◌≡◌, ℕ, ◌+◌, ◌<◌, ◌||◌, ◌&&◌, Bool, not, true, List, length, arith}
use Rattle.nr_peel.proofs.Common.{count_by, cases_eq, stands, lacks_one, ◌≤◌, any_below, Within, false, zero, suc, refl, sym}
use Rattle.nr_peel.proofs.Common.{ap, ◌∙◌, cond, ◌≢◌, ◌*◌, Checks, AreSound, closure, sum_below, marked_count}
use Rattle.nr_peel.proofs.Common.{marked-le, IsClosed, and_from, true≢false, false_from_ne_true, eqb-true, eq-eqb, false≢true}
use Rattle.nr_peel.proofs.Common.{cases_Bool, inl, inr, cases_lt, some_lone, some_lone_below, GainsInBlock, IsSwept, NoneLoneBut}
use Rattle.nr_peel.proofs.Common.{held, get_or-replicate_same, bit, replicate, Graph, Numbers, Entries, IsTable, entries_in}
use Rattle.nr_peel.proofs.ClosureFacts.{any_below_passes, passes_any_below, closure_closed, closure_least, closure_monotone}
use Rattle.nr_peel.proofs.{Common.rows_of, Common.info_cols_of, Common.block_checks, Common.slice, ClosureFacts.same_truth}
use Rattle.nr_peel.{specs.inside.Slices.NoneLoneIn, proofs.CodewordFacts.done_is_closure, proofs.PairSumFacts.sum_below-le}
use Rattle.nr_peel.proofs.{MarkedFacts.marked_more, MarkedFacts.marked_grows, SkippedRowFacts.skipped_rows, SliceFacts.none_below}
use Rattle.nr_peel.proofs.{RowPositionFacts.fixes_more, RowPositionFacts.only_from_count, TableGridFacts.checks_sound}
use Rattle.nr_peel.proofs.{RowTallyFacts.any_below-same, RowTallyFacts.one_is_fixed, CountedPairFacts.lanes_sum}

-- ---- how many positions the sets have

sum_below-lt : (f g : ℕ → ℕ) (n k : ℕ) → ((j : ℕ) → j < n → f j ≤ g j) → k < n → f k < g k
    → sum_below f n < sum_below g n
sum_below-lt f g zero k le below less = absurd (omega (arith, below))
sum_below-lt f g (suc n) k le below less = grind (
  arith,
  cases_eq k n,
  sum_below-le f g n (λ j lt. le j (omega (arith, lt))),
  λ (l : k < n). sum_below-lt f g n k (λ j lt. le j (omega (arith, lt))) l less,
  le n (omega arith),
)

pub held_most : (c : Checks) (words : List ℕ) → held c words ≤ 64 * c.size
unfolding held
held_most c words = lanes_sum (λ j. marked_count (slice words j) c.size) c.size 64 (λ j. marked-le (slice words j) c.size)

pub held_more : (c : Checks) (old new : List ℕ) → ((j : ℕ) → j < 64 → Within (slice old j) (slice new j))
    → held c old ≤ held c new
unfolding held
held_more c old new kept = sum_below-le (λ j. marked_count (slice old j) c.size) (λ j. marked_count (slice new j) c.size) 64
    (λ j short. marked_more (slice old j) (slice new j) (kept j short) c.size)

held_grows : (c : Checks) (old new : List ℕ) → ((j : ℕ) → j < 64 → Within (slice old j) (slice new j)) → (k p : ℕ)
    → k < 64 → p < c.size → slice old k p ≡ false → slice new k p ≡ true → held c old < held c new
unfolding held
held_grows c old new kept k p short inside out there =
    sum_below-lt (λ j. marked_count (slice old j) c.size) (λ j. marked_count (slice new j) c.size) 64 k
    (λ j s. marked_more (slice old j) (slice new j) (kept j s) c.size) short
    (marked_grows (slice old k) (slice new k) (kept k short) c.size p inside out there)

-- ---- rows one after another

pub swept_none : (c : Checks) (words : List ℕ) → IsSwept c false words words
swept_none c words = record {
  grows = record { long = refl; kept = λ j short p h. h; inside = λ j short T closed within. within };
  more = λ h. absurd (false≢true h);
  still = λ h. refl;
}

pub swept_then : (c : Checks) (x y z : Bool) (a b d : List ℕ) → IsSwept c x a b → IsSwept c y b d → z ≡ cond y true x
    → IsSwept c z a d
swept_then c x y z a b d one two is =
    let less = held_more c a b one.grows.kept in
    let still = held_more c b d two.grows.kept in
    record {
      grows = record {
        long = two.grows.long ∙ one.grows.long;
        kept = λ j short p h. two.grows.kept j short p (one.grows.kept j short p h);
        inside = λ j short T closed within. two.grows.inside j short T closed (one.grows.inside j short T closed within);
      };
      more = λ h. grind (arith, one.more, two.more, less, still);
      still = λ h. grind (arith, one.still, two.still);
    }

-- a row of blocks is visited
module _ (c : Checks) (sound : AreSound c) (i : ℕ) (block : i < c.rows) (old new : List ℕ)
    (gains : GainsInBlock (c.row i) c.lanes old new) where
  abbrev lone : ℕ → ℕ → Bool
  lone j t = lacks_one (slice old j) (c.row i t)

  gained_kept : (j : ℕ) → j < 64 → Within (slice old j) (slice new j)
  gained_kept j short p h = grind (arith, gains j p short)

  gained_inside : (j : ℕ) → j < 64 → (T : ℕ → Bool) → IsClosed c T → Within (slice old j) T → Within (slice new j) T
  gained_inside j short T closed within p h = elim (cases_Bool (slice old j p)) [
    | inl known ↦ within p known
    | inr out ↦
        let some : any_below (λ t. lone j t && stands p (c.row i t)) c.lanes ≡ true = grind (arith, gains j p short) in
        let r = any_below_passes (λ t. lone j t && stands p (c.row i t)) c.lanes some in
        let fixed = one_is_fixed (slice old j) (c.row i r.number) p (sound.distinct i r.number block r.below) out in
        closed i r.number p block r.below (fixes_more (slice old j) T (c.row i r.number) p within (sym fixed ∙ r.passes))
  ]

  gained_more : some_lone_below old (c.row i) c.lanes ≡ true → held c old < held c new
  unfolding some_lone
  gained_more some =
      let q = any_below_passes (λ t. some_lone old (c.row i t)) c.lanes some in
      let r = any_below_passes (λ j. lone j q.number) 64 q.passes in
      let only = only_from_count (slice old r.number) (c.row i q.number) (eqb-true _ 1 r.passes) in
      let there = passes_any_below (λ t. lone r.number t && stands only.pos (c.row i t)) c.lanes q.number q.below
      (and_from (lone r.number q.number) (stands only.pos (c.row i q.number)) r.passes only.only.stands_there) in
      held_grows c old new gained_kept r.number only.pos r.below
      (sound.in_range i q.number only.pos block q.below only.only.stands_there) only.only.missing
      (gains r.number only.pos r.below ∙ grind (arith, there))

  pub visited : (again : Bool) → again ≡ some_lone_below old (c.row i) c.lanes → (again ≡ false → new ≡ old)
      → length new ≡ length old → IsSwept c again old new
  visited again is still long = record {
    grows = record { long = long; kept = gained_kept; inside = gained_inside };
    more = λ h. gained_more (sym is ∙ h);
    still = still;
  }

-- none of the numbers below n passes
below_none : (f : ℕ → Bool) (n k : ℕ) → any_below f n ≡ false → k < n → f k ≡ false
below_none f n k none lt = false_from_ne_true (f k) (λ h. true≢false (sym (passes_any_below f n k lt h) ∙ none))

pub none_in : (c : Checks) (i : ℕ) (again : Bool) (words : List ℕ) → again ≡ some_lone_below words (c.row i) c.lanes
    → again ≡ false → NoneLoneIn c words i c.lanes
none_in c i again words is h t lt = below_none (λ u. some_lone words (c.row i u)) c.lanes t (sym is ∙ h) lt

-- a row of blocks without such a row gains nothing
pub gains_none : (row : ℕ → List ℕ) (z : ℕ) (words : List ℕ) → some_lone_below words row z ≡ false
    → GainsInBlock row z words words
unfolding some_lone
gains_none row z words none j p short =
    let each : (t : ℕ) → t < z → (lacks_one (slice words j) (row t) && stands p (row t)) ≡ false = λ t lt.
    ap (λ b. b && stands p (row t)) (below_none (λ k. lacks_one (slice words k) (row t)) 64 j
    (below_none (λ u. some_lone words (row u)) z t none lt) short) in
    grind (arith, none_below (λ t. lacks_one (slice words j) (row t) && stands p (row t)) z each)

pub gains_lone : (row : ℕ → List ℕ) (z : ℕ) (old new sets : List ℕ)
    → ((j t : ℕ) → j < 64 → t < z → slice sets j t ≡ lacks_one (slice old j) (row t))
    → ((j p : ℕ) → j < 64 → slice new j p ≡ (slice old j p || any_below (λ t. slice sets j t && stands p (row t)) z))
    → GainsInBlock row z old new
gains_lone row z old new sets lone filled j p short =
    filled j p short ∙ ap (λ b. slice old j p || b) (any_below-same (λ t. slice sets j t && stands p (row t))
    (λ t. lacks_one (slice old j) (row t) && stands p (row t)) z (λ t lt. ap (λ b. b && stands p (row t)) (lone j t short lt)))

-- one more row of blocks with none that has exactly one position outside a set
pub none_blocks : (c : Checks) (left_out : ℕ → Bool) (n : ℕ) (x y z : Bool) (old mid : List ℕ)
    → (x ≡ false → NoneLoneBut c left_out old n)
    → (x ≡ false → mid ≡ old) → (y ≡ false → left_out n ≡ false → NoneLoneIn c mid n c.lanes) → z
    ≡ cond y true x → z ≡ false
    → NoneLoneBut c left_out old (n + 1)
none_blocks c left_out n x y z old mid before still is now none i lt visited_too =
    let first : x ≡ false = grind arith in
    let second : y ≡ false = grind arith in
    elim (cases_lt i n) [
      | inl below ↦ before first i below visited_too
      | inr past ↦
          let e : i ≡ n = omega arith in
          let here : NoneLoneIn c old n c.lanes = rw (still first) at (is second (rw e at visited_too)) in
          rw e here
    ]

-- a row of blocks that may be left out
pub visited_unless : (c : Checks) → AreSound c → (i : ℕ) → i < c.rows → (old new : List ℕ) (out again : Bool)
    → again ≡ (not out && some_lone_below old (c.row i) c.lanes) → (out ≡ false → GainsInBlock (c.row i) c.lanes old new)
    → (again ≡ false → new ≡ old) → length new ≡ length old → IsSwept c again old new
visited_unless c sound i block old new true again is gains still long =
    rw (is, still is) (swept_none c old)
visited_unless c sound i block old new false again is gains still long =
    visited c sound i block old new (gains refl) again is still long

pub none_unless : (c : Checks) (i : ℕ) (out again : Bool) (words : List ℕ)
    → again ≡ (not out && some_lone_below words (c.row i) c.lanes) → again ≡ false → out ≡ false
    → NoneLoneIn c words i c.lanes
none_unless c i out again words is h visited_too = none_in c i again words (is ∙ grind arith) h

-- ---- where sweeps end

pub none_lone : (c : Checks) (left_out : ℕ → Bool) (words : List ℕ) → NoneLoneBut c left_out words c.rows → (j : ℕ)
    → j < 64
    → (i t : ℕ) → i < c.rows → t < c.lanes → left_out i ≡ false
    → count_by (λ p. not (slice words j p)) (c.row i t) ≢ 1
unfolding some_lone
none_lone c left_out words none j short i t block lane visited_too one =
    false≢true (sym (none i block visited_too t lane)
    ∙ passes_any_below (λ k. lacks_one (slice words k) (c.row i t)) 64 j short (eq-eqb _ 1 one))

pub sweeps_done : (c : Checks) (left_out : ℕ → Bool) (S : ℕ → Bool) (words : List ℕ) (j : ℕ) → AreSound c → j < 64
    → ((i : ℕ) → i < c.rows → left_out i ≡ false) → Within S (slice words j)
    → Within (slice words j) (closure c S) → NoneLoneBut c left_out words c.rows → (p : ℕ) → slice words j p
    ≡ closure c S p
sweeps_done c left_out S words j sound short all up inside none =
    done_is_closure c S (slice words j) sound up inside
    (λ i t li lt. none_lone c left_out words none j short i t li lt (all i li))

-- ---- what is fixed before the extension columns
-- no row of blocks is left out
pub none_out : (n i : ℕ) → bit (replicate n false) i ≡ false
none_out n i = get_or-replicate_same n i false

pub low_closed : (t : Entries) (g : Graph) (p : Numbers) (old new : List ℕ) (left_out : ℕ → Bool) → IsTable t
    → 0 < length (entries_in g t) → 0 < p.z → p.set < 8 → ((i : ℕ) → left_out i ≡ true → 4 ≤ i)
    → ((j : ℕ) → j < 64 → Within (slice old j) (slice new j))
    → ((j : ℕ) → j < 64 → Within (slice new j) (closure (block_checks t g p) (slice old j)))
    → NoneLoneBut (block_checks t g p) left_out new (block_checks t g p).rows
    → ((i j u : ℕ) → i < rows_of g → u < p.z → left_out i ≡ true → slice new j ((info_cols_of g + i) * p.z + u)
    ≡ false)
    → (j q : ℕ) → j < 64 → q < (info_cols_of g + 4) * p.z → slice new j q ≡ closure (block_checks t g p) (slice old j) q
low_closed t g p old new left_out table some pos small late up inside none blank j q short low =
    skipped_rows t g p (slice old j) (slice new j) left_out table some pos small late
    (λ i u li lu kept. none_lone (block_checks t g p) left_out new none j short i u li lu kept)
    (λ i u li lu out. blank i j u li lu out) (up j short) (inside j short) q low

-- a set between another and its closure has the same closure
pub reclosed : (c : Checks) (S M N : ℕ → Bool) → AreSound c → Within S M → Within M (closure c S)
    → ((p : ℕ) → N p ≡ closure c M p) → (p : ℕ) → N p ≡ closure c S p
reclosed c S M N sound up inside is p = is p ∙ same_truth (closure c M p) (closure c S p)
    (closure_least c M (closure c S) inside (closure_closed c S sound) p) (closure_monotone c S M up p)

pub all_closed : (t : Entries) (g : Graph) (n : Numbers) (old mid new : List ℕ) → IsTable t → 0 < n.z
    → ((j : ℕ) → j < 64 → Within (slice old j) (slice mid j))
    → ((j : ℕ) → j < 64 → Within (slice mid j) (closure (block_checks t g n) (slice old j)))
    → ((j p : ℕ) → j < 64 → slice new j p ≡ closure (block_checks t g n) (slice mid j) p)
    → (j p : ℕ) → j < 64 → slice new j p ≡ closure (block_checks t g n) (slice old j) p
all_closed t g n old mid new table pos up inside is j p short =
    reclosed (block_checks t g n) (slice old j) (slice mid j) (slice new j) (checks_sound t g n table pos) (up j short)
    (inside j short) (λ q. is j q short) p
