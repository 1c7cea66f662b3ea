-- What the counts of the rows know of: the lanes of the entries, and which row blocks have yet to look at a column.
use Rattle.nr_peel.proofs.Common.{All, bit_at-lt, bit_at_set_other, bit_at_set_same, bit_or, eq-eqb, nat_tests, ◌≡◌, ℕ}
use Rattle.nr_peel.proofs.Common.{◌+◌, ◌-◌, ◌*◌, ◌^◌, ◌/◌, ◌%◌, ◌<◌, ◌≤◌, ◌==◌, ◌&&◌}
use Rattle.nr_peel.proofs.Common.{◌||◌, Bool, false, if◌then◌else◌, nat_lt, not, List, [], length, get_or, set, replicate}
use Rattle.nr_peel.proofs.Common.{cases_eq, cases_lt, get_or-replicate, get_or-set_other, get_or-set_same, get_or_past, length-map}
use Rattle.nr_peel.proofs.Common.{length-replicate, place-zeros, is_set, entries_in, row_of, value_in, one_at, lifted_checks, Entry}
use Rattle.nr_peel.proofs.Common.{Lifted, false≢true, HasLooked, HasSeenNone, has_seen, SeenLanes, bit_not, get_or-replicate_same}
use Rattle.nr_peel.proofs.Common.{sym, ap, ◌∙◌, arith, slice_index, bit, bit_at, bit_and, w64, bit_at_ones, bit_at-zero}
use Rattle.nr_peel.proofs.Common.{sum_below, suc, zero}
use Rattle.nr_peel.specs.inside.Seen.{entry_count}
use Rattle.nr_peel.proofs.RowEntryFacts.{column_at, row_long}
use Rattle.std.proofs.lemmas.{Nat.Bits.bit_at_or, Nat.Bits.bit_at_clear_other, Nat.Bits.bit_at_clear_same, List.Elements.All-get_or}
use Rattle.nr_lifting.proofs.DoubledLaneFacts.{is_set-nil}

-- ---- columns that need a look

pub stale_marked : (stale : List ℕ) (j i h : ℕ) → j < length stale → i < 64
    → (bit_at (slice_index (set stale j (2 ^ 64 - 1)) h) i == 1) ≡ ((j == h) || (bit_at (slice_index stale h) i == 1))
stale_marked stale j i h within below =
    grind (arith, nat_tests, cases_eq, get_or-set_same, get_or-set_other, bit_at_ones 64 i below)

pub whole_marked : (whole : List Bool) (j h : ℕ) (full : Bool) → j < length whole
    → bit (set whole j full) h ≡ (if j == h then full else bit whole h)
whole_marked whole j h full within = grind (arith, nat_tests, cases_eq, get_or-set_same, get_or-set_other)

looked_at : (stale : List ℕ) (j i h m : ℕ) → j < length stale → i < 64 → h < 64
    → (bit_at (slice_index (set stale j (bit_and (get_or stale j 0) (bit_not w64 (1 * 2 ^ i % 2 ^ 64)))) m) h == 1)
    ≡ ((bit_at (slice_index stale m) h == 1) && not ((i == h) && (j == m)))
looked_at stale j i h m within short below = grind (
  arith,
  nat_tests,
  cases_eq,
  get_or-set_same,
  get_or-set_other,
  bit_at_clear_same w64 (get_or stale j 0) i short,
  bit_at_clear_other w64 (get_or stale j 0) i short h below,
)

pub has_looked : {W : ℕ} → (old new : SeenLanes W) (i j : ℕ) → j < length old.stale → i < 64
    → new.stale ≡ set old.stale j (bit_and (get_or old.stale j 0) (bit_not w64 (1 * 2 ^ i % 2 ^ 64)))
    → new.starts ≡ old.starts → new.holders ≡ old.holders → new.whole ≡ old.whole → new.behind ≡ old.behind
    → new.all ≡ old.all → HasLooked i j old new
has_looked old new i j within short stale starts holders whole behind all = grind (arith, looked_at old.stale j i)

-- ---- row blocks that have not caught up

pub behind_marked : (behind holders i : ℕ)
    → (bit_at (bit_or behind holders) i == 1) ≡ ((bit_at holders i == 1) || (bit_at behind i == 1))
behind_marked behind holders i = grind (arith, nat_tests, bit_at_or behind holders i, bit_at-lt behind i, bit_at-lt holders i)

pub rest_from : (behind i h : ℕ) → i < 64 → h < 64
    → (bit_at (bit_and behind (bit_not w64 (1 * 2 ^ i % 2 ^ 64))) h == 1) ≡ ((bit_at behind h == 1) && not (i == h))
rest_from behind i h short below =
    grind (arith, nat_tests, cases_eq, bit_at_clear_same w64 behind i short, bit_at_clear_other w64 behind i short h below)

-- whether row block i is marked at the column of an entry
abbrev pub is_held : List ℕ → ℕ → Entry → Type 0
is_held holders i e = bit_at (slice_index holders e.col) i ≡ 1

-- one more entry is marked, and none is lost
pub held_here : (holders : List ℕ) (j i : ℕ) → j < length holders → i < 64
    → bit_at (slice_index (set holders j (bit_or (get_or holders j 0) (1 * 2 ^ i % 2 ^ 64))) j) i ≡ 1
held_here holders j i within short = grind (arith, get_or-set_same, bit_at_set_same w64)

pub held_still : (holders : List ℕ) (j i m h : ℕ) → j < length holders → i < 64 → h < 64
    → bit_at (slice_index holders m) h ≡ 1
    → bit_at (slice_index (set holders j (bit_or (get_or holders j 0) (1 * 2 ^ i % 2 ^ 64))) m) h ≡ 1
held_still holders j i m h within short below one =
    grind (arith, cases_eq m j, cases_eq h i, get_or-set_same, get_or-set_other, bit_at_set_same w64, bit_at_set_other w64)

-- ---- lanes of entries

zero_seen : (W n e t : ℕ) → is_set (get_or (replicate n (replicate W 0)) e []) t ≡ false
zero_seen W n e t = grind (arith, nat_tests, cases_lt, get_or-replicate, get_or_past, length-replicate, place-zeros, is_set-nil)

zero_digit : (i j : ℕ) → (bit_at (slice_index (replicate 68 0) j) i == 1) ≡ false
zero_digit i j = ap (λ n. bit_at n i == 1) (get_or-replicate_same 68 j 0) ∙ ap (λ n. n == 1) (bit_at-zero i)

-- one more word of the lane of all rows
pub all_next : (z i word : ℕ) (all : List ℕ) → i < length all → ((t : ℕ) → t < 64 * i → is_set all t ≡ nat_lt t z)
    → ((j : ℕ) → j < z - 64 * i → bit_at word j ≡ bit_at (2 ^ 64 - 1) j)
    → ((j : ℕ) → z - 64 * i ≤ j → bit_at word j ≡ 0) → (t : ℕ) → t < 64 * (i + 1)
    → is_set (set all i word) t ≡ nat_lt t z
all_next z i word all inside so_far low high t below = grind (
  arith,
  nat_tests,
  cases_eq (t / 64) i,
  get_or-set_same,
  get_or-set_other,
  bit_at_ones 64 (t % 64),
  low (t % 64),
  high (t % 64),
  so_far t,
)

-- the lane of all rows
pub all_rows : (W z : ℕ) (all : List ℕ) → z ≤ 64 * W → length all ≡ W
    → ((t : ℕ) → t < 64 * W → is_set all t ≡ nat_lt t z) → (t : ℕ) → is_set all t ≡ nat_lt t z
all_rows W z all few long words t = grind (arith, nat_tests, cases_lt t (64 * W), get_or_past, bit_at-zero, words t)

-- a row block's entries begin behind all those of the row blocks before it
starts_sum : (l : Lifted) (starts : List ℕ) → slice_index starts 0 ≡ 0
    → ((i : ℕ) → i < (lifted_checks l).rows
    → slice_index starts i + length (row_of (entries_in l.plan.graph l.table.now) i) ≡ slice_index starts (i + 1))
    → (n : ℕ) → n ≤ (lifted_checks l).rows
    → slice_index starts n ≡ sum_below (λ i. length ((lifted_checks l).row i 0)) n
starts_sum l starts first each zero few = first
starts_sum l starts first each (suc n) few =
    let next : slice_index starts (suc n) ≡ slice_index starts n + length (row_of (entries_in l.plan.graph l.table.now) n) =
    ap (slice_index starts) {x = suc n} {y = n + 1} (omega arith) ∙ sym (each n few) in
    omega (arith, next, starts_sum l starts first each n (omega (arith, few)), row_long l n 0)

starts_last : (l : Lifted) (starts : List ℕ) → slice_index starts 0 ≡ 0
    → ((i : ℕ) → i < (lifted_checks l).rows
    → slice_index starts i + length (row_of (entries_in l.plan.graph l.table.now) i) ≡ slice_index starts (i + 1))
    → slice_index starts (lifted_checks l).rows ≡ entry_count (lifted_checks l)
unfolding entry_count
starts_last l starts first each = starts_sum l starts first each (lifted_checks l).rows (omega arith)

-- at first the counts know of nothing
pub seen_none : {W : ℕ} → (l : Lifted) (s : SeenLanes W) (n : ℕ) → s.lanes.items ≡ replicate n (replicate W 0)
    → slice_index s.starts (lifted_checks l).rows ≡ n → slice_index s.starts 0 ≡ 0
    → ((i : ℕ) → i < (lifted_checks l).rows
    → slice_index s.starts i + length (row_of (entries_in l.plan.graph l.table.now) i) ≡ slice_index s.starts (i + 1))
    → ((i : ℕ) → i < (lifted_checks l).rows → All (is_held s.holders i) (row_of (entries_in l.plan.graph l.table.now) i))
    → s.stale ≡ replicate 68 0 → s.whole ≡ replicate 68 false → ((t : ℕ) → is_set s.all t ≡ nat_lt t l.plan.z)
    → HasSeenNone (lifted_checks l) s
seen_none {W} l s n made is first starts holders stale whole all =
    let c = lifted_checks l in
    let none : (i k t : ℕ) → has_seen s i k t ≡ false = λ i k t. rw made (zero_seen W n (slice_index s.starts i + k) t) in
    record {
      none = none;
      seen = λ known unknown. record {
        starts = λ i t below. omega (
          arith,
          starts i below,
          length-map (row_of (entries_in l.plan.graph l.table.now) i)
              (λ (x : Entry). one_at l.plan.z t x.col (value_in l.plan.set x)),
        );
        enough = omega (arith, is, ap length made, length-replicate n (replicate {A = ℕ} W 0));
        long = ap length made ∙ length-replicate n (replicate {A = ℕ} W 0) ∙ sym is
            ∙ starts_last l s.starts first starts;
        within = λ i t k _ _ _ seen. absurd (false≢true (sym (none i k t) ∙ seen));
        fresh = λ i t k _ _ _ _. none i k t ∙ sym (unknown (slice_index (c.row i t) k));
        holders = λ i t k ir tl kl.
            rw (column_at l i k t kl)
            (eq-eqb _ _ (All-get_or (is_held s.holders i) (row_of (entries_in l.plan.graph l.table.now) i) k
            (record { row = 0; col = 0; values = [] }) (omega (arith, kl, row_long l i t)) (holders i ir)));
        rested = λ i t k _ _ _ _. rw stale (zero_digit i (slice_index (c.row i t) k / c.lanes));
        whole = λ i t k _ _ _ set.
            absurd (false≢true (sym (get_or-replicate_same 68 (slice_index (c.row i t) k / c.lanes) false) ∙ rw whole at set));
        all = all;
      };
    }
