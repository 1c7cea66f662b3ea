-- Lanes of rows, and the positions that they mark in a block.
use Rattle.nr_peel.proofs.Common.{get_or-replicate_same, if◌then◌else◌, get_or-set_other, bit_at_set_other, length-replicate}
use Rattle.nr_peel.proofs.Common.{nat_tests, get_or-set_same, bit_at_set_same, false≢true, bit_at-zero, slice_index, marked_count}
use Rattle.nr_peel.proofs.Common.{◌≡◌, false, replicate, ◌∙◌, lane_marks, HasLooked, IsMarkedIn, MarksColumn, is_behind}
use Rattle.nr_peel.proofs.Common.{ℕ, ◌*◌, ◌/◌, ◌%◌, ◌^◌, ◌<◌, get_or, bit_or, eq-eqb, ne_eqb, length, IsClear}
use Rattle.nr_peel.proofs.Common.{◌+◌, ◌-◌, ◌==◌, ◌&&◌, ◌||◌, cases_eq, cases_lt, marks_of, is_stale, SeenLanes}
use Rattle.nr_peel.proofs.Common.{Bool, true, not, cond, List, set, arith, w64, refl, sym, [], one_at, is_set, place, lacks, bit}
use Rattle.nr_peel.{specs.inside.Lanes.TakesSeen, specs.inside.Seen.holds, proofs.MarkedFacts.marked_zero}
use Rattle.std.proofs.Math.Nat.{add-mod-mod}

pub none_marked : (lane : List ℕ) (z : ℕ) → IsClear lane z → marked_count (is_set lane) z ≡ 0 → (t : ℕ)
    → is_set lane t ≡ false
none_marked lane z clear none t = grind (arith, cases_lt t z, marked_zero (is_set lane) z none t, clear t)

same_swapped : (a b : ℕ) → (a == b) ≡ (b == a)
same_swapped a b = grind (arith, nat_tests)

-- if a column needs no look nothing in it is new
none_new : (a b n m u k k' : Bool) → n ≡ (a || b) → a ≡ m → k' ≡ (k || (m && u)) → n ≡ false
    → (b ≡ false) × (k' ≡ k)
none_new a b n m u k k' is same more none = grind arith

-- a row block that has caught up had caught up before, and has no entry in the column that is marked
none_behind : (n holds behind : Bool) → n ≡ (holds || behind) → n ≡ false → (behind ≡ false) × (holds ≡ false)
none_behind n holds behind is none = grind arith

rests : {W : ℕ} → (old new : SeenLanes W) (i j h : ℕ) → holds old i j ≡ false
    → is_stale new i h ≡ (j == h || is_stale old i h) → holds old i h ≡ true → is_stale new i h ≡ is_stale old i h
rests old new i j h out is there = grind (arith, nat_tests, cases_eq j h)

-- a column that is whole was so before, or is the one that became known
whole_from : (a m f w w' k : Bool) → w' ≡ (if a then f else w) → a ≡ m → (f ≡ true → m ≡ true → k ≡ true)
    → w' ≡ true → (w || k) ≡ true
whole_from a m f w w' k is same full set = grind arith

-- a marked column has all that became known, and all of its positions are known if it is marked as whole
pub column_marked : {W : ℕ} → (z j : ℕ) (full : Bool) (M : ℕ → Bool) (known known' : List Bool) (old new : SeenLanes W)
    → ((p : ℕ) → bit known' p ≡ (bit known p || ((p / z == j) && M p)))
    → MarksColumn j full old new → (full ≡ true → (p : ℕ) → (p / z == j) ≡ true → M p ≡ true)
    → IsMarkedIn z known known' old new
column_marked z j full M known known' old new more marks all = (
  λ i p small fresh. none_new (j == p / z) _ _ (p / z == j) _ (bit known p) _ (marks.stale i (p / z) small)
      (same_swapped j (p / z)) (more p) fresh,
  λ i p small rested. let none = none_behind (is_behind new i) (holds old i j) (is_behind old i) (marks.behind i small) rested in
      (none.0, rests old new i j (p / z) none.1 (marks.stale i (p / z) small)),
  λ p set. whole_from (j == p / z) (p / z == j) full _ _ (bit known' p) (marks.whole (p / z)) (same_swapped j (p / z))
      (λ f m. grind (arith, more p, all f p m)) set,
)

looked_back : (n t o same here : Bool) → n ≡ (t && not (same && here)) → t ≡ (here || o) → same ≡ true → o ≡ false
    → n ≡ false
looked_back n t o same here is marked own out = grind arith

marked_as : (n t same here : Bool) → n ≡ (t && not (same && here)) → same ≡ false → n ≡ t
marked_as n t same here is other = grind arith

still_rests : {W : ℕ} → (old marked new : SeenLanes W) (i j h m : ℕ) → holds old h j ≡ false
    → is_stale marked h m ≡ (j == m || is_stale old h m)
    → is_stale new h m ≡ (is_stale marked h m && not ((i == h) && (j == m))) → holds old h m ≡ true
    → is_stale new h m ≡ is_stale old h m
still_rests old marked new i j h m out marked_is is there = grind (arith, nat_tests, cases_eq j m)

-- a column is marked, and row block i cancels its own look at it: it knows of what its entry k got there
pub taken_seen : {W : ℕ} → (z i k j : ℕ) (u M : ℕ → Bool) (rows : List ℕ) (known known' : List Bool)
    (old marked new : SeenLanes W) → i < 64 → ((p : ℕ) → bit known' p ≡ (bit known p || ((p / z == j) && M p)))
    → ((t : ℕ) → is_set rows t ≡ u t)
    → MarksColumn j false old marked
    → ((m t : ℕ) → is_set (get_or new.lanes.items m []) t
    ≡ (is_set (get_or marked.lanes.items m []) t || ((slice_index marked.starts i + k == m) && is_set rows t)))
    → length new.lanes.items ≡ length marked.lanes.items
    → HasLooked i j marked new → TakesSeen z i k u known known' old new
taken_seen z i k j u M rows known known' old marked new small more rows_are marks seen long looked =
    let column = column_marked z j false M known known' old marked more marks (λ f. absurd (false≢true f)) in
    let still = marks.still in
    record {
      lanes = λ m t. rw (still.lanes, still.starts, rows_are t) at (seen m t);
      long = rw still.lanes at long;
      starts = looked.starts ∙ still.starts;
      holders = looked.holders ∙ still.holders;
      all = looked.all ∙ still.all;
      own = λ m out. looked_back _ _ _ (i == i) (j == m) (looked.stale i m small) (marks.stale i m small) (eq-eqb i i refl) out;
      stale = λ h p below ne fresh.
          column.0 h p below
          (sym (marked_as _ _ (i == h) (j == p / z) (looked.stale h (p / z) below) (ne_eqb i h (λ e. ne (sym e)))) ∙ fresh);
      behind = λ h p below rested.
          let was = rw looked.behind at rested in (
            (column.1 h p below was).0,
            λ there. still_rests old marked new i j h (p / z)
                (none_behind _ (holds old h j) (is_behind old h) (marks.behind h below) was).1 (marks.stale h (p / z) below)
                (looked.stale h (p / z) below) there,
          );
      whole = λ p set. column.2 p (rw looked.whole at set);
    }

-- an entry that misses nothing
pub taken_none : {W : ℕ} → (z i k : ℕ) (u : ℕ → Bool) (known : List Bool) (s : SeenLanes W)
    → ((t : ℕ) → u t ≡ false) → TakesSeen z i k u known known s s
taken_none z i k u known s none = grind arith

whole_then : (w w' k k' : Bool) → (w' || k') ≡ true → (w' ≡ true → (w || k) ≡ true) → (k ≡ true → k' ≡ true)
    → (w || k') ≡ true
whole_then w w' k k' now before more = grind arith

-- one column marked after others
pub marked_then : {W : ℕ} → (z : ℕ) (known known' known'' : List Bool) (old now next : SeenLanes W)
    → IsMarkedIn z known known' old now → IsMarkedIn z known' known'' now next
    → now.holders ≡ old.holders → ((p : ℕ) → bit known' p ≡ true → bit known'' p ≡ true)
    → IsMarkedIn z known known'' old next
marked_then z known known' known'' old now next first second same more = (
  λ i p small fresh. let b = second.0 i p small fresh in let a = first.0 i p small b.0 in (a.0, b.1 ∙ a.1),
  λ i p small rested. let b = second.1 i p small rested in let a = first.1 i p small b.0 in
      (a.0, λ there. rw same at b.1 there ∙ a.1 there),
  λ p set. whole_then _ _ _ _ (second.2 p set) (first.2 p) (more p),
)

module _ (z j v : ℕ) (some : 0 < z) where
  -- the rows of a lane whose positions the block lacks, if the counts know of those that it has
  pub lacking : (ones lane : List ℕ) (S K : ℕ → Bool) → IsClear ones z
      → ((t : ℕ) → is_set lane t ≡ (is_set ones t && not (S t))) → ((t : ℕ) → t < z → S t ≡ K (one_at z t j v))
      → (t : ℕ) → is_set lane t ≡ lacks z j v ones K t
  lacking ones lane S K clear is seen t = grind (arith, cases_lt t z, clear t, is t, seen t)

  -- a lane that is rotated back marks its rows' positions
  pub turned_marks : (lane : List ℕ) (u : ℕ → Bool) → ((t : ℕ) → is_set lane t ≡ u t) → (p : ℕ)
      → lane_marks z j (λ t. is_set lane ((t + (z - v % z) % z) % z)) p ≡ marks_of z j v u p
  turned_marks lane u is p = grind (arith, add-mod-mod (p % z) (z - v % z) z)

  pub marks_none : (u : ℕ → Bool) (a : Bool) (p : ℕ) → ((t : ℕ) → u t ≡ false) → a ≡ (a || marks_of z j v u p)
  marks_none u a p none = grind (arith, nat_tests)

-- the lane that marks one row
pub one_marked : (W row : ℕ) → row < 64 * W → (t : ℕ)
    → place (set (replicate W 0) (row / 64) (bit_or (get_or (replicate W 0) (row / 64) 0) (1 * 2 ^ (row % 64) % 2 ^ 64))) t
    ≡ cond (row == t) 1 0
one_marked W row small t = grind (
  arith,
  nat_tests,
  cases_eq (t / 64) (row / 64),
  cases_eq (t % 64) (row % 64),
  get_or-set_same,
  get_or-set_other,
  get_or-replicate_same,
  length-replicate {A = ℕ} W 0,
  bit_at_set_same w64,
  bit_at_set_other w64,
  bit_at-zero,
)
