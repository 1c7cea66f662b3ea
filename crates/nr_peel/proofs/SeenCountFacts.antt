-- What the counts of the rows know of, entry by entry: how they fall when a row block looks at an entry's column.
use Rattle.nr_peel.proofs.Common.{rows_most, ◌∙◌, ◌≡◌, slice_index, length-set, entries_in, NeedsNoLook, row_position}
use Rattle.nr_peel.proofs.Common.{bit_at, ◌+◌, ◌*◌, ◌/◌, ◌%◌, ◌<◌, nat_lt, IsTable, work_of, AreSeen, is_stale}
use Rattle.nr_peel.proofs.Common.{refl, zero, length, get_or, arith, eq-eqb, is_set, Checks, Lifted, Lanes, Entry, row_of, unseen}
use Rattle.nr_peel.proofs.Common.{add-one, ◌==◌, ◌&&◌, take_all, count_by, cases_lt, cases_eq, AreLanes, value_in, has_seen}
use Rattle.nr_peel.proofs.Common.{◌≢◌, ◌≤◌, nat_tests, mod_below, sum_below, DueCounts, HasLooked, is_behind, SeenLanes}
use Rattle.nr_peel.proofs.Common.{false, get_or-set_other, get_or-set_same, div-add-mod', lifted_checks, marked_count, CountsUnseen}
use Rattle.nr_peel.proofs.Common.{sym, ap, ℕ, suc, Bool, true, not, cond, List, [], set, take, inl, inr, sum, bit}
use Rattle.nr_peel.{specs.inside.Sweeps.BlockCountsOf, specs.inside.Settled.LanesCatchUp, proofs.RowPositionFacts.count_more}
use Rattle.nr_peel.proofs.RowEntryFacts.{column_at, column_own, entry_in, position_is, row_long}
use Rattle.nr_peel.proofs.{PairSumFacts.sum_below-same, FallingCountFacts.lane_falls}

-- ---- each entry has a number of its own

module _ {W : ℕ} (c : Checks) (K : List Bool) (s : SeenLanes W) (a : AreSeen c K s) where
  starts_above : (h i t : ℕ) → h < i → i ≤ c.rows → slice_index s.starts h + length (c.row h t) ≤ slice_index s.starts i
  starts_above h zero t lt le = absurd (omega (arith, lt))
  starts_above h (suc i) t lt le = rw (← add-one i) (grind (arith, cases_eq h i, starts_above h i t, a.starts i t, a.starts h t))

  pub entries_apart : (h m i k t u : ℕ) → h < c.rows → i < c.rows → m < length (c.row h t) → k < length (c.row i u)
      → slice_index s.starts h + m ≡ slice_index s.starts i + k → (h ≡ i) × (m ≡ k)
  entries_apart h m i k t u hr ir ml kl same = grind (arith, cases_lt, starts_above h i t, starts_above i h u)

  pub entry_inside : (i k t : ℕ) → i < c.rows → k < length (c.row i t) → slice_index s.starts i + k < length s.lanes.items
  entry_inside i k t ir kl = omega (arith, starts_above i c.rows t ir (omega arith), a.enough, kl)

-- ---- counts

-- a sum, one term of which changes by d
pub sum_changed : (f g : ℕ → ℕ) (k d n : ℕ) → k < n → ((m : ℕ) → m < n → m ≢ k → f m ≡ g m)
    → f k + d ≡ g k → sum_below f n + d ≡ sum_below g n
sum_changed f g k d zero below same falls = absurd (omega (arith, below))
sum_changed f g k d (suc n) below same falls = grind (arith, cases_eq k n, sum_changed f g k d n, sum_below-same f g n)

pub sum_none : (f : ℕ → ℕ) (n : ℕ) → ((m : ℕ) → m < n → f m ≡ 0) → sum_below f n ≡ 0
sum_none f zero none = refl
sum_none f (suc n) none = omega (arith, sum_none f n (λ m below. none m (omega (arith, below))), none n (omega arith))

-- of a row whose known positions are seen, and no others, the unknown ones are unseen
unseen_from : (K : ℕ → Bool) (S : ℕ → Bool) (row : List ℕ) (n : ℕ) → n ≤ length row
    → ((k : ℕ) → k < n → S k ≡ K (slice_index row k))
    → sum_below (λ k. cond (S k) 0 1) n ≡ count_by (λ p. not (K p)) (take n row)
unseen_from K S row zero le same = refl
unseen_from K S row (suc n) le same = grind (arith, unseen_from K S row n, count_more (λ p. not (K p)) row n 0, same n)

-- the counts of a row block that has caught up are those of its rows' unknown positions
pub caught_counts : {W : ℕ} → (c : Checks) (s : SeenLanes W) (K : List Bool) (counts : List ℕ) (i : ℕ) → i < c.rows
    → CountsUnseen c s counts
    → ((t k : ℕ) → t < c.lanes → k < length (c.row i t) → has_seen s i k t ≡ bit K (row_position c i t k))
    → BlockCountsOf c (bit K) counts i
caught_counts c s K counts i ir counted caught t tl =
    grind (
      arith,
      counted i t ir tl,
      unseen_from (bit K) (λ k. has_seen s i k t) (c.row i t) (length (c.row i t)) (omega arith) (λ k kl. caught t k tl kl),
      take_all (length (c.row i t)) (c.row i t),
    )

-- a row has no more positions than are unseen or known, if known ones alone are seen
seen_most : (K S : ℕ → Bool) (row : List ℕ) (n : ℕ) → n ≤ length row
    → ((k : ℕ) → k < n → S k ≡ true → K (slice_index row k) ≡ true)
    → n ≤ sum_below (λ k. cond (S k) 0 1) n + count_by K (take n row)
seen_most K S row zero le known = omega arith
seen_most K S row (suc n) le known = grind (arith, seen_most K S row n, count_more K row n 0, known n)

pub counts_most : {W : ℕ} → (c : Checks) (s : SeenLanes W) (K : List Bool) (counts : List ℕ) (i t : ℕ) → i < c.rows
    → t < c.lanes → CountsUnseen c s counts → AreSeen c K s
    → length (c.row i t) ≤ slice_index counts (i * c.lanes + t) + count_by (bit K) (c.row i t)
counts_most c s K counts i t ir tl counted seen =
    let most = seen_most (bit K) (λ k. has_seen s i k t) (c.row i t) (length (c.row i t)) (omega arith)
    (λ k kl. seen.within i t k ir tl kl) in
    omega (arith, counted i t ir tl, rw (take_all (length (c.row i t)) (c.row i t) (omega arith)) at most)

-- an operation makes no more visits than a row block has rows
pub paid_once : (z n o p : ℕ) → n ≤ z → p ≡ o + 1 → n + z * o ≤ z * p
paid_once z n o p few once = rw once (omega (arith, few))

-- a count does not fall if nothing is marked
pub falls_none : (n : ℕ) (here x : Bool) → x ≡ false → n + cond (here && x) 1 0 ≡ n
falls_none n here x out = grind arith

-- ---- a row block looks at the column of an entry

-- The lane of an entry changes to what is known, and the entry's column needs no look. The rows of another lane are fresh.
pub record LooksAt {W D : ℕ} (l : Lifted) (i k : ℕ) (now : Lanes W D) (seen : SeenLanes W)
    (lane fresh : List ℕ) : Type 0 where
  pub lanes : seen.lanes.items ≡ set now.seen.lanes.items (slice_index now.seen.starts i + k) lane
  pub looked : HasLooked i (entry_in l i k).col now.seen seen
  pub known : (t : ℕ) → t < l.plan.z → is_set lane t ≡ bit now.known.items (row_position (lifted_checks l) i t k)
  pub fresh_is : (t : ℕ) → is_set fresh t ≡ (is_set lane t && not (has_seen now.seen i k t))

pub below_true : (t n : ℕ) → t < n → nat_lt t n ≡ true
below_true t n below = grind (arith, nat_tests)

-- what a look tells
pub looks_at : {W D : ℕ} → (l : Lifted) {i k col rotation : ℕ} {now : Lanes W D} {still seen : SeenLanes W}
    {lane fresh : List ℕ} {row : List Entry} → row ≡ row_of (entries_in l.plan.graph l.table.now) i → k < length row
    → AreLanes (lifted_checks l) now
    → col ≡ (get_or row k (record { row = 0; col = 0; values = [] })).col
    → rotation ≡ value_in l.plan.set (get_or row k (record { row = 0; col = 0; values = [] })) % l.plan.z
    → ((t : ℕ) → t < now.known.lanes
    → is_set lane t ≡ bit now.known.items (col * now.known.lanes + (t + rotation) % now.known.lanes))
    → still ≡ now.seen → seen.lanes.items ≡ set still.lanes.items (slice_index still.starts i + k) lane
    → HasLooked i col still seen → ((t : ℕ) → is_set fresh t ≡ (is_set lane t && not (has_seen still i k t)))
    → LooksAt l i k now seen lane fresh
looks_at l {i} {k} row_is within are col_is rotation_is bits same lanes looked fresh_is = record {
  lanes = rw same at lanes;
  looked = rw (← row_is, ← col_is) (rw same at looked);
  known = λ t tl. rw (position_is l i k t (rw row_is at within), ← row_is, ← col_is, ← rotation_is)
      (rw are.known_lanes at (bits t) tl);
  fresh_is = rw same at fresh_is;
}

-- and a look at a column that became known at once, if no row knew of it
pub looks_whole : {W D : ℕ} → (l : Lifted) {i k col : ℕ} {now : Lanes W D} {seen : SeenLanes W} → i < (lifted_checks l).rows
    → k < length (row_of (entries_in l.plan.graph l.table.now) i) → AreLanes (lifted_checks l) now
    → col ≡ (entry_in l i k).col
    → bit now.seen.whole col ≡ true → ((t : ℕ) → has_seen now.seen i k t ≡ false)
    → seen.lanes.items ≡ set now.seen.lanes.items (slice_index now.seen.starts i + k) now.seen.all
    → HasLooked i col now.seen seen → LooksAt l i k now seen now.seen.all now.seen.all
looks_whole l {i} {k} ir kl are col_is known_once none lanes looked = record {
  lanes = lanes;
  looked = rw (← col_is) looked;
  known = λ t tl. let within : k < length ((lifted_checks l).row i t) = omega (arith, kl, row_long l i t) in
      are.seen.all t ∙ below_true t l.plan.z tl
      ∙ sym (are.seen.whole i t k ir tl within (rw (column_at l i k t within, ← col_is) known_once));
  fresh_is = λ t. rw (none t) (grind arith);
}

-- Entries before entry k of row block i were looked at. The counts fell by the positions that they didn't know of.
pub record IsLooking {W D : ℕ} (c : Checks) (i k visits : ℕ) (old new : Lanes W D) (before after : DueCounts) : Type 0 where
  pub lanes : AreLanes c new
  pub counted : CountsUnseen c new.seen after.items
  pub caught : (t m : ℕ) → t < c.lanes → m < k → m < length (c.row i t)
      → has_seen new.seen i m t ≡ bit new.known.items (row_position c i t m)
  pub looked : (t m : ℕ) → t < c.lanes → m < k → m < length (c.row i t)
      → is_stale new.seen i (row_position c i t m / c.lanes) ≡ false
  pub others : (h t : ℕ) → h ≢ i → t < c.lanes
      → slice_index after.items (h * c.lanes + t) ≡ slice_index before.items (h * c.lanes + t)
  pub falls : (m : ℕ) → slice_index after.items m ≤ slice_index before.items m
  pub visits_are : visits + sum after.items ≡ sum before.items
  pub worked : work_of after ≤ work_of before + 2 * visits
  pub paid : visits + c.lanes * before.operations ≤ c.lanes * after.operations
  pub known : new.known ≡ old.known
  pub bits : new.bits ≡ old.bits
  pub counts_lanes : after.lanes ≡ before.lanes
  pub counts_long : length after.items ≡ length before.items

-- lanes of which the counts know something else
pub same_lanes : {W D : ℕ} → {c : Checks} (a : Lanes W D) (seen : SeenLanes W) → AreLanes c a → AreSeen c a.known.items seen
    → AreLanes c (record a { seen = seen })
same_lanes a seen lanes are = grind arith

-- a row block that needs no look has caught up
pub rested_seen : {W : ℕ} → (c : Checks) (i : ℕ) (K : List Bool) (s : SeenLanes W) (behind : ℕ) → AreSeen c K s
    → c.rows ≤ 64 → NeedsNoLook c i s
    → ((h : ℕ) → h < 64 → (bit_at behind h == 1) ≡ (is_behind s h && not (i == h)))
    → AreSeen c K (record s { behind = behind })
rested_seen c i K s behind are few looked rests = grind (arith, nat_tests, cases_eq, rests, looked, are.rested)

pub looking_all : {W D : ℕ} → {c : Checks} {i k visits : ℕ} {old now : Lanes W D} {before after : DueCounts}
    → IsLooking c i k visits old now before after → i < c.rows → c.rows ≤ 64 → ((t : ℕ) → length (c.row i t) ≤ k)
    → (seen : SeenLanes W)
    → seen ≡ record now.seen { behind = seen.behind }
    → ((h : ℕ) → h < 64 → is_behind seen h ≡ (is_behind now.seen h && not (i == h)))
    → LanesCatchUp c i visits old (record now { seen = seen }) before after
looking_all {c} {i} {k} {visits} {old} {now} {before} {after} w ir few all seen same rests =
    let own : NeedsNoLook c i now.seen = λ t m tl ml. w.looked t m tl (omega (arith, ml, all t)) ml in
    let caught = caught_counts c now.seen now.known.items after.items i ir w.counted
    (λ t m tl ml. w.caught t m tl (omega (arith, ml, all t)) ml) in
    let rested = rested_seen c i now.known.items now.seen seen.behind w.lanes.seen few own rests in
    let lanes = same_lanes now seen w.lanes (rw same rested) in
    rw same (grind (arith, rw same at lanes, caught, own, w))

pub looks_skip : {W D : ℕ} → (l : Lifted) {i k visits : ℕ} {old now : Lanes W D} {before after : DueCounts}
    → i < (lifted_checks l).rows → IsLooking (lifted_checks l) i k visits old now before after
    → is_stale now.seen i (entry_in l i k).col ≡ false → IsLooking (lifted_checks l) i (k + 1) visits old now before after
looks_skip l {i} {k} {visits} {old} {now} {before} {after} ir w known = record {
  lanes = w.lanes;
  counted = w.counted;
  caught = λ t m tl mk ml. grind (arith, cases_lt, w.caught t m tl, column_at l i m t ml, w.lanes.seen.fresh i t m ir tl ml);
  looked = λ t m tl mk ml. grind (arith, cases_lt, w.looked t m tl, column_at l i m t ml);
  others = w.others;
  falls = w.falls;
  visits_are = w.visits_are;
  worked = w.worked;
  paid = w.paid;
  known = w.known;
  bits = w.bits;
  counts_lanes = w.counts_lanes;
  counts_long = w.counts_long;
}

-- an entry of another row block, or of another column, isn't this one's
columns_differ : (l : Lifted) (i k h m t : ℕ) → IsTable l.table.now
    → k < length (row_of (entries_in l.plan.graph l.table.now) i) → m < length ((lifted_checks l).row h t)
    → ((h ≡ i) → m ≢ k) → ((i == h) && ((entry_in l i k).col == (entry_in l h m).col)) ≡ false
columns_differ l i k h m t table kl ml apart = elim (cases_eq h i) [
  | inl e ↦ let mi = rw e at ml in rw e (grind (arith, nat_tests, column_own l i m k table, row_long l i t, apart e))
  | inr ne ↦ grind (arith, nat_tests)
]

falls_elsewhere : (i h : ℕ) (x : Bool) → h ≢ i → cond {A = ℕ} ((i == h) && x) 1 0 ≡ 0
falls_elsewhere i h x ne = grind (arith, nat_tests)

looked_here : (now before : Bool) (i j q : ℕ) → now ≡ (before && not ((i == i) && (j == q))) → q ≡ j → now ≡ false
looked_here now before i j q is same = grind (arith, nat_tests)

-- an entry's part of an unseen count falls if the entry is fresh
part_falls : (new old lane fresh : Bool) → new ≡ lane → fresh ≡ (lane && not old) → (old ≡ true → lane ≡ true)
    → cond {A = ℕ} new 0 1 + cond fresh 1 0 ≡ cond old 0 1
part_falls new old lane fresh new_is fresh_is keeps = grind arith

module _
    {W D : ℕ} (l : Lifted) {i k visits : ℕ} {old now : Lanes W D} {before counts : DueCounts} {seen : SeenLanes W}
    {lane : List ℕ} (fresh : List ℕ) (table : IsTable l.table.now) (ir : i < (lifted_checks l).rows)
    (kl : k < length (row_of (entries_in l.plan.graph l.table.now) i))
    (w : IsLooking (lifted_checks l) i k visits old now before counts) (news : LooksAt l i k now seen lane fresh) where
  abbrev c : Checks
  c = lifted_checks l

  below : (t : ℕ) → k < length (c.row i t)
  below t = omega (arith, kl, row_long l i t)

  here : (t : ℕ) → has_seen seen i k t ≡ is_set lane t
  here t = rw (news.looked.starts, news.lanes)
      (ap (λ ws. is_set ws t) (get_or-set_same now.seen.lanes.items (slice_index now.seen.starts i + k) lane []
      (entry_inside c now.known.items now.seen w.lanes.seen i k t ir (below t))))

  others : (h m t : ℕ) → h < c.rows → m < length (c.row h t) → ((h ≡ i) → m ≢ k)
      → has_seen seen h m t ≡ has_seen now.seen h m t
  others h m t hr ml apart = rw (news.looked.starts, news.lanes)
      (ap (λ ws. is_set ws t)
      (get_or-set_other now.seen.lanes.items (slice_index now.seen.starts i + k) (slice_index now.seen.starts h + m) lane []
      (λ same. let both = entries_apart c now.known.items now.seen w.lanes.seen h m i k t t hr ir ml (below t) same in
      apart both.0 both.1)))

  stale_still : (h m t : ℕ) → h < c.rows → m < length (c.row h t) → ((h ≡ i) → m ≢ k)
      → is_stale seen h (row_position c h t m / c.lanes) ≡ false
      → is_stale now.seen h (row_position c h t m / c.lanes) ≡ false
  stale_still h m t hr ml apart = rw (column_at l h m t ml) (λ same. grind (
    arith,
    news.looked.stale h (entry_in l h m).col (omega (arith, hr, rows_most l.plan.graph)),
    columns_differ l i k h m t table kl ml apart,
  ))

  seen_is : (h m t : ℕ) → h < c.rows → t < c.lanes → m < length (c.row h t) → ((h ≡ i) → m ≢ k)
      → is_stale seen h (row_position c h t m / c.lanes) ≡ false
      → has_seen seen h m t ≡ bit now.known.items (row_position c h t m)
  seen_is h m t hr tl ml apart same =
      others h m t hr ml apart ∙ w.lanes.seen.fresh h t m hr tl ml (stale_still h m t hr ml apart same)

  seen_still : AreSeen c now.known.items seen
  seen_still = record {
    starts = rw news.looked.starts w.lanes.seen.starts;
    enough = rw (news.looked.starts, news.lanes)
        (omega (arith, length-set now.seen.lanes.items (slice_index now.seen.starts i + k) lane, w.lanes.seen.enough));
    long = rw news.lanes (length-set now.seen.lanes.items (slice_index now.seen.starts i + k) lane ∙ w.lanes.seen.long);
    within = λ h t m hr tl ml.
        grind (arith, cases_eq h i, cases_eq m k, here t, news.known t, others h m t hr ml, w.lanes.seen.within h t m hr tl ml);
    fresh = λ h t m hr tl ml. grind (arith, cases_eq h i, cases_eq m k, here t, news.known t, seen_is h m t hr tl ml);
    holders = rw news.looked.holders w.lanes.seen.holders;
    rested = λ h t m hr tl ml rests.
        news.looked.stale h (row_position c h t m / c.lanes) (omega (arith, hr, rows_most l.plan.graph))
        ∙ ap (λ b. b && not ((i == h) && ((entry_in l i k).col == row_position c h t m / c.lanes)))
        (w.lanes.seen.rested h t m hr tl ml (rw news.looked.behind at rests));
    whole = rw news.looked.whole w.lanes.seen.whole;
    all = rw news.looked.all w.lanes.seen.all;
  }

  unseen_own : (t : ℕ) → t < c.lanes → unseen c seen i t + cond (is_set fresh t) 1 0 ≡ unseen c now.seen i t
  unseen_own t tl = sum_changed (λ m. cond (has_seen seen i m t) 0 1) (λ m. cond (has_seen now.seen i m t) 0 1) k
      (cond (is_set fresh t) 1 0) (length (c.row i t)) (below t)
      (λ m ml ne. ap (λ b. cond b 0 1) (others i m t ir ml (λ _. ne)))
      (part_falls (has_seen seen i k t) (has_seen now.seen i k t) (is_set lane t) (is_set fresh t) (here t) (news.fresh_is t)
      (λ there. news.known t tl ∙ w.lanes.seen.within i t k ir tl (below t) there))

  unseen_falls : (h t : ℕ) → h < c.rows → t < c.lanes
      → unseen c seen h t + cond ((i == h) && is_set fresh t) 1 0 ≡ unseen c now.seen h t
  unseen_falls h t hr tl = elim (cases_eq h i) [
    | inl e ↦ rw (e, eq-eqb i i refl) (unseen_own t tl)
    | inr ne ↦
        let same = sum_below-same (λ m. cond (has_seen seen h m t) 0 1) (λ m. cond (has_seen now.seen h m t) 0 1)
        (length (c.row h t)) (λ m ml. ap (λ b. cond b 0 1) (others h m t hr ml (λ e. absurd (ne e)))) in
        omega (arith, same, falls_elsewhere i h (is_set fresh t) ne)
  ]

  -- this entry's column needs no look any more, nor do those of the entries before it
  looked_next : (t m : ℕ) → m < k + 1 → m < length (c.row i t)
      → (m < k → m < length (c.row i t) → is_stale now.seen i (row_position c i t m / c.lanes) ≡ false)
      → is_stale seen i (row_position c i t m / c.lanes) ≡ false
  looked_next t m mk ml so_far =
      let j = row_position c i t m / c.lanes in
      let stale = news.looked.stale i j (omega (arith, ir, rows_most l.plan.graph)) in
      elim (cases_eq m k) [
        | inl e ↦ looked_here _ _ i (entry_in l i k).col j stale (rw e (column_at l i k t (rw e at ml)))
        | inr ne ↦ stale ∙ ap (λ b. b && not ((i == i) && ((entry_in l i k).col == j))) (so_far (omega (arith, mk, ne)) ml)
      ]

  -- no count falls below zero
  pub looks_enough : (t : ℕ) → t < c.lanes → cond (is_set fresh t) 1 0 ≤ slice_index counts.items (i * c.lanes + t)
  looks_enough t tl = omega (arith, unseen_own t tl, w.counted i t ir tl)

  -- the counts fall by the rows that didn't know of the entry's position
  pub looks_next : (after : DueCounts) (n : ℕ) → length before.items ≡ c.rows * c.lanes
      → ((h t : ℕ) → t < c.lanes
      → slice_index after.items (h * c.lanes + t) + cond ((i == h) && is_set fresh t) 1 0
      ≡ slice_index counts.items (h * c.lanes + t))
      → length after.items ≡ length counts.items → after.lanes ≡ counts.lanes → work_of after ≤ work_of counts + 2 * n
      → n + c.lanes * counts.operations ≤ c.lanes * after.operations → n ≡ marked_count (is_set fresh) c.lanes
      → IsLooking c i (k + 1) (visits + n) old (record now { seen = seen }) before after
  looks_next after n whole falls long lanes worked paid count = record {
    lanes = same_lanes now seen w.lanes seen_still;
    counted = λ h t hr tl. omega (arith, falls h t tl, w.counted h t hr tl, unseen_falls h t hr tl);
    caught = λ t m tl mk ml. elim (cases_eq m k) [
      | inl e ↦ rw e (here t ∙ news.known t tl)
      | inr ne ↦ others i m t ir ml (λ _. ne) ∙ w.caught t m tl (omega (arith, mk, ne)) ml
    ];
    looked = λ t m tl mk ml. looked_next t m mk ml (w.looked t m tl);
    others = λ h t ne tl. omega (arith, falls_elsewhere i h (is_set fresh t) ne, falls h t tl, w.others h t ne tl);
    falls = λ m. grind (
      arith,
      div-add-mod' m c.lanes,
      mod_below m c.lanes,
      l.plan.sound.size_some,
      falls (m / c.lanes) (m % c.lanes),
      w.falls m,
    );
    visits_are = omega (
      arith,
      lane_falls c.rows c.lanes i counts.items after.items (is_set fresh) l.plan.sound.size_some ir (w.counts_long ∙ whole)
          (long ∙ w.counts_long ∙ whole) falls,
    );
    worked = omega (arith, worked, w.worked);
    paid = omega (arith, paid, w.paid);
    known = w.known;
    bits = w.bits;
    counts_lanes = lanes ∙ w.counts_lanes;
    counts_long = long ∙ w.counts_long;
  }
