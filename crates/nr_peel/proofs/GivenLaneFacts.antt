-- Blocks of a list as lanes, and positions that are given column after column.
use Rattle.nr_peel.proofs.Common.{◌≡◌, ℕ, ◌+◌, ◌*◌, ◌/◌, ◌%◌, ◌<◌, ◌==◌, ◌&&◌, ◌||◌, Bool}
use Rattle.nr_peel.proofs.Common.{false, false≢true, true, not, cond, mod_below, or_left, ap, List, length, ◌∙◌, arith}
use Rattle.nr_peel.proofs.Common.{eqb-true, and_from, and_parts, eq-eqb, get_or_past, div-add-mod', bit, is_set, lane_marks, Checks}
use Rattle.nr_peel.proofs.Common.{GivesPositions, news, AreLanes, Lanes, Within, nat_tests, nat_lt, ◌≤◌, Graph, rows_of}
use Rattle.nr_peel.{proofs.Common.IsMarkedIn, proofs.Common.MarksColumn, proofs.Common.mod-eq_of_lt, specs.inside.Seen.IsSeenStill}
use Rattle.nr_peel.proofs.{ClosureFacts.same_truth, LaneMarkFacts.column_marked, LaneMarkFacts.marked_then}
use Rattle.std.proofs.lemmas.Bool.{le-ltb}

-- each row block has a bit of a word
pub rows_few : (g : Graph) → rows_of g ≤ 64
rows_few g = grind arith

-- a digit that is one if a test passes
pub digit_is : (n : ℕ) (b : Bool) → n < 2 → (n == 1) ≡ b → n ≡ cond b 1 0
digit_is n b small is = grind arith

-- lanes as long as others
pub record AreAlike {W D : ℕ} (old now : Lanes W D) : Type 0 where
  pub known_long : length now.known.items ≡ length old.known.items
  pub bits_long : length now.bits.items ≡ length old.bits.items
  pub known_lanes : now.known.lanes ≡ old.known.lanes
  pub bits_lanes : now.bits.lanes ≡ old.bits.lanes

-- the positions of a set whose column is below one, and those of that column
abbrev pub below_column : ℕ → (ℕ → Bool) → ℕ → ℕ → Bool
below_column z M j p = M p && nat_lt (p / z) j

abbrev pub in_column : ℕ → (ℕ → Bool) → ℕ → ℕ → Bool
in_column z M j p = M p && (p / z == j)

-- ---- the columns so far

-- lanes in which the positions below one column have been given
pub record AreGiven {W D : ℕ} (z : ℕ) (N V : ℕ → Bool) (j : ℕ) (old now : Lanes W D) : Type 0 where
  pub known : (p : ℕ) → bit now.known.items p ≡ (bit old.known.items p || below_column z N j p)
  pub bits : (p : ℕ) → bit now.bits.items p ≡ (bit old.bits.items p || (below_column z N j p && V p))
  pub seen : IsSeenStill old.seen now.seen
  pub marked : IsMarkedIn z old.known.items now.known.items old.seen now.seen
  pub alike : AreAlike old now

pub given_none : {W D : ℕ} → (z : ℕ) (N V : ℕ → Bool) (s : Lanes W D) → AreGiven z N V 0 s s
given_none z N V s = grind (arith, nat_tests, le-ltb)

-- the lane of what is given and isn't known, if the columns before are given
lane_at : (z j : ℕ) → 0 < z → (K K' H : ℕ → Bool)
    → ((p : ℕ) → K' p ≡ (K p || below_column z (λ p. H p && not (K p)) j p)) → (given lane : List ℕ)
    → ((t : ℕ) → t < z → is_set given t ≡ H (j * z + t))
    → ((t : ℕ) → t < z → is_set lane t ≡ (is_set given t && not (K' (j * z + (t + 0) % z)))) → (p : ℕ)
    → lane_marks z j (is_set lane) p ≡ in_column z (λ p. H p && not (K p)) j p
lane_at z j some K K' H known given lane given_is lane_is p = grind (arith, mod-eq_of_lt {n = p % z + 0} {m = z})

-- one more column is known
next_known : (k k' k'' n l : Bool) (q j : ℕ) → k' ≡ (k || (n && nat_lt q j)) → l ≡ (n && (q == j)) → k'' ≡ (k' || l)
    → k'' ≡ (k || (n && nat_lt q (j + 1)))
next_known k k' k'' n l q j so_far here is = grind (arith, nat_tests)

-- and has its bits
next_bits : (b b' b'' n v l m : Bool) (q j : ℕ) → b' ≡ (b || ((n && nat_lt q j) && v)) → ((q == j) && l) ≡ (n && (q == j))
    → ((q == j) ≡ true → m ≡ (l && v)) → b'' ≡ (b' || ((q == j) && m))
    → b'' ≡ (b || ((n && nat_lt q (j + 1)) && v))
next_bits b b' b'' n v l m q j so_far here both is = grind (arith, nat_tests)

both_here : (z j : ℕ) → 0 < z → (V : ℕ → Bool) (lane both given : List ℕ)
    → ((t : ℕ) → is_set both t ≡ (is_set lane t && is_set given t))
    → ((t : ℕ) → t < z → is_set given t ≡ V (j * z + t)) → (p : ℕ) → (p / z == j) ≡ true
    → is_set both (p % z) ≡ (is_set lane (p % z) && V p)
both_here z j some V lane both given both_is given_is p here =
    let at : j * z + p % z ≡ p = grind (arith, eqb-true (p / z) j here, div-add-mod') in
    both_is (p % z) ∙ ap (λ b. is_set lane (p % z) && b) (given_is (p % z) (mod_below p z some) ∙ ap V at)

module _ {W D : ℕ} (z j : ℕ) (some : 0 < z) (old now : Lanes W D) (H V : ℕ → Bool)
    (h : AreGiven z (news H old) V j old now) where
  abbrev N : ℕ → Bool
  N = news H old

  -- the lane of what is given and isn't known marks what is new in the column
  pub lane_new : (given lane : List ℕ) → ((t : ℕ) → t < z → is_set given t ≡ H (j * z + t))
      → ((t : ℕ) → t < z → is_set lane t ≡ (is_set given t && not (bit now.known.items (j * z + (t + 0) % z))))
      → (p : ℕ) → lane_marks z j (is_set lane) p ≡ in_column z N j p
  lane_new = lane_at z j some (bit old.known.items) (bit now.known.items) H h.known

  -- the column's new positions are given
  pub given_next : (next : Lanes W D) (lane both given : List ℕ)
      → ((p : ℕ) → lane_marks z j (is_set lane) p ≡ in_column z N j p)
      → ((t : ℕ) → is_set both t ≡ (is_set lane t && is_set given t))
      → ((t : ℕ) → t < z → is_set given t ≡ V (j * z + t))
      → ((p : ℕ) → bit next.known.items p ≡ (bit now.known.items p || lane_marks z j (is_set lane) p))
      → ((p : ℕ) → bit next.bits.items p ≡ (bit now.bits.items p || lane_marks z j (is_set both) p))
      → IsSeenStill now.seen next.seen → IsMarkedIn z now.known.items next.known.items now.seen next.seen → AreAlike now next
      → AreGiven z N V (j + 1) old next
  given_next next lane both given marks both_is given_is known bits seen marked_here alike = record {
    known = λ p. next_known _ _ _ (N p) _ (p / z) j (h.known p) (marks p) (known p);
    bits =
        λ p. next_bits _ _ _ (N p) (V p) _ _ (p / z) j (h.bits p) (marks p)
        (both_here z j some V lane both given both_is given_is p) (bits p);
    seen = grind (arith, seen, h.seen);
    marked = marked_then z old.known.items now.known.items next.known.items old.seen now.seen next.seen h.marked marked_here
        h.seen.holders (λ p k. known p ∙ or_left (bit now.known.items p) _ k);
    alike = omega (arith, alike, h.alike);
  }

  -- a column without anything new
  pub given_skip : (lane : List ℕ) → ((p : ℕ) → lane_marks z j (is_set lane) p ≡ in_column z N j p)
      → ((t : ℕ) → is_set lane t ≡ false) → AreGiven z N V (j + 1) old now
  given_skip lane marks none = grind arith

-- ---- lanes in which positions that weren't known are given

pub given_lanes : {W D : ℕ} → (c : Checks) (N V : ℕ → Bool) (old now : Lanes W D) → c.rows ≤ 64 → AreLanes c old
    → ((p : ℕ) → bit now.known.items p ≡ (bit old.known.items p || N p))
    → ((p : ℕ) → bit now.bits.items p ≡ (bit old.bits.items p || (N p && V p)))
    → IsSeenStill old.seen now.seen → IsMarkedIn c.lanes old.known.items now.known.items old.seen now.seen → AreAlike old now
    → AreLanes c now
given_lanes c N V old now few lanes known bits seen marked alike = grind arith

-- after all columns are given
pub given_all : {W D : ℕ} → (c : Checks) (z cols : ℕ) (heard : List Bool) (V : ℕ → Bool) (old now : Lanes W D) → 0 < z
    → c.lanes ≡ z → c.rows ≤ 64 → c.size ≡ cols * z → length heard ≡ c.size → AreLanes c old
    → AreGiven z (news (bit heard) old) V cols old now → GivesPositions c (bit heard) V old now
given_all c z cols heard V old now some wide few size long lanes h = grind (arith, get_or_past)

-- ---- nothing new is given

pub none_given : {W D : ℕ} → (c : Checks) (H V : ℕ → Bool) (s : Lanes W D) → AreLanes c s → Within H (bit s.known.items)
    → GivesPositions c H V s s
none_given c H V s lanes old = grind arith

-- ---- one position is given

-- the lane of its row marks only that position
pub one_marks : (z pos p : ℕ) (lane : List ℕ) → ((t : ℕ) → is_set lane t ≡ (pos % z == t))
    → lane_marks z (pos / z) (is_set lane) p ≡ (pos == p)
one_marks z pos p lane is = grind (arith, nat_tests, same_truth, and_parts, eqb-true, eq-eqb, div-add-mod', and_from)

-- a position is in its column
one_in : (z pos p : ℕ) → (pos == p) ≡ ((p / z == pos / z) && (pos == p))
one_in z pos p = grind (arith, nat_tests, eqb-true)

module _ {W D : ℕ} (c : Checks) (pos : ℕ) (value : Bool) (old : Lanes W D) (few : c.rows ≤ 64) (lanes : AreLanes c old) where
  -- a position that wasn't known
  pub one_given : (now : Lanes W D) → bit old.known.items pos ≡ false
      → ((p : ℕ) → bit now.known.items p ≡ (bit old.known.items p || (pos == p)))
      → ((p : ℕ) → bit now.bits.items p ≡ (bit old.bits.items p || ((pos == p) && value)))
      → MarksColumn (pos / c.lanes) false old.seen now.seen → AreAlike old now
      → GivesPositions c (λ p. pos == p) (λ p. value) old now
  one_given now out known bits marks alike =
      let marked = column_marked c.lanes (pos / c.lanes) false (λ p. pos == p) old.known.items now.known.items old.seen now.seen
      (λ p. known p ∙ ap (λ b. bit old.known.items p || b) (one_in c.lanes pos p)) marks (λ f. absurd (false≢true f)) in
      let new = given_lanes c (λ p. pos == p) (λ p. value) old now few lanes known bits marks.still marked alike in
      record { known = known; seen = marks.still; bits = λ p. grind (arith, nat_tests, bits p, out, eqb-true); lanes = new }
