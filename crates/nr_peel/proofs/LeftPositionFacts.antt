-- What is left: the positions that aren't known, and what shows that all are left or not.
use Rattle.nr_peel.proofs.Common.{add-one, inl, inr, cases_lt, count_by, ◌&&◌, nat_le, IsRising, ◌≡◌, ◌≢◌, ℕ}
use Rattle.nr_peel.proofs.Common.{◌+◌, ◌<◌, ◌≤◌, nat_lt, Bool, true, false, not, List, length, refl, sym, ap}
use Rattle.nr_peel.proofs.Common.{◌∙◌, arith, ◌-◌, ◌*◌, ◌/◌, ◌%◌, zero, suc, slice_index, filter}
use Rattle.nr_peel.proofs.Common.{range_with_len, lt-ltb, bit, AreSound, closure, stands, IsFixOrder, IsStoppingSet, IsPeeled}
use Rattle.nr_peel.proofs.Common.{Peeling, left_of, unknown_in, marked_count, is_set, Checks, div-mul-add, marked-same}
use Rattle.nr_peel.proofs.Common.{marked-append, marked-le, length-range_with_len, mod-eq_of_lt}
use Rattle.nr_peel.{specs.Peeling.checks_for, proofs.FixOrderFacts.after_accepted}
use Rattle.nr_peel.proofs.RowPositionFacts.{count_more, count_where, some_counted}
use Rattle.nr_peel.proofs.CodewordFacts.{left_over_stops, stopping_stays_out}
use Rattle.nr_peel.proofs.MarkedFacts.{marked_full, no_marks, marked_all}
use Rattle.std.{specs.List.Sorted.IsStrictlyIncreasing, proofs.lemmas.List.FromFn.get_or-range_with_len}
use Rattle.std.proofs.lemmas.List.Kept.{AllPairs-from_increasing, IsStrictlyIncreasing-filter}
pub use Rattle.nr_peel.proofs.RowPositionFacts.{place_of, stands_at}

-- what is left and what is known are all
pub left_and_known : (n : ℕ) (known : List Bool) → n ≤ length known → left_of n known + marked_count (bit known) n ≡ n
left_and_known zero known le = refl
left_and_known (suc n) known le =
    grind (
      arith,
      rw (add-one n) at (count_more (λ (b : Bool). not b) known n false (omega (arith, le))),
      left_and_known n known (omega (arith, le)),
    )

-- if none of the first positions is known, all of them are left
pub all_left : (n : ℕ) (known : List Bool) → n ≤ length known → ((p : ℕ) → p < n → bit known p ≡ false)
    → left_of n known ≡ n
all_left n known le out = omega (arith, left_and_known n known le, no_marks (bit known) n out)

pub whole_order : (s : Peeling) → IsPeeled s → s.recorded ≡ true → s.numbers.kdash ≤ length s.known
    → left_of s.numbers.kdash s.known ≡ 0
    → IsFixOrder (checks_for s) s.numbers.kdash (bit s.given) s.order
whole_order s h recorded le none =
    let known = marked_full (bit s.known) s.numbers.kdash (omega (arith, left_and_known s.numbers.kdash s.known le)) in
    let accepted = h.accepted recorded in
    let reached = h.reached recorded in
    record { accepted = accepted; complete = λ p lt. grind (arith, after_accepted, accepted, reached p) }

-- a number is in a filter of consecutive numbers if it is one of them and is kept
stands_kept : (keeps : ℕ → Bool) (a n p : ℕ)
    → stands p (filter keeps (range_with_len a n)) ≡ (keeps p && (nat_le a p && nat_lt p (a + n)))
stands_kept keeps a zero p = grind arith
stands_kept keeps a (suc n) p = grind (arith, stands_kept keeps (a + 1) n p)

kept_rises : (keeps : ℕ → Bool) (n : ℕ) → IsRising (filter keeps (range_with_len 0 n))
kept_rises keeps n i j lt m =
    let rises : IsStrictlyIncreasing (range_with_len 0 n) = λ k l. grind (arith, get_or-range_with_len, length-range_with_len) in
    AllPairs-from_increasing (filter keeps (range_with_len 0 n))
    (IsStrictlyIncreasing-filter keeps (range_with_len 0 n) rises) i j 0 lt m

-- a stopping set's members are not in the closure
pub stops_out : (c : Checks) (S : ℕ → Bool) (kdash : ℕ) (set : List ℕ) (p : ℕ) → AreSound c
    → IsStoppingSet c kdash S set → stands p set ≡ true → closure c S p ≡ false
stops_out c S kdash set p sound stop member = stopping_stays_out c S (λ q. stands q set) p sound
    (record {
      beside = λ q m. (let w = place_of set q m in ap S (sym w.is) ∙ stop.is_beside.beside w.index w.below);
      never_one = stop.never_one;
    }) member

module _ (s : Peeling) (h : IsPeeled s) (closed : (p : ℕ) → bit s.known p ≡ closure (checks_for s) (bit s.given) p)
    (sound : AreSound (checks_for s)) where
  pub stuck_stops : s.numbers.kdash ≤ length s.known → left_of s.numbers.kdash s.known ≢ 0
      → IsStoppingSet (checks_for s) s.numbers.kdash (bit s.given) (unknown_in s.known)
  stuck_stops le some =
      let c = checks_for s in
      let kdash = s.numbers.kdash in
      let positions = unknown_in s.known in
      let below = count_by (λ q. nat_lt q kdash) positions in
      let there = stands_kept (λ p. not (bit s.known p)) 0 (length s.known) in
      let stop = left_over_stops c (bit s.given) sound in
      let counted = λ (p : ℕ) (lt : p < kdash) (e : bit s.known p ≡ false).
      some_counted (λ q. nat_lt q kdash) positions p (grind arith) (lt-ltb p kdash lt) in
      let member = λ (i : ℕ) (lt : i < length positions). sym (there (slice_index positions i)) ∙ stands_at positions i lt in
      record {
        is_beside = record {
          rising = kept_rises (λ p. not (bit s.known p)) (length s.known);
          in_range = λ i lt. grind arith;
          beside = λ i lt. stop.beside (slice_index positions i) (grind arith);
        };
        low = elim (cases_lt 0 below) [
          | inl l ↦ l
          | inr none ↦
              absurd (some (omega (
                arith,
                left_and_known kdash s.known le,
                marked_all (bit s.known) kdash (λ p lt. grind (arith, counted p lt)),
              )))
        ];
        never_one = λ i t li lt one.
            stop.never_one i t li lt
            (sym (count_where (λ p. stands p positions) (λ p. not (closure c (bit s.given) p)) (c.row i t)
            (λ p m. grind arith)) ∙ one);
      }

  -- they contain the members of every stopping set
  pub stuck_has : (kdash : ℕ) (set : List ℕ) (p : ℕ) → IsStoppingSet (checks_for s) kdash (bit s.given) set
      → stands p set ≡ true → stands p (unknown_in s.known) ≡ true
  stuck_has kdash set p stop member =
      let r = place_of set p member in
      grind (
        arith,
        stands_kept (λ q. not (bit s.known q)) 0 (length s.known) p,
        stops_out (checks_for s) (bit s.given) kdash set p sound stop member,
      )

-- ---- how many positions are left, block by block

-- the marks of one more column
pub marked_column : (u : ℕ → Bool) (j z : ℕ)
    → marked_count u ((j + 1) * z) ≡ marked_count u (j * z) + marked_count (λ t. u (j * z + t)) z
marked_column u j z = let next : (j + 1) * z ≡ j * z + z = omega arith in rw next (marked-append u (j * z) z)

-- one more column
pub left_column : (known : List Bool) (z j count : ℕ) (lane : List ℕ) → (j + 1) * z ≤ length known
    → ((t : ℕ) → t < z → is_set lane t ≡ bit known (j * z + (t + 0) % z)) → count ≡ marked_count (is_set lane) z
    → left_of (j * z) known + (z - count) ≡ left_of ((j + 1) * z) known
left_column known z j count lane fits is counted =
    let same : marked_count (is_set lane) z ≡ marked_count (λ t. bit known (j * z + t)) z =
    grind (arith, marked-same, mod-eq_of_lt) in
    omega (arith, left_and_known, marked_column (bit known) j z, marked-le)

-- after the information columns are counted, if the fillers are known
pub left_end : (known : List Bool) (kdash k : ℕ) → kdash ≤ k → k ≤ length known
    → ((p : ℕ) → kdash ≤ p → p < k → bit known p ≡ true) → left_of k known ≡ left_of kdash known
left_end known kdash k low fits all =
    let split : kdash + (k - kdash) ≡ k = omega arith in
    let more = rw split at (marked-append (bit known) kdash (k - kdash)) in
    let whole = marked_all (λ t. bit known (kdash + t)) (k - kdash) (λ t below. all (kdash + t) (omega arith) (omega arith)) in
    omega (arith, left_and_known)

pub info_rotations : (z k info : ℕ) → 0 < z → k ≡ info * z → k / z ≡ info
info_rotations z k info some is = grind (arith, div-mul-add)
