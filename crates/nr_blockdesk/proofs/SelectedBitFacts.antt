-- What words tell of selected bits is what their places tell one by one. Marks of a whole part are the same in any
-- order.
use Rattle.nr_blockdesk.proofs.Common.{nat_tests, ◌≡◌, ◌≤◌, true, ◌∷◌, ◌∙◌, replicate, and_parts, and-false}
use Rattle.nr_blockdesk.proofs.Common.{same_from_decides, ◌+◌, get_or-range_with_len, length-range_with_len, range_with_len-add}
use Rattle.nr_blockdesk.proofs.Common.{◌-◌, ◌%◌, List, leb-true, ltb-true, heard_as, Circular, place_of, heard_at, bit_says}
use Rattle.nr_blockdesk.proofs.Common.{◌<◌, nat_lt, length, ◌^◌, Option, bit_at, eq-eqb, le-leb, lt-ltb, Hearing, seat_of}
use Rattle.nr_blockdesk.proofs.Common.{◌==◌, ◌||◌, ◌&&◌, list_any, and_from, eqb-true, word_says, heard_bit, bit_at-lt}
use Rattle.nr_blockdesk.proofs.Common.{Bool, option_map, filter_map, get_or-take, length-drop, list_any_at, heards_from, bit_at_not}
use Rattle.nr_blockdesk.proofs.Common.{false, cons_option, get_or-drop, length-take-le, part_hearing, part_hearings, same_from_bits}
use Rattle.nr_blockdesk.proofs.Common.{nat_le, range_with_len, get_or-replicate, length-replicate, list_any-append, interleaving_of}
use Rattle.nr_blockdesk.proofs.Common.{ℕ, [], take, drop, refl, sym, ap, arith, Some, None, beq, w64, bit, tells, Heard, Tx}
use Rattle.nr_blockdesk.proofs.MarkFacts.{heard-at, length-heards, tells-marked}
use Rattle.nr_blockdesk.proofs.SenderFacts.{bit-interleaved, length-interleaved}
use Rattle.std.{specs.Int.bit_not, proofs.lemmas.List.Folds.Any-from_list_any, proofs.Math.Bool.or_assoc}
use Rattle.nr_interleave.proofs.SeatFacts.{seat-given, seat-inside}
use Rattle.nr_harqbuf.proofs.RecordLaws.{beq_same}

-- a number of a range passes a test
pub found : (f : ℕ → Bool) (a n k : ℕ) → a ≤ k → k < a + n → f k ≡ true → list_any f (range_with_len a n) ≡ true
found f a n k low high is =
    let inside : k - a < n = omega (arith, low, high) in
    list_any_at f (range_with_len a n) (k - a) 0 (omega (arith, length-range_with_len a n, inside))
    (ap f (get_or-range_with_len a n (k - a) 0 inside ∙ omega (arith, low)) ∙ is)

pub record IsFound (f : ℕ → Bool) (a n : ℕ) : Type 0 where
  pub at : ℕ
  pub low : a ≤ at
  pub high : at < a + n
  pub is : f at ≡ true

pub find_it : (f : ℕ → Bool) (a n : ℕ) → list_any f (range_with_len a n) ≡ true → IsFound f a n
find_it f a n any =
    let it = Any-from_list_any f (range_with_len a n) any in
    let inside : it.0 < n = omega (arith, length-range_with_len a n, it.2) in
    let at : a + it.0 ≡ it.1 = sym (get_or-range_with_len a n it.0 it.1 inside) ∙ it.3 in
    record { at = it.1; low = omega (arith, at); high = omega (arith, at, inside); is = it.4 }

-- a range in two parts
any-more : (f : ℕ → Bool) (a n k : ℕ)
    → list_any f (range_with_len a (n + k)) ≡ (list_any f (range_with_len a n) || list_any f (range_with_len (a + n) k))
any-more f a n k = ap (list_any f) (range_with_len-add a n k) ∙ list_any-append f (range_with_len a n) (range_with_len (a + n) k)

-- what is said after more numbers of a range were looked at
pub runs-more : (f : ℕ → Bool → ℕ → Bool) (a n count k : ℕ) → k ≡ a + n
    → (first old new : ℕ → Bool → Bool) (one more : Bool)
    → (one ≡ true → (p : ℕ) (v : Bool) → old p v ≡ (first p v || list_any (f p v) (range_with_len a n)))
    → (more ≡ true → (p : ℕ) (v : Bool) → new p v ≡ (old p v || list_any (f p v) (range_with_len k count)))
    → (one && more) ≡ true → (p : ℕ) (v : Bool)
    → new p v ≡ (first p v || list_any (f p v) (range_with_len a (n + count)))
runs-more f a n count k start first old new one more before said both p v = grind (arith, and_parts, or_assoc, any-more)

-- place j of a word of marks and a word of bits tells this bit
abbrev bit_tells : ℕ → ℕ → ℕ → Bool → Bool
bit_tells now bits j v = (bit_at now j == 1) && beq (bit_at bits j == 1) v

-- a run of selected bits, whose places are contiguous in the codeword
module _ (b : Circular) (rv : ℕ) (marks bits : List Bool) (k position count now word : ℕ)
    (run : (j : ℕ) → j < count → place_of b rv (k + j) ≡ position + j)
    (reads : (j : ℕ) → j < count → (bit_at now j == 1) ≡ bit marks (k + j))
    (reads-too : (j : ℕ) → j < count → (bit_at word j == 1) ≡ bit bits (k + j)) where
  -- selected bit k + j
  one-says : (p : ℕ) (v : Bool) (j : ℕ) → j < count
      → bit_says b rv marks bits p v (k + j) ≡ ((position + j == p) && bit_tells now word j v)
  one-says p v j inside = grind (arith, nat_tests)

  pub word-tells : (p : ℕ) (v : Bool)
      → word_says position count now word p v ≡ list_any (bit_says b rv marks bits p v) (range_with_len k count)
  word-tells p v = same_from_decides {P = list_any (bit_says b rv marks bits p v) (range_with_len k count) ≡ true} _ _
      (forth, back) (λ e. e, λ e. e)
    where
      forth : word_says position count now word p v ≡ true
          → list_any (bit_says b rv marks bits p v) (range_with_len k count) ≡ true
      forth said =
          let one = and_parts (nat_le position p && nat_lt p (position + count) && (bit_at now (p - position) == 1))
          (beq (bit_at word (p - position) == 1) v) said in
          let two = and_parts (nat_le position p && nat_lt p (position + count)) (bit_at now (p - position) == 1) one.0 in
          let three = and_parts (nat_le position p) (nat_lt p (position + count)) two.0 in
          let low : position ≤ p = leb-true position p three.0 in
          let high : p < position + count = ltb-true p (position + count) three.1 in
          let inside : p - position < count = omega (arith, low, high) in
          let there : position + (p - position) ≡ p = omega (arith, low) in
          found (bit_says b rv marks bits p v) k count (k + (p - position)) (omega arith) (omega (arith, inside))
          (one-says p v (p - position) inside
          ∙ and_from (position + (p - position) == p) (bit_tells now word (p - position) v)
          (eq-eqb (position + (p - position)) p there)
          (and_from (bit_at now (p - position) == 1) (beq (bit_at word (p - position) == 1) v) two.1 one.1))

      back : list_any (bit_says b rv marks bits p v) (range_with_len k count) ≡ true
          → word_says position count now word p v ≡ true
      back any =
          let it = find_it (bit_says b rv marks bits p v) k count any in
          let j : ℕ = it.at - k in
          let inside : j < count = omega (arith, it.low, it.high) in
          let at : k + j ≡ it.at = omega (arith, it.low) in
          let both = and_parts (position + j == p) (bit_tells now word j v)
          (sym (one-says p v j inside) ∙ ap (bit_says b rv marks bits p v) at ∙ it.is) in
          let here : position + j ≡ p = eqb-true (position + j) p both.0 in
          let back : j ≡ p - position = omega (arith, here) in
          let part_masks = and_parts (bit_at now j == 1) (beq (bit_at word j == 1) v) both.1 in
          and_from (nat_le position p && nat_lt p (position + count) && (bit_at now (p - position) == 1))
          (beq (bit_at word (p - position) == 1) v)
          (and_from (nat_le position p && nat_lt p (position + count)) (bit_at now (p - position) == 1)
          (and_from (nat_le position p) (nat_lt p (position + count)) (le-leb position p (omega (arith, here)))
          (lt-ltb p (position + count) (omega (arith, here, inside))))
          (sym (ap (λ i. bit_at now i == 1) back) ∙ part_masks.0))
          (sym (ap (λ i. beq (bit_at word i == 1) v) back) ∙ part_masks.1)

-- what is received at a place, as a hearing, and whether it tells this bit of this position
told_by : ℕ → Bool → Option Hearing → Bool
told_by p v None = false
told_by p v (Some h) = (h.0 == p) && beq h.1 v

cons_any : (p : ℕ) (v : Bool) (o : Option Hearing) (hs : List Hearing) (b : Bool)
    → list_any (λ (h : Hearing). (h.0 == p) && beq h.1 v) hs ≡ b
    → list_any (λ (h : Hearing). (h.0 == p) && beq h.1 v) (cons_option o hs) ≡ (told_by p v o || b)
unfolding told_by
cons_any p v o hs b rest = grind (arith, nat_tests)

any-part_masks : (f : ℕ → Option Hearing) (p : ℕ) (v : Bool) (ns : List ℕ)
    → list_any (λ (h : Hearing). (h.0 == p) && beq h.1 v) (filter_map f ns) ≡ list_any (λ m. told_by p v (f m)) ns
any-part_masks f p v [] = refl
any-part_masks f p v (n ∷ ns) =
    cons_any p v (f n) (filter_map f ns) (list_any (λ m. told_by p v (f m)) ns) (any-part_masks f p v ns)

part_masks-at : (p q : ℕ) (v : Bool) (o : Option Bool) → told_by p v (option_map (λ b. (q, b)) o) ≡ ((q == p) && tells o v)
unfolding told_by
part_masks-at p q v o = grind (arith, nat_tests, and-false)

-- a place among the first n that was received tells its bit
pub place-told : (b : Circular) (tx : Tx) (heard : List Heard) (n m pos : ℕ) (v : Bool) → m < n
    → heard_bit (heard_at heard m) ≡ Some v → pos ≡ place_of b tx.rv (seat_of tx.qm (length heard) m)
    → heard_as (part_hearings b tx heard n) pos v ≡ true
unfolding heard_as
place-told b tx heard n m pos v below some at =
    let q : ℕ = place_of b tx.rv (seat_of tx.qm (length heard) m) in
    any-part_masks (part_hearing b tx heard) pos v (range_with_len 0 n)
    ∙ found (λ k. told_by pos v (part_hearing b tx heard k)) 0 n m (omega arith) (omega (arith, below))
    (part_masks-at pos q v (heard_bit (heard_at heard m)) ∙ ap (λ o. (q == pos) && tells o v) some
    ∙ and_from (q == pos) (beq v v) (eq-eqb q pos (sym at)) (beq_same v))

-- bits that are interleaved to the marks and bits of a part say what its places tell
module _ (b : Circular) (tx : Tx) (marks bits chosen chosen-too : List Bool) (from n : ℕ) (some : 0 < tx.qm)
    (whole : n % tx.qm ≡ 0)
    (inside : from + n ≤ length marks) (long : length bits ≡ length marks)
    (is : interleaving_of tx.qm chosen ≡ take n (drop from marks))
    (is-too : interleaving_of tx.qm chosen-too ≡ take n (drop from bits)) where
  abbrev places : List Heard
  places = heards_from marks bits from n

  many : (xs ys : List Bool) → from + n ≤ length ys → interleaving_of tx.qm xs ≡ take n (drop from ys) → length xs ≡ n
  many xs ys within e = grind (arith, length-interleaved, length-take-le, length-drop)

  seated : (xs ys : List Bool) → from + n ≤ length ys → interleaving_of tx.qm xs ≡ take n (drop from ys)
      → (m : ℕ) → m < n → bit xs (seat_of tx.qm n m) ≡ bit ys (from + m)
  seated xs ys within e m below = grind (arith, many, bit-interleaved, get_or-take, get_or-drop)

  abbrev by_place : ℕ → Bool → ℕ → Bool
  by_place p v m = told_by p v (part_hearing b tx places m)

  -- a place tells what the selected bit says that is sent there
  place-says : (p : ℕ) (v : Bool) (m : ℕ) → m < n
      → by_place p v m ≡ bit_says b tx.rv chosen chosen-too p v (seat_of tx.qm n m)
  place-says p v m below =
      let at : ℕ = place_of b tx.rv (seat_of tx.qm n m) in
      part_masks-at p (place_of b tx.rv (seat_of tx.qm (length places) m)) v (heard_bit (heard_at places m))
      ∙ ap (λ k. (place_of b tx.rv (seat_of tx.qm k m) == p) && tells (heard_bit (heard_at places m)) v)
      (length-heards marks bits from n)
      ∙ ap (λ h. (at == p) && tells (heard_bit h) v) (heard-at marks bits from n m below)
      ∙ ap (λ t. (at == p) && t) (tells-marked (bit marks (from + m)) (bit bits (from + m)) v)
      ∙ ap (λ a. (at == p) && (a && beq (bit bits (from + m)) v)) (sym (seated chosen marks inside is m below))
      ∙ ap (λ a. (at == p) && (bit chosen (seat_of tx.qm n m) && beq a v))
      (sym (seated chosen-too bits (omega (arith, inside, long)) is-too m below))

  forth : (p : ℕ) (v : Bool) → list_any (bit_says b tx.rv chosen chosen-too p v) (range_with_len 0 (length chosen-too)) ≡ true
      → list_any (by_place p v) (range_with_len 0 (length places)) ≡ true
  forth p v any =
      let it = find_it (bit_says b tx.rv chosen chosen-too p v) 0 (length chosen-too) any in
      let seat =
      seat-given tx.qm n it.at whole (omega (arith, it.high, many chosen-too bits (omega (arith, inside, long)) is-too)) in
      found (by_place p v) 0 (length places) seat.at (omega arith) (omega (arith, seat.inside, length-heards marks bits from n))
      (place-says p v seat.at seat.inside ∙ ap (bit_says b tx.rv chosen chosen-too p v) seat.is ∙ it.is)

  back : (p : ℕ) (v : Bool) → list_any (by_place p v) (range_with_len 0 (length places)) ≡ true
      → list_any (bit_says b tx.rv chosen chosen-too p v) (range_with_len 0 (length chosen-too)) ≡ true
  back p v any =
      let it = find_it (by_place p v) 0 (length places) any in
      let below : it.at < n = omega (arith, it.high, length-heards marks bits from n) in
      found (bit_says b tx.rv chosen chosen-too p v) 0 (length chosen-too) (seat_of tx.qm n it.at) (omega arith)
      (omega (arith, seat-inside tx.qm n it.at some whole below, many chosen-too bits (omega (arith, inside, long)) is-too))
      (sym (place-says p v it.at below) ∙ it.is)

  pub says-part : (p : ℕ) (v : Bool) → list_any (bit_says b tx.rv chosen chosen-too p v) (range_with_len 0 (length chosen-too))
      ≡ heard_as (part_hearings b tx (heards_from marks bits from n) (length (heards_from marks bits from n))) p v
  unfolding heard_as
  says-part p v = grind (arith, same_from_decides, forth, back, any-part_masks)

-- if the complement of a word has a zero, the word has a one
pub marked : (word j : ℕ) → word < 2 ^ 64 → j < 64 → bit_at (bit_not w64 word) j ≡ 0 → (bit_at word j == 1) ≡ true
marked word j fits few none =
    let one : bit_at word j ≡ 1 = omega (arith, bit_at_not w64 word j fits few, none, bit_at-lt word j) in
    ap (λ b. b == 1) one

-- interleaving leaves ones unchanged
ones-interleaved : (qm n : ℕ) (ones : List Bool) → 0 < qm → n % qm ≡ 0 → length ones ≡ n
    → ((m : ℕ) → m < n → bit ones m ≡ true)
    → interleaving_of qm ones ≡ ones
ones-interleaved qm n ones some whole long all = grind (arith, length-interleaved, same_from_bits, bit-interleaved, seat-inside)

-- marks of a part whose places are all marked
pub whole-interleaved : (qm from n many : ℕ) (marks : List Bool) → 0 < qm → n % qm ≡ 0 → from + n ≤ length marks
    → ((m : ℕ) → m < n → bit marks (from + m) ≡ true) → many ≡ n
    → interleaving_of qm (replicate many true) ≡ take n (drop from marks)
whole-interleaved qm from n many marks some whole inside all is = grind (
  arith,
  length-take-le,
  length-drop,
  length-replicate,
  ones-interleaved,
  get_or-replicate,
  same_from_bits,
  get_or-take,
  get_or-drop,
)

-- places that are later in a run
pub further : (b : Circular) (rv k position count n few : ℕ)
    → ((j : ℕ) → j < count → place_of b rv (k + j) ≡ position + j) → n + few ≤ count
    → (j : ℕ) → j < few → place_of b rv (k + n + j) ≡ position + n + j
further b rv k position count n few places inside j below =
    let at : k + n + j ≡ k + (n + j) = omega arith in
    ap (place_of b rv) at ∙ places (n + j) (omega (arith, inside, below)) ∙ omega arith
