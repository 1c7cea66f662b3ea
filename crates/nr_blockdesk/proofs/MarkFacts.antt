-- What two lists of bits say was received, place by place, piece by piece, and gathered in words.
use Rattle.nr_blockdesk.proofs.Common.{nat_tests, ◌≡◌, ℕ, ◌+◌, ◌<◌, ◌≤◌, ◌==◌, ◌&&◌, ◌++◌, Bool}
use Rattle.nr_blockdesk.proofs.Common.{true, List, length, take, drop, refl, sym, ◌∙◌, arith, ◌*◌, ◌%◌, ◌^◌, inl}
use Rattle.nr_blockdesk.proofs.Common.{inr, ap, Some, sum, slice_index, beq, bit_at, cases_lt, get_or-append_right, get_or-drop}
use Rattle.nr_blockdesk.proofs.Common.{get_or-take, get_or_append_left, ext_get_or, length-drop, length-take-le, fill_by_all}
use Rattle.nr_blockdesk.proofs.Common.{get_or-map-range_with_len, length-map-range_with_len, sum_by_more_le, bit-low_first, bit}
use Rattle.nr_blockdesk.proofs.Common.{low_first, bit_at-zero, heard_at, heard_bit, tells, HasRoomFor, heards, heards_from}
use Rattle.nr_blockdesk.proofs.Common.{place_heard, piece, Heard, bit_or}
use Rattle.nr_blockdesk.specs.declared.selected.Selected.{Selected}
use Rattle.nr_bitvec.proofs.WordDigitFacts.{digit-before, digit-here, digit-none}
use Rattle.nr_blockdesk.specs.declared.heard.Heard.TheVariants as heard

pub length-heards : (marks bits : List Bool) (from n : ℕ) → length (heards_from marks bits from n) ≡ n
unfolding heards_from
length-heards marks bits from n = length-map-range_with_len (λ m. place_heard (bit marks m) (bit bits m)) from n

pub heard-at : (marks bits : List Bool) (from n m : ℕ) → m < n
    → heard_at (heards_from marks bits from n) m ≡ place_heard (bit marks (from + m)) (bit bits (from + m))
unfolding heards_from
heard-at marks bits from n m inside =
    get_or-map-range_with_len (λ m. place_heard (bit marks m) (bit bits m)) from n m (from + m) heard.Erased inside refl

-- what a mark and a bit say
pub tells-marked : (mark b v : Bool) → tells (heard_bit (place_heard mark b)) v ≡ (mark && beq b v)
tells-marked mark b v = grind arith

pub some-marked : (b : Bool) → heard_bit (place_heard true b) ≡ Some b
some-marked b = grind arith

-- the places of code block r among all
pub piece-heards : (marks bits : List Bool) (lengths : List ℕ) (r : ℕ) → sum lengths ≡ length marks → r < length lengths
    → heards_from marks bits (sum (take r lengths)) (slice_index lengths r) ≡ piece lengths (heards marks bits) r
piece-heards marks bits lengths r together inside =
    let all : List Heard = heards marks bits in
    let start : ℕ = sum (take r lengths) in
    let e : ℕ = slice_index lengths r in
    let most : start + e ≤ sum lengths = sum_by_more_le (λ (x : ℕ). x) lengths r 0 inside in
    let long : length all ≡ length marks = length-heards marks bits 0 (length marks) in
    let one : length (heards_from marks bits start e) ≡ e = length-heards marks bits start e in
    let cut : length (take e (drop start all)) ≡ e =
    length-take-le e (drop start all) (omega (arith, length-drop start all, most, together, long)) in
    ext_get_or heard.Erased (heards_from marks bits start e) (take e (drop start all)) (one ∙ sym cut)
    (λ k below.
    let low : k < e = omega (arith, below, one) in
    let none : 0 + (start + k) ≡ start + k = omega arith in
    rw (
      heard-at marks bits start e k low,
      get_or-take e (drop start all) k heard.Erased low,
      get_or-drop start all k heard.Erased,
      heard-at marks bits 0 (length marks) (start + k) (omega (arith, low, most, together)),
      none,
    ) refl)

-- lists whose marks and bits are these places
pub heards-are : (marks bits : List Bool) (places : List Heard) → length marks ≡ length places
    → ((m : ℕ) → m < length places → place_heard (bit marks m) (bit bits m) ≡ heard_at places m)
    → heards marks bits ≡ places
unfolding heards_from
heards-are marks bits places long are =
    sym (fill_by_all (λ m. place_heard (bit marks m) (bit bits m)) places (length marks) heard.Erased (sym long)
    (λ k below. sym (are k (omega (arith, below, long)))))

-- words of marks and bits at the end of two lists
pub heards-more : (places : List Heard) (marks bits : List Bool) (n wide now word : ℕ) → length marks ≡ n
    → length bits ≡ n
    → ((m : ℕ) → m < n → place_heard (bit marks m) (bit bits m) ≡ heard_at places m)
    → ((j : ℕ) → j < wide → place_heard (bit_at now j == 1) (bit_at word j == 1) ≡ heard_at places (n + j))
    → (m : ℕ) → m < n + wide
    → place_heard (bit (marks ++ low_first wide now) m) (bit (bits ++ low_first wide word) m) ≡ heard_at places m
heards-more places marks bits n wide now word long long-too before here m below =
    grind (arith, nat_tests, cases_lt, get_or_append_left, get_or-append_right, bit-low_first)

-- lists with room for more bits have room for fewer
pub room-less : (most n : ℕ) (selected : Selected) → n ≤ most → HasRoomFor most selected → HasRoomFor n selected
room-less most n selected few has = record { marks = omega (arith, has.marks); bits = omega (arith, has.bits) }

-- n places from place `from` on are in a word of marks and one of bits
pub record IsGathered (places : List Heard) (from now bits n : ℕ) : Type 0 where
  pub part_masks : (j : ℕ) → j < n → place_heard (bit_at now j == 1) (bit_at bits j == 1) ≡ heard_at places (from + j)
  pub marks : (j : ℕ) → n ≤ j → bit_at now j ≡ 0
  pub digits : (j : ℕ) → n ≤ j → bit_at bits j ≡ 0

pub gathered-none : (places : List Heard) (from : ℕ) → IsGathered places from 0 0 0
gathered-none places from = grind (arith, bit_at-zero)

pub gathered-more : (places : List Heard) (from now bits n now' bits' mark bit : ℕ) → n < 64 → mark ≤ 1 → bit ≤ 1
    → now' ≡ bit_or now (mark * 2 ^ n % 2 ^ 64) → bits' ≡ bit_or bits (bit * 2 ^ n % 2 ^ 64)
    → place_heard (mark == 1) (bit == 1) ≡ heard_at places (from + n)
    → IsGathered places from now bits n → IsGathered places from now' bits' (n + 1)
gathered-more places from now bits n now' bits' mark bit inside small small-too is is-too here gathered = record {
  part_masks = part_masks;
  marks = digit-none now now' mark n small inside is gathered.marks;
  digits = digit-none bits bits' bit n small-too inside is-too gathered.digits;
}
  where
    part_masks : (j : ℕ) → j < n + 1 → place_heard (bit_at now' j == 1) (bit_at bits' j == 1) ≡ heard_at places (from + j)
    part_masks j below = elim (cases_lt j n) [
      | inl before ↦
          ap (λ m. place_heard (m == 1) (bit_at bits' j == 1))
          (digit-before now now' mark n small inside is gathered.marks j before)
          ∙ ap (λ m. place_heard (bit_at now j == 1) (m == 1))
          (digit-before bits bits' bit n small-too inside is-too gathered.digits j before)
          ∙ gathered.part_masks j before
      | inr past ↦
          let last : j ≡ n = omega (arith, below, past) in
          ap (λ i. place_heard (bit_at now' i == 1) (bit_at bits' i == 1)) last
          ∙ ap (λ m. place_heard (m == 1) (bit_at bits' n == 1)) (digit-here now now' mark n small inside is gathered.marks)
          ∙ ap (λ m. place_heard (mark == 1) (m == 1)) (digit-here bits bits' bit n small-too inside is-too gathered.digits)
          ∙ here
          ∙ ap (λ i. heard_at places (from + i)) (sym last)
    ]
