-- What several turns of the buffer tell is put together in the first of them.
use Rattle.nr_blockdesk.proofs.Common.{nat_tests, same_from_decides, ◌≡◌, ℕ, ◌+◌, ◌-◌, ◌*◌, ◌<◌, ◌≤◌}
use Rattle.nr_blockdesk.proofs.Common.{◌==◌, ◌||◌, ◌&&◌, inl, inr, Bool, true, false, nat_le, nat_lt, List, sym, ap}
use Rattle.nr_blockdesk.proofs.Common.{◌∙◌, arith, replicate, beq, bit_at, list_any, range_with_len, and_from, and_parts}
use Rattle.nr_blockdesk.proofs.Common.{cases_lt, leb-true, lt-ltb, ltb-true, get_or-replicate, bit_at-lt, bit_at-zero, bit, Marks}
use Rattle.nr_blockdesk.proofs.Common.{marks_with, says, word_says, Circular, place_of, bit_says}
use Rattle.nr_blockdesk.proofs.SelectedBitFacts.{find_it, found}
use Rattle.std.{specs.Int.Bits.bit_xor, proofs.lemmas.Bool.or_cases, proofs.lemmas.Nat.Bits.bit_at_xor}

-- ---- a word of them

-- two words have no difference in their first bits
pub same_bits : (a b low count j : ℕ) → ((i : ℕ) → i < count → bit_at low i ≡ bit_at (bit_xor a b) i) → low ≡ 0
    → j < count → bit_at a j ≡ bit_at b j
same_bits a b low count j lows none below =
    let zero : bit_at low j ≡ 0 = ap (λ w. bit_at w j) none ∙ bit_at-zero j in
    omega (arith, lows j below, bit_at_xor a b j, bit_at-lt a j, bit_at-lt b j, zero)

no_more : (a b c : Bool) → (c ≡ true → b ≡ a) → a ≡ (a || (c && b))
no_more a b c same = grind arith

both_same : (a b c d e : Bool) → (c ≡ true → a ≡ d) → (c ≡ true → b ≡ e) → ((c && a) && b) ≡ (c && (d && e))
both_same a b c d e one two = grind arith

-- place k is in the range
pub record IsInside (at count k : ℕ) : Type 0 where
  pub low : at ≤ k
  pub high : k < at + count

inside_it : (at count k : ℕ) → (nat_le at k && nat_lt k (at + count)) ≡ true → IsInside at count k
inside_it at count k is =
    let parts = and_parts (nat_le at k) (nat_lt k (at + count)) is in
    record { low = leb-true at k parts.0; high = ltb-true k (at + count) parts.1 }

-- every bit was received, and those of the word are the same further on
pub whole_folded : (bits : List Bool) (n from at count : ℕ) → from + at + count ≤ n
    → ((j : ℕ) → j < count → bit bits (at + j) ≡ bit bits (from + at + j)) → (k : ℕ) (v : Bool)
    → says (marks_with (replicate n true) bits) k v
    ≡ (says (marks_with (replicate n true) bits) k v
    || (nat_le at k && nat_lt k (at + count) && says (marks_with (replicate n true) bits) (from + k) v))
whole_folded bits n from at count inside same k v =
    no_more (says (marks_with (replicate n true) bits) k v) (says (marks_with (replicate n true) bits) (from + k) v)
    (nat_le at k && nat_lt k (at + count)) (λ is.
    let it = inside_it at count k is in
    let here : at + (k - at) ≡ k = omega (arith, it.low) in
    let there : from + at + (k - at) ≡ from + k = omega (arith, it.low) in
    let bits_same : bit bits (from + k) ≡ bit bits k =
    ap (bit bits) (sym there) ∙ sym (same (k - at) (omega (arith, it.low, it.high))) ∙ ap (bit bits) here in
    let one : bit (replicate n true) (from + k) ≡ true =
    get_or-replicate n (from + k) true false (omega (arith, it.high, inside)) in
    let two : bit (replicate n true) k ≡ true = get_or-replicate n k true false (omega (arith, it.high, inside)) in
    ap (λ a. a && beq (bit bits (from + k)) v) one ∙ ap (λ b. true && beq b v) bits_same
    ∙ ap (λ a. a && beq (bit bits k) v) (sym two))

-- a word of marks and one of bits, from further on
pub word_folded : (marks bits : List Bool) (from at count now word : ℕ) → count ≤ 64
    → ((j : ℕ) → j < 64 → (bit_at now j == 1) ≡ bit marks (from + at + j))
    → ((j : ℕ) → j < 64 → (bit_at word j == 1) ≡ bit bits (from + at + j)) → (k : ℕ) (v : Bool)
    → word_says at count now word k v ≡ (nat_le at k && nat_lt k (at + count) && says (marks_with marks bits) (from + k) v)
word_folded marks bits from at count now word few reads reads_too k v =
    both_same (bit_at now (k - at) == 1) (beq (bit_at word (k - at) == 1) v) (nat_le at k && nat_lt k (at + count))
    (bit marks (from + k)) (beq (bit bits (from + k)) v)
    (λ is. let it = inside_it at count k is in
    let there : from + at + (k - at) ≡ from + k = omega (arith, it.low) in
    reads (k - at) (omega (arith, it.low, it.high, few)) ∙ ap (bit marks) there)
    (λ is. let it = inside_it at count k is in
    let there : from + at + (k - at) ≡ from + k = omega (arith, it.low) in
    ap (λ b. beq b v) (reads_too (k - at) (omega (arith, it.low, it.high, few)) ∙ ap (bit bits) there))

-- ---- word after word

-- n more bits: those further on are the same as at first
pub fold_more : (first old new : ℕ → Bool → Bool) (from at n : ℕ) → at + n ≤ from → (one more : Bool)
    → (one ≡ true → (k : ℕ) (v : Bool) → old k v ≡ (first k v || (nat_lt k at && first (from + k) v)))
    → (more ≡ true → (k : ℕ) (v : Bool) → new k v ≡ (old k v || (nat_le at k && nat_lt k (at + n) && old (from + k) v)))
    → (one && more) ≡ true → (k : ℕ) (v : Bool) → new k v ≡ (first k v || (nat_lt k (at + n) && first (from + k) v))
fold_more first old new from at n apart one more before said both k v =
    let parts = and_parts one more both in
    let past : old (from + k) v ≡ first (from + k) v = grind (arith, nat_tests, before parts.0 (from + k) v) in
    grind (arith, nat_tests, past, before parts.0 k v, said parts.1 k v)

pub fold_none : (first : ℕ → Bool → Bool) (from k : ℕ) (v : Bool)
    → first k v ≡ (first k v || (nat_lt k 0 && first (from + k) v))
fold_none first from k v = grind (arith, nat_tests)

-- ---- turn after turn

-- a selected bit that is one turn further on has the same place
module _ (b : Circular) (rv : ℕ) (m new : Marks) (from count : ℕ) (apart : count ≤ from)
    (again : (k : ℕ) → place_of b rv (k + from) ≡ place_of b rv k)
    (said : (k : ℕ) (v : Bool) → says new k v ≡ (says m k v || (nat_lt k count && says m (from + k) v)))
    (p : ℕ) (v : Bool) where
  abbrev old_says : ℕ → Bool
  old_says = bit_says b rv m.at m.bits p v

  abbrev new_says : ℕ → Bool
  new_says = bit_says b rv new.at new.bits p v

  place_same : (k : ℕ) → place_of b rv (from + k) ≡ place_of b rv k
  place_same k =
      let turned : from + k ≡ k + from = omega arith in
      ap (place_of b rv) turned ∙ again k

  forth : list_any new_says (range_with_len 0 from) ≡ true → list_any old_says (range_with_len 0 (from + count)) ≡ true
  forth any =
      let it = find_it new_says 0 from any in
      let parts = and_parts (place_of b rv it.at == p) (says new it.at v) it.is in
      let told = sym (said it.at v) ∙ parts.1 in
      elim (or_cases (says m it.at v) (nat_lt it.at count && says m (from + it.at) v) told) [
        | inl first ↦ found old_says 0 (from + count) it.at (omega arith) (omega (arith, it.high))
            (and_from (place_of b rv it.at == p) (says m it.at v) parts.0 first)
        | inr later ↦
            let further = and_parts (nat_lt it.at count) (says m (from + it.at) v) later in
            found old_says 0 (from + count) (from + it.at) (omega arith) (omega (arith, ltb-true it.at count further.0))
            (and_from (place_of b rv (from + it.at) == p) (says m (from + it.at) v) (ap (λ q. q == p) (place_same it.at)
            ∙ parts.0) further.1)
      ]

  back : list_any old_says (range_with_len 0 (from + count)) ≡ true → list_any new_says (range_with_len 0 from) ≡ true
  back any =
      let it = find_it old_says 0 (from + count) any in
      let parts = and_parts (place_of b rv it.at == p) (says m it.at v) it.is in
      elim (cases_lt it.at from) [
        | inl low ↦
            let told : says new it.at v ≡ true =
            said it.at v ∙ ap (λ a. a || (nat_lt it.at count && says m (from + it.at) v)) parts.1 in
            found new_says 0 from it.at (omega arith) (omega (arith, low))
            (and_from (place_of b rv it.at == p) (says new it.at v) parts.0 told)
        | inr past ↦
            let k : ℕ = it.at - from in
            let there : from + k ≡ it.at = omega (arith, past) in
            let below : k < count = omega (arith, it.high, there) in
            let further : says m (from + k) v ≡ true = ap (λ n. says m n v) there ∙ parts.1 in
            let told : says new k v ≡ true = grind (arith, nat_tests, said k v, further, lt-ltb k count below) in
            let here : (place_of b rv k == p) ≡ true = ap (λ q. q == p) (sym (place_same k) ∙ ap (place_of b rv) there)
            ∙ parts.0 in
            found new_says 0 from k (omega arith) (omega (arith, below, apart))
            (and_from (place_of b rv k == p) (says new k v) here told)
      ]

  pub folded : list_any new_says (range_with_len 0 from) ≡ list_any old_says (range_with_len 0 (from + count))
  folded = same_from_decides {P = list_any old_says (range_with_len 0 (from + count)) ≡ true} _ _ (forth, back) (λ e. e, λ e. e)

-- two turns
pub turned_twice : (b : Circular) (rv turn : ℕ) → ((k : ℕ) → place_of b rv (k + turn) ≡ place_of b rv k) → (k : ℕ)
    → place_of b rv (k + 2 * turn) ≡ place_of b rv k
turned_twice b rv turn again k =
    let split : k + 2 * turn ≡ k + turn + turn = omega arith in
    ap (place_of b rv) split ∙ again (k + turn) ∙ again k
