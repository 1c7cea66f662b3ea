-- The octets of positions, 64 at a time.
use Rattle.nr_calls.proofs.Common.{inl, length-drop, append_assoc, below_more, get_or-drop, get_or-map, get_or-take, position_octet}
use Rattle.nr_calls.proofs.Common.{inr, ◌-◌, ◌*◌, ◌<◌, ◌++◌, length, get_or, take-add, cases_lt, take_all, first_of}
use Rattle.nr_calls.proofs.Common.{get_or-set_other, get_or-set_same, if◌then◌else◌, Option, length-take-le, set as slice_set}
use Rattle.nr_calls.proofs.Common.{◌≡◌, ◌≢◌, ◌+◌, ◌≤◌, ◌==◌, ◌∙◌, length-map, map-append, HeardBits}
use Rattle.nr_calls.proofs.Common.{ℕ, zero, suc, Bool, Some, None, List, map, take, drop, refl, sym, ap, arith, bit_at, bit}
use Rattle.std.proofs.{Common.min, lemmas.Grind.same_number_lists}
use Rattle.nr_harqbuf.specs.Record.{first_at, is_heard}

-- what a mark and a bit say is what they were made from
first-said : (o : Option Bool) (marked bit : Bool) → marked ≡ is_heard o → ((b : Bool) → o ≡ Some b → bit ≡ b)
    → (if marked then Some bit else None) ≡ o
first-said None marked bit marks bits = rw marks refl
first-said (Some b) marked bit marks bits = rw marks (ap (λ c. Some c) (bits b refl))

-- the words of marks and bits from position 64 i on
module _ (s : HeardBits) (marks bits : List Bool) (i word bit_word : ℕ)
    (marked : (p : ℕ) → bit marks p ≡ is_heard (first_at s p))
    (bits_are : (p : ℕ) (b : Bool) → first_at s p ≡ Some b → bit bits p ≡ b)
    (reads : (j : ℕ) → j < 64 → (bit_at word j == 1) ≡ bit marks (64 * i + j))
    (reads_too : (j : ℕ) → j < 64 → (bit_at bit_word j == 1) ≡ bit bits (64 * i + j)) where
  -- they say the first bit of each position
  pub first-of-is : (j : ℕ) → j < 64 → first_of word bit_word j ≡ first_at s (64 * i + j)
  first-of-is j few =
      first-said (first_at s (64 * i + j)) (bit_at word j == 1) (bit_at bit_word j == 1) (reads j few ∙ marked (64 * i + j))
      (λ b is. reads_too j few ∙ bits_are (64 * i + j) b is)

  -- their octets are those of the positions
  pub octets-are : (octets : List ℕ) (count : ℕ) → count ≤ 64 → 64 * i + count ≤ length s.first → length octets ≡ 64
      → ((k : ℕ) → k < 64 → get_or octets k 0 ≡ position_octet (first_of word bit_word k))
      → take count octets ≡ map position_octet (take count (drop (64 * i) s.first))
  octets-are octets count few within long are =
      let some : length (take count (drop (64 * i) s.first)) ≡ count =
      length-take-le count (drop (64 * i) s.first) (omega (arith, within, length-drop (64 * i) s.first)) in
      same_number_lists (take count octets) (map position_octet (take count (drop (64 * i) s.first)))
      (length-take-le count octets (omega (arith, few, long))
      ∙ sym (length-map (take count (drop (64 * i) s.first)) position_octet ∙ some))
      (λ k h.
      let below : k < count = omega (arith, h, length-take-le count octets (omega (arith, few, long))) in
      get_or-take count octets k 0 below ∙ are k (omega (arith, below, few))
      ∙ ap position_octet (first-of-is k (omega (arith, below, few)))
      ∙ ap position_octet (sym (get_or-take count (drop (64 * i) s.first) k None below ∙ get_or-drop (64 * i) s.first k None))
      ∙ sym (get_or-map position_octet (take count (drop (64 * i) s.first)) k None 0 (omega (arith, below, some))))

  -- with them more positions are written
  pub positions-more : (before after start octets : List ℕ) (count : ℕ)
      → before ≡ start ++ map position_octet (take (64 * i) s.first) → after ≡ before ++ take count octets
      → count ≡ min (length s.first - 64 * i) 64 → 64 * i ≤ length s.first → length octets ≡ 64
      → ((k : ℕ) → k < 64 → get_or octets k 0 ≡ position_octet (first_of word bit_word k))
      → after ≡ start ++ map position_octet (take (64 * (i + 1)) s.first)
  positions-more before after start octets count so_far more is past long are =
      let few : count ≤ 64 = omega (arith, is) in
      let within : 64 * i + count ≤ length s.first = omega (arith, is, past) in
      let same = octets-are octets count few within long are in
      let upto : take (64 * i + count) s.first ≡ take (64 * (i + 1)) s.first = elim (cases_lt (length s.first) (64 * (i + 1))) [
        | inl short ↦ take_all (64 * i + count) s.first (omega (arith, is, short))
            ∙ sym (take_all (64 * (i + 1)) s.first (omega (arith, short)))
        | inr whole ↦ ap (λ n. take n s.first) {x = 64 * i + count} {y = 64 * (i + 1)} (omega (arith, is, whole))
      ] in
      more ∙ ap (λ xs. xs ++ take count octets) so_far
      ∙ append_assoc start (map position_octet (take (64 * i) s.first)) (take count octets)
      ∙ ap (λ xs. start ++ xs) (ap (λ xs. map position_octet (take (64 * i) s.first) ++ xs) same
      ∙ sym (map-append position_octet (take (64 * i) s.first) (take count (drop (64 * i) s.first)))
      ∙ ap (map position_octet) (sym (take-add (64 * i) count s.first) ∙ upto))

-- a position at which nothing was heard, and one at which a bit was
pub place-none : (m b v : ℕ) → v ≡ 2 → m ≡ 0 → v ≡ position_octet (if m == 1 then Some (b == 1) else None)
place-none m b v two none = two ∙ ap (λ n. position_octet (if n == 1 then Some (b == 1) else None)) (sym none)

pub place-one : (m b v : ℕ) → v ≡ b → m ≢ 0 → m < 2 → b < 2
    → v ≡ position_octet (if m == 1 then Some (b == 1) else None)
place-one zero b v is some few small = absurd (some refl)
place-one (suc zero) zero v is some few small = is
place-one (suc zero) (suc zero) v is some few small = is
place-one (suc zero) (suc (suc b)) v is some few small = omega (arith, small)
place-one (suc (suc m)) b v is some few small = omega (arith, few)

-- one more place is written
pub places-more : (f : ℕ → ℕ) (octets : List ℕ) (k v : ℕ) → k < length octets
    → ((j : ℕ) → j < k → get_or octets j 0 ≡ f j)
    → v ≡ f k
    → (j : ℕ) → j < k + 1 → get_or (slice_set octets k v) j 0 ≡ f j
places-more f octets k v within so_far is = below_more _ _
    (λ j lt.
    let other : j ≢ k = omega arith in
    get_or-set_other octets k j v 0 other ∙ so_far j lt)
    (get_or-set_same octets k v 0 within ∙ is)

pub places-left : (f : ℕ → ℕ) (octets : List ℕ) (k v : ℕ)
    → ((j : ℕ) → k ≤ j → j < 64 → get_or octets j 0 ≡ f j)
    → (j : ℕ) → k + 1 ≤ j → j < 64 → get_or (slice_set octets k v) j 0 ≡ f j
places-left f octets k v left j past few =
    let other : j ≢ k = omega (arith, past) in
    get_or-set_other octets k j v 0 other ∙ left j (omega (arith, past)) few
