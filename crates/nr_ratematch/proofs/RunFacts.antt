-- Runs of a buffer's places: which positions they are, and that the bits there are those selected.
use Rattle.nr_ratematch.proofs.Common.{◌≡◌, ℕ, ◌+◌, ◌-◌, ◌*◌, ◌%◌, ◌<◌, ◌≤◌, ◌==◌, refl, inl}
use Rattle.nr_ratematch.proofs.Common.{length-append, length-drop, get_or-take, get_or-drop, range_with_len, mod-eq_of_lt, bit_at}
use Rattle.nr_ratematch.proofs.Common.{cases_lt, append-nil, get_or_append_left, get_or-append_right, length-map-range_with_len}
use Rattle.nr_ratematch.proofs.Common.{get_or-map-range_with_len, cols_of, index_of, Circular, IsSent, place_of, selection_of}
use Rattle.nr_ratematch.proofs.Common.{inr, Bool, false, List, ◌++◌, length, map, take, drop, sym, ap, ◌∙◌, arith}
use Rattle.nr_ratematch.specs.{inside.Places.GivesPlaces, declared.cycle.BufferCycle.BufferCycle}
use Rattle.std.proofs.{Common.length-take, Math.Nat.add-mod-mod, Math.Nat.add-mul-mod_self_left, Math.Nat.mod-add-mod}
use Rattle.std.proofs.lemmas.List.{append_assoc}
use Rattle.nr_bitvec.{specs.BitList.low_first, proofs.PackedListFacts.bit-low_first, proofs.PackedListFacts.length-low_first}
use Rattle.nr_bitvec.{specs.Bit.bit, proofs.PlaceFacts.same_from_bits}

-- n places further round
pub turned-more : (first k n count : ℕ) → (first + (k + n) % count) % count ≡ ((first + k % count) % count + n) % count
turned-more first k n count =
    let split : first + (k + n) ≡ first + n + k = omega arith in
    let joined : first + n + k % count ≡ first + k % count + n = omega arith in
    add-mod-mod first (k + n) count ∙ ap (λ m. m % count) split ∙ sym (add-mod-mod (first + n) k count)
    ∙ ap (λ m. m % count) joined ∙ sym (mod-add-mod (first + k % count) count n)

-- the place after a run
pub turned-next : (first k n count at next : ℕ) → at ≡ (first + k % count) % count → next ≡ (at + n) % count
    → next ≡ (first + (k + n) % count) % count
turned-next first k n count at next here after = grind (arith, turned-more)

-- no bit is selected yet
pub selected-none : (b : Circular) (word old : List Bool) (rv : ℕ) → old ≡ old ++ selection_of b word rv 0
unfolding selection_of
selected-none b word old rv = sym (append-nil old)

-- a bit that is whole turns later has the same place
pub same-place : (cycle : BufferCycle) (b : Circular) (rv k m : ℕ) → GivesPlaces cycle b rv
    → k % cycle.count ≡ m % cycle.count → place_of b rv k ≡ place_of b rv m
same-place cycle b rv k m gives same = sym (gives k)
    ∙ ap (λ n. index_of cycle.front cycle.skip ((cycle.first + n) % cycle.count) + cycle.punctured) same ∙ gives m

-- n bits from bit k on are selected from consecutive positions of a word
pub record IsRun (b : Circular) (word : List Bool) (rv k n position : ℕ) : Type 0 where
  pub places : (j : ℕ) → j < n → place_of b rv (k + j) ≡ position + j
  pub inside : position + n ≤ length word

-- the positions of a cycle's places
pub run-places : (cycle : BufferCycle) (b : Circular) (rv at k n position : ℕ) → GivesPlaces cycle b rv
    → at ≡ (cycle.first + k % cycle.count) % cycle.count → at + n ≤ cycle.count
    → ((j : ℕ) → j < n → index_of cycle.front cycle.skip (at + j) + cycle.punctured ≡ position + j) → (j : ℕ)
    → j < n → place_of b rv (k + j) ≡ position + j
run-places cycle b rv at k n position gives here inside places j below =
    let turned : (cycle.first + (k + j) % cycle.count) % cycle.count ≡ at + j =
    turned-more cycle.first k j cycle.count ∙ ap (λ m. (m + j) % cycle.count) (sym here)
    ∙ mod-eq_of_lt (omega (arith, inside, below)) in
    sym (gives (k + j)) ∙ ap (λ i. index_of cycle.front cycle.skip i + cycle.punctured) turned ∙ places j below

-- they are positions of the codeword
pub run-inside : (b : Circular) (rv k n position long : ℕ) → 0 < n → ((m : ℕ) → IsSent b (place_of b rv m))
    → long ≡ cols_of b.graph * b.z
    → ((j : ℕ) → j < n → place_of b rv (k + j) ≡ position + j) → position + n ≤ long
run-inside b rv k n position long some sent e places = grind arith

-- a cycle's run, or the first part of one
pub run-is : (cycle : BufferCycle) (b : Circular) (word : List Bool) (rv at k most n position : ℕ) → 0 < n → n ≤ most
    → GivesPlaces cycle b rv → ((m : ℕ) → IsSent b (place_of b rv m))
    → length word ≡ cols_of b.graph * b.z → at ≡ (cycle.first + k % cycle.count) % cycle.count → at + most ≤ cycle.count
    → ((j : ℕ) → j < most → index_of cycle.front cycle.skip (at + j) + cycle.punctured ≡ position + j)
    → IsRun b word rv k n position
run-is cycle b word rv at k most n position some few gives sent long here inside places =
    let same : (j : ℕ) → j < n → place_of b rv (k + j) ≡ position + j =
    run-places cycle b rv at k n position gives here (omega (arith, few, inside))
    (λ j below. places j (omega (arith, few, below))) in
    record { places = same; inside = run-inside b rv k n position (length word) some sent long same }

-- the bits of a run are those at its positions
selected-run : (b : Circular) (word : List Bool) (rv k n position : ℕ) → IsRun b word rv k n position
    → selection_of b word rv (k + n) ≡ selection_of b word rv k ++ take n (drop position word)
unfolding selection_of
selected-run b word rv k n position run =
    let inside = run.inside in
    let at : ℕ → Bool = λ i. bit word (place_of b rv i) in
    let before : List Bool = map at (range_with_len 0 k) in
    let part : List Bool = take n (drop position word) in
    let long : length (map at (range_with_len 0 (k + n))) ≡ k + n = length-map-range_with_len at 0 (k + n) in
    let before_long : length (map at (range_with_len 0 k)) ≡ k = length-map-range_with_len at 0 k in
    same_from_bits (map at (range_with_len 0 (k + n))) (before ++ part)
    (omega (
      arith,
      long,
      before_long,
      length-append before part,
      length-take n (drop position word),
      length-drop position word,
      inside,
    ))
    (λ i h.
    let below : i < k + n = omega (arith, h, long) in
    get_or-map-range_with_len at 0 (k + n) i i false below (omega arith) ∙ elim (cases_lt i k) [
      | inl low ↦ sym (get_or_append_left before part false i (omega (arith, low, before_long))
          ∙ get_or-map-range_with_len at 0 k i i false low (omega arith))
      | inr high ↦
          let e : k + (i - k) ≡ i = omega (arith, high) in
          ap at (sym e) ∙ ap (bit word) (run.places (i - k) (omega (arith, high, below)))
          ∙ sym (get_or-append_right before part k i false before_long high
          ∙ get_or-take n (drop position word) (i - k) false (omega (arith, high, below))
          ∙ get_or-drop position word (i - k) false)
    ])

-- one more run
pub run_more : (b : Circular) (word old items new : List Bool) (rv k n position : ℕ) → items ≡ old ++ selection_of b word rv k
    → new ≡ items ++ take n (drop position word)
    → IsRun b word rv k n position → new ≡ old ++ selection_of b word rv (k + n)
run_more b word old items new rv k n position taken put run = grind (arith, append_assoc, selected-run)

-- the bits that are selected
pub length-selection_of : (b : Circular) (word : List Bool) (rv m : ℕ) → length (selection_of b word rv m) ≡ m
unfolding selection_of
length-selection_of b word rv m = length-map-range_with_len (λ k. bit word (place_of b rv k)) 0 m

pub bit-selection_of : (b : Circular) (word : List Bool) (rv m k : ℕ) → k < m
    → bit (selection_of b word rv m) k ≡ bit word (place_of b rv k)
unfolding selection_of
bit-selection_of b word rv m k below =
    get_or-map-range_with_len (λ k. bit word (place_of b rv k)) 0 m k k false below (omega arith)

-- n more bits are those that are whole turns before them
module _ (cycle : BufferCycle) (b : Circular) (word old items : List Bool) (rv k n turns again : ℕ)
    (gives : GivesPlaces cycle b rv) (few : n ≤ 64) (long : 64 ≤ cycle.count * turns) (so_far : cycle.count * turns ≤ k)
    (taken : items ≡ old ++ selection_of b word rv k)
    (reads : (j : ℕ) → j < 64 → (bit_at again j == 1) ≡ bit items (length old + (k - cycle.count * turns) + j)) where
  abbrev at : ℕ → Bool
  at i = bit word (place_of b rv i)

  -- the bit that is whole turns before
  before : (j : ℕ) → j < n → (bit_at again j == 1) ≡ at (k + j)
  before j below =
      let i : ℕ = k - cycle.count * turns + j in
      let inside : i < k = omega (arith, below, few, long, so_far) in
      let there : length old + (k - cycle.count * turns) + j ≡ length old + i = omega arith in
      let further : i + cycle.count * turns ≡ k + j = omega (arith, so_far) in
      let here : length old + i - length old ≡ i = omega arith in
      reads j (omega (arith, below, few)) ∙ ap (bit items) there ∙ ap (λ xs. bit xs (length old + i)) taken
      ∙ get_or-append_right old (selection_of b word rv k) (length old) (length old + i) false refl (omega arith)
      ∙ ap (bit (selection_of b word rv k)) here ∙ bit-selection_of b word rv k i inside
      ∙ ap (bit word) (same-place cycle b rv i (k + j) gives (sym (add-mul-mod_self_left i cycle.count turns)
      ∙ ap (λ m. m % cycle.count) further))

  turn_more : selection_of b word rv (k + n) ≡ selection_of b word rv k ++ low_first n again
  turn_more =
      let more : List Bool = low_first n again in
      same_from_bits (selection_of b word rv (k + n)) (selection_of b word rv k ++ more)
      (omega (
        arith,
        length-selection_of b word rv (k + n),
        length-selection_of b word rv k,
        length-append (selection_of b word rv k) more,
        length-low_first n again,
      ))
      (λ i h.
      let below : i < k + n = omega (arith, h, length-selection_of b word rv (k + n)) in
      bit-selection_of b word rv (k + n) i below ∙ elim (cases_lt i k) [
        | inl low ↦
            let front : i < length (selection_of b word rv k) = omega (arith, low, length-selection_of b word rv k) in
            sym (get_or_append_left (selection_of b word rv k) more false i front
            ∙ bit-selection_of b word rv k i low)
        | inr high ↦
            let e : k + (i - k) ≡ i = omega (arith, high) in
            let part : i - k < n = omega (arith, high, below) in
            sym (get_or-append_right (selection_of b word rv k) more k i false (length-selection_of b word rv k) high
            ∙ bit-low_first n again (i - k) part ∙ before (i - k) part ∙ ap at e)
      ])

  pub turns_more : (new : List Bool) → new ≡ items ++ low_first n again → new ≡ old ++ selection_of b word rv (k + n)
  turns_more new put = put ∙ ap (λ xs. xs ++ low_first n again) taken
      ∙ append_assoc old (selection_of b word rv k) (low_first n again) ∙ ap (λ xs. old ++ xs) (sym turn_more)
