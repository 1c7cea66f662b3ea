-- Words that are pushed one after another: of octets, and of a range of other words. Octets that are written word by
-- word.
use Rattle.nr_bitvec.proofs.Common.{nat_tests, ◌≡◌, ℕ, ◌+◌, ◌-◌, ◌*◌, ◌/◌, ◌%◌, ◌^◌, ◌<◌}
use Rattle.nr_bitvec.proofs.Common.{◌≤◌, ◌==◌, inl, inr, if◌then◌else◌, suc, zero, min, Bool, false, List, []}
use Rattle.nr_bitvec.proofs.Common.{◌∷◌, ◌++◌, length, get_or, take, drop, refl, ap, sym, ◌∙◌, arith, length-append}
use Rattle.nr_bitvec.proofs.Common.{length-take, length-drop, get_or-take, get_or-drop, cases_lt, lt-ltb, le-ltb, get_or_past}
use Rattle.nr_bitvec.proofs.Common.{get_or_append_left, get_or-append_right, length_push, same_lists, get_or_default, bit_at}
use Rattle.nr_bitvec.proofs.Common.{to_le_bytes, w64, bit_or, bits_of, octets_of, place, bits_of_words, octet_place, followed}
use Rattle.nr_bitvec.proofs.Common.{IsPacked, Loads, HoldsOctets}
use Rattle.nr_bitvec.proofs.BitFacts.{bit_at_shr, bit_at_mod, place_of, place_past, window-both}
use Rattle.nr_bitvec.proofs.PlaceFacts.{place-push_old, place-push_new, length-unpacked, bit-place}
use Rattle.nr_bitvec.proofs.PackedListFacts.{unpacked-is, bit-within}
use Rattle.nr_bitvec.proofs.OctetListFacts.{length-bits_of, bit-bits_of, number_of-is, octets_of-octet, length-octets_of}
use Rattle.std.specs.Int.{to_be_bytes}

pub loads_more : (G : ℕ → ℕ) (ws next : List ℕ) (i n : ℕ) → Loads G ws i → next ≡ ws ++ n ∷ []
    → ((j : ℕ) → j < 64 → bit_at n j ≡ G (64 * i + j)) → Loads G next (i + 1)
loads_more G ws next i n loads e word = grind (arith, nat_tests, length_push, cases_lt, place-push_old, place-push_new)

-- ---- of octets

-- the places of eight octets among others
pub group-place : (os : List ℕ) (i n j : ℕ) → min (length os - 8 * i) 8 ≤ n → j < 64
    → octet_place (take n (drop (8 * i) os)) j ≡ octet_place os (64 * i + j)
group-place os i n j e h = grind (arith, nat_tests, cases_lt, get_or-take, get_or-drop, get_or_past, length-take)

pub octets-items : (os ws : List ℕ) (i : ℕ) → i ≡ length os / 8 + min 1 (length os % 8) → Loads (octet_place os) ws i
    → bits_of_words (8 * length os) ws ≡ bits_of os
octets-items os ws i e loads =
    unpacked-is (8 * length os) ws (bits_of os) (length-bits_of os)
    (λ t h. ap (λ k. k == 1) (loads.places t (omega (arith, e, h))) ∙ sym (bit-bits_of os t))

-- ---- of other words

followed-old : (ws vs : List ℕ) (at t : ℕ) → t < 64 * length ws → followed ws vs at t ≡ place ws t
followed-old ws vs at t h = ap (λ b. if b then place ws t else place vs (at + (t - 64 * length ws))) (lt-ltb t (64 * length ws) h)

followed-new : (ws vs : List ℕ) (at t : ℕ) → 64 * length ws ≤ t
    → followed ws vs at t ≡ place vs (at + (t - 64 * length ws))
followed-new ws vs at t h = ap (λ b. if b then place ws t else place vs (at + (t - 64 * length ws))) (le-ltb t (64 * length ws) h)

pub follows_none : (ws vs : List ℕ) (at : ℕ) → Loads (followed ws vs at) ws (length ws + 0)
follows_none ws vs at = record { long = omega arith; places = λ t h. sym (followed-old ws vs at t (omega (arith, h))) }

-- one more word, with the next places
pub follows_more : (ws vs so_far next : List ℕ) (at i n : ℕ) → Loads (followed ws vs at) so_far (length ws + i)
    → next ≡ so_far ++ n ∷ [] → ((j : ℕ) → j < 64 → bit_at n j ≡ place vs (at + (64 * i + j)))
    → Loads (followed ws vs at) next (length ws + (i + 1))
follows_more ws vs so_far next at i n loads e word =
    let k : length ws + i + 1 ≡ length ws + (i + 1) = omega arith in
    rw k at (loads_more (followed ws vs at) so_far next (length ws + i) n loads e
    (λ j h.
    let m : at + (64 * i + j) ≡ at + (64 * (length ws + i) + j - 64 * length ws) = omega arith in
    word j h ∙ ap (place vs) m ∙ sym (followed-new ws vs at (64 * (length ws + i) + j) (omega arith))))

-- a word as it is, and one made of two that are moved
pub whole-word : (vs : List ℕ) (w turn i j : ℕ) → turn ≡ 0 → j < 64
    → bit_at (get_or vs (w + i) 0) j ≡ place vs (64 * w + turn + (64 * i + j))
whole-word vs w turn i j none h = sym (place_of vs (64 * w + turn + (64 * i + j)) (w + i) j (omega (arith, none)) h)

pub turned-word : (vs : List ℕ) (w turn i j : ℕ) → get_or vs (w + i) 0 < 2 ^ 64 → turn < 64 → 0 < turn → j < 64
    → bit_at (bit_or (get_or vs (w + i) 0 / 2 ^ turn) (get_or vs (w + i + 1) 0 * 2 ^ (64 - turn) % 2 ^ 64)) j
    ≡ place vs (64 * w + turn + (64 * i + j))
turned-word vs w turn i j fits short some h = grind (arith, window-both)

-- the list of n bits that fill their words, and of the bits that follow
pub filled-packed : (n count : ℕ) (ws new : List ℕ) (G : ℕ → ℕ) → n ≡ 64 * length ws → n + 64 * count ≤ 2 ^ 24
    → Loads G new (length ws + count) → IsPacked (n + 64 * count) new
filled-packed n count ws new G filled short loads = grind (arith, place_past)

pub filled-items : (n m p at count : ℕ) (ws vs new : List ℕ) → n ≡ 64 * length ws → p ≡ at → at + 64 * count ≤ m
    → Loads (followed ws vs p) new (length ws + count)
    → bits_of_words (n + 64 * count) new ≡ bits_of_words n ws ++ take (64 * count) (drop at (bits_of_words m vs))
filled-items n m p at count ws vs new filled here inside loads =
    let more : List Bool = take (64 * count) (drop at (bits_of_words m vs)) in
    unpacked-is (n + 64 * count) new (bits_of_words n ws ++ more)
    (length-append (bits_of_words n ws) more ∙ omega (
      arith,
      length-unpacked n ws,
      length-take (64 * count) (drop at (bits_of_words m vs)),
      length-drop at (bits_of_words m vs),
      length-unpacked m vs,
      inside,
    ))
    (λ t h. ap (λ k. k == 1) (loads.places t (omega (arith, h, filled))) ∙ elim (cases_lt t n) [
      | inl old ↦ ap (λ k. k == 1) (followed-old ws vs p t (omega (arith, old, filled))) ∙ sym (bit-within n ws t old)
          ∙ sym (get_or_append_left (bits_of_words n ws) more false t (omega (arith, old, length-unpacked n ws)))
      | inr new ↦
          let k : p + (t - 64 * length ws) ≡ at + (t - n) = omega (arith, filled, here) in
          ap (λ q. q == 1) (followed-new ws vs p t (omega (arith, new, filled)) ∙ ap (place vs) k)
          ∙ sym (bit-within m vs (at + (t - n)) (omega (arith, h, new, inside)))
          ∙ sym (get_or-append_right (bits_of_words n ws) more n t false (length-unpacked n ws) new
          ∙ get_or-take (64 * count) (drop at (bits_of_words m vs)) (t - n) false (omega (arith, h, new))
          ∙ get_or-drop at (bits_of_words m vs) (t - n) false)
    ])

-- ---- octets of words

pub writes_none : (ws os : List ℕ) → os ≡ [] → HoldsOctets ws os 0
writes_none ws os e = grind arith

-- an octet of a word
pub le-octet : (n k : ℕ) → k < 8 → get_or (to_le_bytes w64 n) k 0 ≡ n / 2 ^ (8 * k) % 2 ^ 8
le-octet n zero h = omega arith
le-octet n (suc zero) h = refl
le-octet n (suc (suc zero)) h = refl
le-octet n (suc (suc (suc zero))) h = refl
le-octet n (suc (suc (suc (suc zero)))) h = refl
le-octet n (suc (suc (suc (suc (suc zero))))) h = refl
le-octet n (suc (suc (suc (suc (suc (suc zero)))))) h = refl
le-octet n (suc (suc (suc (suc (suc (suc (suc zero))))))) h = refl
le-octet n (suc (suc (suc (suc (suc (suc (suc (suc k)))))))) h = absurd (omega (arith, h))

-- octet k from the highest on
pub be-octet : (n k : ℕ) → k < 8 → get_or (to_be_bytes w64 n) k 0 ≡ n / 2 ^ (8 * (7 - k)) % 2 ^ 8
be-octet n zero h = refl
be-octet n (suc zero) h = refl
be-octet n (suc (suc zero)) h = refl
be-octet n (suc (suc (suc zero))) h = refl
be-octet n (suc (suc (suc (suc zero)))) h = refl
be-octet n (suc (suc (suc (suc (suc zero))))) h = refl
be-octet n (suc (suc (suc (suc (suc (suc zero)))))) h = refl
be-octet n (suc (suc (suc (suc (suc (suc (suc zero))))))) h = omega arith
be-octet n (suc (suc (suc (suc (suc (suc (suc (suc k)))))))) h = absurd (omega (arith, h))

-- bit j of a word is a bit of one of its octets
pub octet-bit : (n k j : ℕ) → j < 8 → bit_at (n / 2 ^ (8 * k) % 2 ^ 8) j ≡ bit_at n (8 * k + j)
octet-bit n k j h = bit_at_mod (n / 2 ^ (8 * k)) 8 j h ∙ bit_at_shr n (8 * k) j

pub small-octet : (n k : ℕ) → get_or (to_le_bytes w64 n) k 0 < 2 ^ 8
small-octet n k =
    elim (cases_lt k 8) [
      | inl within ↦ omega (arith, le-octet n k within)
      | inr past ↦ let none : get_or (to_le_bytes w64 n) k 0 ≡ 0 = get_or_past (to_le_bytes w64 n) k 0 past in
          omega (arith, none)
    ]

-- the places of a word, among the octets of the reversed word
written-place : (w n k s : ℕ) → k < 8 → s < 8
    → ((j : ℕ) → j < 64 → bit_at n j ≡ bit_at w (8 * (j / 8) + (7 - j % 8)))
    → bit_at (get_or (to_le_bytes w64 n) k 0) (7 - s) ≡ bit_at w (8 * k + s)
written-place w n k s h g turns =
    let e : 8 * ((8 * k + (7 - s)) / 8) + (7 - (8 * k + (7 - s)) % 8) ≡ 8 * k + s = omega (arith, g) in
    ap (λ o. bit_at o (7 - s)) (le-octet n k h) ∙ bit_at_mod (n / 2 ^ (8 * k)) 8 (7 - s) (omega arith)
    ∙ bit_at_shr n (8 * k) (7 - s) ∙ turns (8 * k + (7 - s)) (omega (arith, h)) ∙ ap (bit_at w) e

pub writes_more : (ws os next : List ℕ) (i w n : ℕ) → HoldsOctets ws os i → w ≡ get_or ws i 0
    → ((j : ℕ) → j < 64 → bit_at n j ≡ bit_at w (8 * (j / 8) + (7 - j % 8))) → next ≡ os ++ to_le_bytes w64 n
    → HoldsOctets ws next (i + 1)
writes_more ws os next i w n writes read turns e =
    let long : length (to_le_bytes w64 n) ≡ 8 = refl in
    record {
      long = ap length e ∙ length-append os (to_le_bytes w64 n) ∙ omega (arith, writes.long, long);
      places = λ t h. ap (λ vs. octet_place vs t) e ∙ elim (cases_lt t (64 * i)) [
        | inl old ↦ ap (λ k. bit_at k (7 - t % 8))
            (get_or_append_left os (to_le_bytes w64 n) 0 (t / 8) (omega (arith, old, writes.long))) ∙ writes.places t old
        | inr new ↦
            let s : 8 * (t / 8 - 8 * i) + t % 8 ≡ t - 64 * i = omega (arith, new) in
            ap (λ k. bit_at k (7 - t % 8))
            (get_or-append_right os (to_le_bytes w64 n) (8 * i) (t / 8) 0 writes.long (omega (arith, new)))
            ∙ written-place w n (t / 8 - 8 * i) (t % 8) (omega (arith, h, new)) (omega arith) turns
            ∙ ap (bit_at w) s ∙ ap (λ k. bit_at k (t - 64 * i)) read
            ∙ sym (place_of ws t i (t - 64 * i) (omega (arith, new)) (omega (arith, h, new)))
      ];
      small = λ k. let e2 : get_or next k 0 ≡ get_or (os ++ to_le_bytes w64 n) k 0 = ap (λ (xs : List ℕ). get_or xs k 0) e in
          elim (cases_lt k (8 * i)) [
            | inl old ↦
                omega (arith, e2, writes.small k, get_or_append_left os (to_le_bytes w64 n) 0 k (omega (arith, old, writes.long)))
            | inr new ↦
                omega (arith, e2, small-octet n (k - 8 * i), get_or-append_right os (to_le_bytes w64 n) (8 * i) k 0 writes.long new)
          ];
    }

-- as many of them as the list needs are its octets
pub writes_all : (n : ℕ) (ws os : List ℕ) (i count : ℕ) → IsPacked n ws → HoldsOctets ws os i → length ws ≤ i
    → count ≡ n / 8 + min 1 (n % 8) → take count os ≡ octets_of (bits_of_words n ws)
writes_all n ws os i count packed writes all e =
    let long : length (take count os) ≡ count = omega (arith, length-take count os, e, writes.long, all, packed.below) in
    let same : (k : ℕ) → k < count → get_or os k 0 ≡ get_or (octets_of (bits_of_words n ws)) k 0 = λ k h.
    number_of-is (get_or os k 0) (drop (8 * k) (bits_of_words n ws)) (writes.small k)
    (λ j b.
    let q : k ≡ (8 * k + (7 - j)) / 8 = omega (arith, b) in
    let r : j ≡ 7 - (8 * k + (7 - j)) % 8 = omega (arith, b) in
    let here : bit_at (get_or os k 0) j ≡ octet_place os (8 * k + (7 - j)) =
    ap (λ m. bit_at (get_or os m 0) j) q ∙ ap (bit_at (get_or os ((8 * k + (7 - j)) / 8) 0)) r in
    ap (λ m. m == 1) (here ∙ writes.places (8 * k + (7 - j)) (omega (arith, b, h, e, all, packed.below)))
    ∙ sym (bit-place n ws (8 * k + (7 - j)) packed.clear) ∙ sym (get_or-drop (8 * k) (bits_of_words n ws) (7 - j) false))
    ∙ sym (octets_of-octet k (bits_of_words n ws) (omega (arith, h, e, length-unpacked n ws))) in
    same_lists (take count os) (octets_of (bits_of_words n ws))
    (long ∙ omega (arith, e, length-octets_of (bits_of_words n ws), length-unpacked n ws))
    (λ k d h. get_or_default (take count os) k d 0 h ∙ get_or-take count os k 0 (omega (arith, h, long))
    ∙ same k (omega (arith, h, long))
    ∙ get_or_default (octets_of (bits_of_words n ws)) k 0 d
    (omega (arith, h, long, e, length-octets_of (bits_of_words n ws), length-unpacked n ws)))
