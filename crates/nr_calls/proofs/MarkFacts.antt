-- A word of octets as marks and bits.
use Rattle.nr_calls.proofs.Common.{◌≡◌, ℕ, zero, suc, get_or, ◌+◌, ◌*◌, ◌<◌, ◌≤◌, ◌==◌, Bool, false}
use Rattle.nr_calls.proofs.Common.{List, ◌++◌, length, length-drop, map, take, drop, refl, sym, ap, ◌∙◌, arith, take-add}
use Rattle.nr_calls.proofs.Common.{nat_tests, take_all, length-map, map-append, get_or-map, length-map-range_with_len, bit_at, bit}
use Rattle.nr_calls.proofs.Common.{low_first, heards, heards_from, place_heard, is_digit, is_one, heard_octet}
use Rattle.std.proofs.lemmas.{List.take-append-drop, List.take-map, List.same_lists, Simd.bit_mask_l}
use Rattle.std.proofs.lemmas.List.FromFn.{take-map-range_with_len, get_or-map-range_with_len}
use Rattle.std.specs.Simd.Lanes.{chunk, mask_l}
use Rattle.nr_bitvec.proofs.{NumberFacts.cond_one, PlaceFacts.same_from_bits}
use Rattle.nr_bitvec.proofs.PackedListFacts.{bit-low_first, length-low_first}

-- the first bits of a mask are what it is made of
pub first-mask : (ms : List Bool) (n : ℕ) → length ms ≡ n → low_first n (mask_l ms) ≡ ms
first-mask ms n long =
    same_from_bits (low_first n (mask_l ms)) ms (length-low_first n (mask_l ms) ∙ sym long)
    (λ t h. bit-low_first n (mask_l ms) t (omega (arith, h, length-low_first n (mask_l ms)))
    ∙ ap (λ m. m == 1) (bit_mask_l ms t) ∙ cond_one (bit ms t))

-- what one more word of octets says
pub word-more : (f : ℕ → Bool) (octets : List ℕ) (before after : List Bool) (i : ℕ)
    → before ≡ map f (take (64 * i) octets)
    → after ≡ before ++ map f (chunk (64 * i) 64 octets)
    → after ≡ map f (take (64 * (i + 1)) octets)
word-more f octets before after i so_far more =
    let next : 64 * i + 64 ≡ 64 * (i + 1) = omega arith in
    more ∙ ap (λ ms. ms ++ map f (chunk (64 * i) 64 octets)) so_far
    ∙ sym (map-append f (take (64 * i) octets) (chunk (64 * i) 64 octets))
    ∙ ap (map f) (sym (take-add (64 * i) 64 octets) ∙ ap (λ n. take n octets) next)

-- what the octets that are left say; a word has the first of them
first-bits : (n word : ℕ) → n ≤ 64 → low_first n word ≡ take n (low_first 64 word)
unfolding low_first
first-bits n word few = sym (take-map-range_with_len (λ j. bit_at word j == 1) 0 64 n few)

pub rest-more : (f : ℕ → Bool) (octets all : List ℕ) (before after : List Bool) (at start m n word : ℕ)
    → before ≡ map f (take at octets) → start ≡ at
    → after ≡ before ++ low_first n word → n ≤ 64 → low_first 64 word ≡ map f all
    → take n all ≡ take m (drop start octets)
    → length octets ≤ start + m
    → after ≡ map f octets
rest-more f octets all before after at start m n word so_far here more few is same enough =
    let whole : take m (drop start octets) ≡ drop start octets =
    take_all m (drop start octets) (omega (arith, length-drop start octets, enough)) in
    let left : low_first n word ≡ map f (drop start octets) = first-bits n word few ∙ ap (take n) is ∙ take-map f n all
    ∙ ap (map f) (same ∙ whole) in
    let first : before ≡ map f (take start octets) = so_far ∙ ap (λ k. map f (take k octets)) (sym here) in
    more ∙ ap (λ ms. ms ++ low_first n word) first ∙ ap (λ ms. map f (take start octets) ++ ms) left
    ∙ sym (map-append f (take start octets) (drop start octets))
    ∙ ap (map f) (take-append-drop start octets)

-- the marks and bits of octets say what the octets say
pub octets-heard : (octets : List ℕ) (marks bits : List Bool) → marks ≡ map is_digit octets → bits ≡ map is_one octets
    → heards marks bits ≡ map heard_octet octets
unfolding heards_from
octets-heard octets marks bits is is_too =
    let long : length marks ≡ length octets = ap length is ∙ length-map octets is_digit in
    same_lists (heards marks bits) (map heard_octet octets)
    (length-map-range_with_len (λ m. place_heard (bit marks m) (bit bits m)) 0 (length marks) ∙ long
    ∙ sym (length-map octets heard_octet))
    (λ m d h.
    let below : m < length marks =
    omega (arith, h, length-map-range_with_len (λ k. place_heard (bit marks k) (bit bits k)) 0 (length marks)) in
    get_or-map-range_with_len (λ k. place_heard (bit marks k) (bit bits k)) 0 (length marks) m m d below (omega arith)
    ∙ ap (λ (ms : List Bool). place_heard (bit ms m) (bit bits m)) is
    ∙ ap (λ (bs : List Bool). place_heard (bit (map is_digit octets) m) (bit bs m)) is_too
    ∙ ap (λ b. place_heard b (bit (map is_one octets) m)) (get_or-map is_digit octets m 0 false (omega (arith, below, long)))
    ∙ ap (place_heard (is_digit (get_or octets m 0))) (get_or-map is_one octets m 0 false (omega (arith, below, long)))
    ∙ one (get_or octets m 0)
    ∙ sym (get_or-map heard_octet octets m 0 d (omega (arith, below, long))))
  where
    one : (o : ℕ) → place_heard (is_digit o) (is_one o) ≡ heard_octet o
    one zero = refl
    one (suc zero) = refl
    one (suc (suc o)) =
        let none : is_digit (suc (suc o)) ≡ false = grind (arith, nat_tests) in
        let other : is_one (suc (suc o)) ≡ false = grind (arith, nat_tests) in
        let nor : (suc (suc o) == 0) ≡ false = grind (arith, nat_tests) in
        rw (none, other, nor)
