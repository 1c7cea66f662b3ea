-- Words whose octets are reversed, and words of octets.
use Rattle.nr_bitvec.proofs.Common.{nat_tests, ◌+◌, length-drop, get_or_past, bit_at_and, to_le_bytes, moved_place, octet_place}
use Rattle.nr_bitvec.proofs.Common.{◌≡◌, ◌≤◌, ◌==◌, ◌&&◌, ◌||◌, replicate, ◌∙◌, bit_at-lt, bit_at_or}
use Rattle.nr_bitvec.proofs.Common.{◌-◌, ◌*◌, ◌/◌, ◌%◌, ◌^◌, ◌<◌, ◌++◌, ap, cases_lt, eqb-true, bit_and}
use Rattle.nr_bitvec.proofs.Common.{if◌then◌else◌, false, get_or-drop, length-append, get_or_append_left, get_or-append_right}
use Rattle.nr_bitvec.proofs.Common.{ℕ, Bool, true, min, max, List, length, get_or, drop, refl, sym, arith, bit_at, w64, bit_or}
use Rattle.nr_bitvec.proofs.{BitFacts.bit_at_shr, AddedBitFacts.moved_below, AddedBitFacts.moved_from, AddedBitFacts.moved_up}
use Rattle.nr_bitvec.proofs.PushedWordFacts.{be-octet, le-octet, octet-bit, small-octet}
use Rattle.nr_bitvec.proofs.ListFacts.{get_or-replicate_same}
use Rattle.std.proofs.{Common.nat_lt, Common.nat_le, lemmas.Nat.be_bytes_8, lemmas.Nat.le_bytes_8}
use Rattle.std.proofs.lemmas.Bool.{and_parts, or_cases, ltb-true, leb-true, agree_below, agree_below_at}
use Rattle.std.specs.Int.{from_le_bytes, swap_bytes}

-- ---- runs of places, swapped

-- a word whose masked places and those `by` above them are swapped
pub swapped-place : (w m by j : ℕ) → by < 64 → j < 64
    → bit_at (bit_or (bit_and (w / 2 ^ by) m) (bit_and w m * 2 ^ by % 2 ^ 64)) j
    ≡ max (min (bit_at w (by + j)) (bit_at m j)) (moved_place by (bit_and w m) j)
swapped-place w m by j h b =
    let down : bit_at (bit_and (w / 2 ^ by) m) j ≡ min (bit_at w (by + j)) (bit_at m j) =
    bit_at_and (w / 2 ^ by) m j ∙ ap (λ k. min k (bit_at m j)) (bit_at_shr w by j) in
    let up : bit_at (bit_and w m * 2 ^ by % 2 ^ 64) j ≡ moved_place by (bit_and w m) j =
    moved_up (bit_and w m) by 0 by j j (omega arith) h (omega arith) b in
    bit_at_or (bit_and (w / 2 ^ by) m) (bit_and w m * 2 ^ by % 2 ^ 64) j
    ∙ ap (λ k. max k (bit_at (bit_and w m * 2 ^ by % 2 ^ 64) j)) down
    ∙ ap (λ k. max (min (bit_at w (by + j)) (bit_at m j)) k) up

-- the place that place j is swapped with, in runs of `by` places
abbrev pub partner : ℕ → ℕ → ℕ
partner by j = if j / by % 2 == 0 then by + j else j - by

-- what a mask must have at place j, if the place is swapped with one above it or with one below it
abbrev upper : ℕ → ℕ → ℕ → Bool
upper by m j = bit_at m j == 1 && (nat_lt j by || bit_at m (j - by) == 0)

abbrev lower : ℕ → ℕ → ℕ → Bool
lower by m j = bit_at m j == 0 && (nat_le by j && bit_at m (j - by) == 1)

abbrev masks : ℕ → ℕ → ℕ → Bool
masks by m j = if j / by % 2 == 0 then upper by m j else lower by m j

-- nothing is moved up to a place above one that the mask does not have
moved-masked : (w m by j : ℕ) → bit_at m (j - by) ≡ 0 → moved_place by (bit_and w m) j ≡ 0
moved-masked w m by j e = grind (arith, nat_tests, cases_lt, moved_below, moved_from, bit_at_and, bit_at-lt)

swapped-partner_at : (b : Bool) (by m w r j : ℕ) → (if b then upper by m j else lower by m j) ≡ true
    → bit_at r j ≡ max (min (bit_at w (by + j)) (bit_at m j)) (moved_place by (bit_and w m) j)
    → bit_at r j ≡ bit_at w (if b then by + j else j - by)
swapped-partner_at true by m w r j g h =
    grind (arith, nat_tests, and_parts, eqb-true, or_cases, moved_below, ltb-true, moved-masked, bit_at-lt)
swapped-partner_at false by m w r j g h = grind (arith, nat_tests, and_parts, eqb-true, moved_from, leb-true, bit_at_and, bit_at-lt)

swapped-partner : (by m w r : ℕ) → agree_below (masks by m) (λ _. true) 64 ≡ true
    → ((j : ℕ) → j < 64 → bit_at r j ≡ max (min (bit_at w (by + j)) (bit_at m j)) (moved_place by (bit_and w m) j))
    → (j : ℕ) → j < 64 → bit_at r j ≡ bit_at w (partner by j)
swapped-partner by m w r all swaps j h =
    swapped-partner_at (j / by % 2 == 0) by m w r j (agree_below_at (masks by m) (λ _. true) 64 j all h) (swaps j h)

-- three swaps reverse an octet
abbrev whole : ℕ → Bool
whole j = nat_lt (partner 4 j) 64
    && (nat_lt (partner 2 (partner 4 j)) 64 && partner 1 (partner 2 (partner 4 j)) == 8 * (j / 8) + (7 - j % 8))

pub turned-place : (w p f r : ℕ)
    → ((j : ℕ) → j < 64
    → bit_at p j ≡ max (min (bit_at w (1 + j)) (bit_at 0x5555555555555555 j)) (moved_place 1 (bit_and w 0x5555555555555555) j))
    → ((j : ℕ) → j < 64
    → bit_at f j ≡ max (min (bit_at p (2 + j)) (bit_at 0x3333333333333333 j)) (moved_place 2 (bit_and p 0x3333333333333333) j))
    → ((j : ℕ) → j < 64
    → bit_at r j ≡ max (min (bit_at f (4 + j)) (bit_at 0x0f0f0f0f0f0f0f0f j)) (moved_place 4 (bit_and f 0x0f0f0f0f0f0f0f0f) j))
    → (j : ℕ) → j < 64 → bit_at r j ≡ bit_at w (8 * (j / 8) + (7 - j % 8))
turned-place w p f r pairs fours eights j h =
    let all : whole j ≡ true = agree_below_at whole (λ _. true) 64 j refl h in
    let first : (nat_lt (partner 4 j) 64) ≡ true
    × (nat_lt (partner 2 (partner 4 j)) 64 && partner 1 (partner 2 (partner 4 j)) == 8 * (j / 8) + (7 - j % 8)) ≡ true =
    and_parts (nat_lt (partner 4 j) 64)
    (nat_lt (partner 2 (partner 4 j)) 64 && partner 1 (partner 2 (partner 4 j)) == 8 * (j / 8) + (7 - j % 8)) all in
    let rest : (nat_lt (partner 2 (partner 4 j)) 64) ≡ true × (partner 1 (partner 2 (partner 4 j)) == 8 * (j / 8) + (7 - j % 8))
    ≡ true = and_parts (nat_lt (partner 2 (partner 4 j)) 64)
    (partner 1 (partner 2 (partner 4 j)) == 8 * (j / 8) + (7 - j % 8)) first.1 in
    swapped-partner 4 0x0f0f0f0f0f0f0f0f f r refl eights j h
    ∙ swapped-partner 2 0x3333333333333333 p f refl fours (partner 4 j) (ltb-true (partner 4 j) 64 first.0)
    ∙ swapped-partner 1 0x5555555555555555 w p refl pairs (partner 2 (partner 4 j)) (ltb-true (partner 2 (partner 4 j)) 64 rest.0)
    ∙ ap (bit_at w) (eqb-true (partner 1 (partner 2 (partner 4 j))) (8 * (j / 8) + (7 - j % 8)) rest.1)

-- ---- octets in the other order, each of them reversed

pub reversed-place : (w o r : ℕ) → o ≡ swap_bytes w64 w
    → ((j : ℕ) → j < 64 → bit_at r j ≡ bit_at o (8 * (j / 8) + (7 - j % 8))) → (j : ℕ) → j < 64
    → bit_at r j ≡ bit_at w (63 - j)
reversed-place w o r swaps turns j h =
    let k = 7 - j / 8 in
    let low : 7 - j % 8 < 8 = omega arith in
    let small : (i : ℕ) → get_or (to_le_bytes w64 w) i 0 < 256 = small-octet w in
    let octet : o / 2 ^ (8 * (7 - k)) % 2 ^ 8 ≡ w / 2 ^ (8 * k) % 2 ^ 8 =
    sym (be-octet o k (omega arith)) ∙ ap (λ os. get_or os k 0) (be_bytes_8 (to_le_bytes w64 w) o refl small swaps)
    ∙ le-octet w k (omega arith) in
    let here : 8 * (j / 8) + (7 - j % 8) ≡ 8 * (7 - k) + (7 - j % 8) = omega (arith, h) in
    let there : 8 * k + (7 - j % 8) ≡ 63 - j = omega (arith, h) in
    turns j h ∙ ap (bit_at o) here ∙ sym (octet-bit o (7 - k) (7 - j % 8) low) ∙ ap (λ b. bit_at b (7 - j % 8)) octet
    ∙ octet-bit w k (7 - j % 8) low ∙ ap (bit_at w) there

-- ---- a word of octets

-- octets that are copied, with zeros after them
module _ (group part : List ℕ) (copied : part ≡ group) (few : length group ≤ 8) where
  abbrev zeros_behind : List ℕ
  zeros_behind = drop (length group) (replicate 8 0)

  pub filled-octet : (k : ℕ) → get_or (part ++ zeros_behind) k 0 ≡ get_or group k 0
  filled-octet k =
      grind (arith, nat_tests, cases_lt, get_or_append_left, get_or-append_right, get_or-drop, get_or-replicate_same, get_or_past)

  pub filled-long : length (part ++ zeros_behind) ≡ 8
  filled-long = length-append part zeros_behind
      ∙ omega (arith, few, ap length copied, length-drop (length group) (replicate {A = ℕ} 8 0))

-- the word made of them and reversed has their places
pub octets-place : (group eight : List ℕ) (word r : ℕ) → length eight ≡ 8
    → ((k : ℕ) → get_or eight k 0 ≡ get_or group k 0) → ((i : ℕ) → get_or group i 0 < 256) → word < 2 ^ 64
    → word ≡ from_le_bytes w64 eight
    → ((j : ℕ) → j < 64 → bit_at r j ≡ bit_at word (8 * (j / 8) + (7 - j % 8))) → (j : ℕ) → j < 64
    → bit_at r j ≡ octet_place group j
octets-place group eight word r long same small fits read turns j h =
    turns j h ∙ sym (octet-bit word (j / 8) (7 - j % 8) (omega arith))
    ∙ ap (λ o. bit_at o (7 - j % 8)) (sym (le-octet word (j / 8) (omega (arith, h)))
    ∙ ap (λ os. get_or os (j / 8) 0) (le_bytes_8 eight word long (λ i. omega (arith, same i, small i)) read) ∙ same (j / 8))
