-- Words that are read from a doubled lane in one piece, and cut by a mask.
use Rattle.nr_lifting.proofs.Names.{IsClear, IsDoubledLane, List, ap, arith, bit_and, bit_at, bit_at_above, bit_at_and, bit_at_mod}
use Rattle.nr_lifting.proofs.Names.{bit_at_not, bit_at_or, bit_at_shl_high, bit_at_shl_low, bit_not, bit_or, cases_lt, get_or, inl}
use Rattle.nr_lifting.proofs.Names.{inr, length-replicate, max, min, mod-eq_of_lt, mod_below, mod_once, place, place_of, place_past}
use Rattle.nr_lifting.proofs.Names.{refl, replicate, sym, w64, ℕ, ◌%◌, ◌*◌, ◌+◌, ◌-◌, ◌/◌, ◌<◌, ◌^◌}
use Rattle.nr_lifting.proofs.Names.{◌∙◌, ◌≡◌, ◌≤◌, bit_at_shr, IsMask, IsRotated, IsRotatedWord}
use Rattle.nr_lifting.proofs.{LaneBitFacts.word_bit, LaneViewFacts.place-lt, RotationFacts.doubled-rotated}

-- a word that is moved up by one and then by `up` loses the places past the word
pub moved_low : (n up j : ℕ) → up < 64 → j < 64 → j ≤ up → bit_at (n * 2 ^ 1 % 2 ^ 64 * 2 ^ up % 2 ^ 64) j ≡ 0
moved_low n up j few short low =
    bit_at_mod (n * 2 ^ 1 % 2 ^ 64 * 2 ^ up) 64 j short ∙ elim (cases_lt j up) [
      | inl h ↦ bit_at_shl_low (n * 2 ^ 1 % 2 ^ 64) up j h
      | inr h ↦
          bit_at_shl_high (n * 2 ^ 1 % 2 ^ 64) up j h ∙ bit_at_mod (n * 2 ^ 1) 64 (j - up) (omega (arith, short))
          ∙ bit_at_shl_low n 1 (j - up) (omega (arith, low, h))
    ]

pub moved_high : (n up j : ℕ) → up < j → j < 64
    → bit_at (n * 2 ^ 1 % 2 ^ 64 * 2 ^ up % 2 ^ 64) j ≡ bit_at n (j - (up + 1))
moved_high n up j high short =
    bit_at_mod (n * 2 ^ 1 % 2 ^ 64 * 2 ^ up) 64 j short
    ∙ bit_at_shl_high (n * 2 ^ 1 % 2 ^ 64) up j (omega (arith, high))
    ∙ bit_at_mod (n * 2 ^ 1) 64 (j - up) (omega (arith, short))
    ∙ bit_at_shl_high n 1 (j - up) (omega (arith, high))
    ∙ ap (bit_at n) (omega (arith, high))

-- two words that follow each other, the second of which is moved up by what is missing
pub piece_bit : (ws : List ℕ) (w turn j : ℕ) → get_or ws w 0 < 2 ^ 64 → turn < 64 → j < 64
    → bit_at (bit_or (get_or ws w 0 / 2 ^ turn) (get_or ws (w + 1) 0 * 2 ^ 1 % 2 ^ 64 * 2 ^ (63 - turn) % 2 ^ 64)) j
    ≡ place ws (64 * w + turn + j)
piece_bit ws w turn j fits few short =
    let next = get_or ws (w + 1) 0 in
    let moved = next * 2 ^ 1 % 2 ^ 64 * 2 ^ (63 - turn) % 2 ^ 64 in
    let split : bit_at (bit_or (get_or ws w 0 / 2 ^ turn) moved) j ≡ max (bit_at (get_or ws w 0 / 2 ^ turn) j) (bit_at moved j) =
    bit_at_or (get_or ws w 0 / 2 ^ turn) moved j in
    let first : bit_at (get_or ws w 0 / 2 ^ turn) j ≡ bit_at (get_or ws w 0) (turn + j) = bit_at_shr (get_or ws w 0) turn j in
    elim (cases_lt (turn + j) 64) [
      | inl here ↦
          let e : place ws (64 * w + turn + j) ≡ bit_at (get_or ws w 0) (turn + j) =
          place_of ws (64 * w + turn + j) w (turn + j) (omega arith) here in
          let none : bit_at moved j ≡ 0 = moved_low next (63 - turn) j (omega arith) short (omega (arith, here)) in
          omega (arith, split, first, e, none)
      | inr past ↦
          let e : place ws (64 * w + turn + j) ≡ bit_at next (j - (63 - turn + 1)) =
          place_of ws (64 * w + turn + j) (w + 1) (j - (63 - turn + 1)) (omega (arith, past, few)) (omega (arith, short)) in
          let none : bit_at (get_or ws w 0) (turn + j) ≡ 0 = bit_at_above (get_or ws w 0) 64 (turn + j) fits past in
          let more : bit_at moved j ≡ bit_at next (j - (63 - turn + 1)) =
          moved_high next (63 - turn) j (omega (arith, past, few)) short in
          omega (arith, split, first, e, none, more)
    ]

-- A word that is read from a doubled lane, at word w, has the places of the rotated lane below place z.
module _ (z i p w read : ℕ) (doubled : List ℕ) (at : w ≡ p / 64 + i)
    (reads : (j : ℕ) → j < 64 → bit_at read j ≡ place doubled (64 * w + p % 64 + j)) (rotation : p < z)
    (twice : IsDoubledLane z doubled) where
  pub turned : IsRotatedWord z doubled i p read
  turned j short below = reads j short ∙ ap (place doubled) (omega (arith, at))
      ∙ doubled-rotated doubled z (64 * i + j) p below rotation twice

  -- With a mask it still has these places, and none past place z.
  module _ (cut : ℕ) (mask : List ℕ) (is : IsMask z mask) (kept : cut ≡ get_or mask i 0) where
    pub cut_turned : IsRotatedWord z doubled i p (bit_and read cut)
    cut_turned j short below =
        let whole : bit_at cut j ≡ 1 = word_bit i j cut mask kept short ∙ is.set (64 * i + j) below in
        omega (arith, bit_at_and read cut j, whole, turned j short below, place-lt doubled ((64 * i + j + p) % z))

    pub cut_clear : cut < 2 ^ 64 → (j : ℕ) → z ≤ 64 * i + j → bit_at (bit_and read cut) j ≡ 0
    cut_clear fits j past = elim (cases_lt j 64) [
      | inl short ↦ omega (arith, bit_at_and read cut j, word_bit i j cut mask kept short, is.clear (64 * i + j) past)
      | inr out ↦ omega (arith, bit_at_and read cut j, bit_at_above cut 64 j fits out)
    ]

  -- A word of a lane loses the bits of the rotated block. Past place z the lane has none, whatever the block's word has
  -- there.
  module _ (now : ℕ) (ws : List ℕ) (kept : now ≡ get_or ws i 0) where
    pub less_low : read < 2 ^ 64 → (j : ℕ) → j < 64 → 64 * i + j < z
        → bit_at (bit_and now (bit_not w64 read)) j ≡ min (place ws (64 * i + j)) (1 - place doubled ((64 * i + j + p) % z))
    less_low fits j short below = omega (
      arith,
      bit_at_and now (bit_not w64 read) j,
      bit_at_not w64 read j fits short,
      word_bit i j now ws kept short,
      turned j short below,
    )

    pub less_high : IsClear ws z → (j : ℕ) → j < 64 → z ≤ 64 * i + j → bit_at (bit_and now (bit_not w64 read)) j ≡ 0
    less_high clear j short past =
        omega (arith, bit_at_and now (bit_not w64 read) j, word_bit i j now ws kept short, clear (64 * i + j) past)

-- ---- a block in one word

-- it has no bit past place z
pub first_clear : (z : ℕ) (words : List ℕ) → IsClear words z → get_or words 0 0 < 2 ^ 64 → (t : ℕ) → z ≤ t
    → bit_at (get_or words 0 0) t ≡ 0
first_clear z words clear fits t past = elim (cases_lt t 64) [
  | inl short ↦ word_bit 0 t _ words refl short ∙ ap (place words) {y = t} (omega arith) ∙ clear t past
  | inr out ↦ bit_at_above (get_or words 0 0) 64 t fits out
]

-- it is rotated by two shifts
pub turned_bit : (word z p t : ℕ) → p < z → z ≤ 64 → ((t : ℕ) → z ≤ t → bit_at word t ≡ 0) → t < z
    → bit_at (bit_or (word / 2 ^ p) (word * 2 ^ 1 % 2 ^ 64 * 2 ^ (z - p - 1) % 2 ^ 64)) t ≡ bit_at word ((t + p) % z)
turned_bit word z p t rotation few clear below =
    let up = z - p - 1 in
    let split = bit_at_or (word / 2 ^ p) (word * 2 ^ 1 % 2 ^ 64 * 2 ^ up % 2 ^ 64) t in
    let first : bit_at (word / 2 ^ p) t ≡ bit_at word (p + t) = bit_at_shr word p t in
    elim (cases_lt (t + p) z) [
      | inl here ↦
          let there : p + t ≡ (t + p) % z = omega arith ∙ sym (mod-eq_of_lt here) in
          omega (
            arith,
            split,
            first,
            ap (bit_at word) there,
            moved_low word up t (omega (arith, rotation, few)) (omega (arith, below, few)) (omega (arith, here)),
          )
      | inr past ↦
          let there : t - (up + 1) ≡ (t + p) % z =
          omega (arith, past, rotation) ∙ sym (mod_once (t + p) z past (omega (arith, below, rotation))) in
          omega (
            arith,
            split,
            first,
            clear (p + t) (omega (arith, past)),
            ap (bit_at word) there,
            moved_high word up t (omega (arith, past, rotation)) (omega (arith, below, few)),
          )
    ]

-- and cut by a mask; a lane of W words is but that one
module _ (z p W turned cut : ℕ) (words mask : List ℕ) (one : W ≡ 1) (few : z ≤ 64 * W) (is : IsMask z mask)
    (kept : cut ≡ get_or mask 0 0) where
  one_place : (t : ℕ) → t < 64 → place (replicate W (bit_and turned cut)) t ≡ bit_at (bit_and turned cut) t
  one_place t short = rw one (place_of (replicate 1 (bit_and turned cut)) t 0 t (omega arith) short)

  cut_at : (t : ℕ) → t < 64 → bit_at cut t ≡ place mask t
  cut_at t short = word_bit 0 t cut mask kept short ∙ ap (place mask) {y = t} (omega arith)

  pub one_rotated : p < z → ((t : ℕ) → t < z → bit_at turned t ≡ bit_at (get_or words 0 0) ((t + p) % z))
      → IsRotated z (replicate W (bit_and turned cut)) words p
  one_rotated rotation turns t below =
      let short : t < 64 = omega (arith, below, few, one) in
      let from : (t + p) % z < z = mod_below (t + p) z (omega (arith, rotation)) in
      let there = place_of words ((t + p) % z) 0 ((t + p) % z) (omega arith) (omega (arith, from, few, one)) in
      omega (
        arith,
        one_place t short,
        bit_at_and turned cut t,
        cut_at t short,
        is.set t below,
        turns t below,
        there,
        place-lt words ((t + p) % z),
      )

  pub one_clear : IsClear (replicate W (bit_and turned cut)) z
  one_clear t past = elim (cases_lt t 64) [
    | inl short ↦ omega (arith, one_place t short, bit_at_and turned cut t, cut_at t short, is.clear t past)
    | inr out ↦ place_past (replicate W (bit_and turned cut)) t (omega (arith, length-replicate W (bit_and turned cut), one, out))
  ]
