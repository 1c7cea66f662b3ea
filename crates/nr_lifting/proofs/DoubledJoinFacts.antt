-- A doubled lane that gains a lane, the second time by its words moved up.
use Rattle.nr_lifting.proofs.Names.{GainsDoubled, bit_at_above, bit_at_shl_high, bit_at_shl_low, if◌then◌else◌, mod-eq_of_lt}
use Rattle.nr_lifting.proofs.Names.{IsClear, ap, cases_lt, ◌%◌, ◌*◌, ◌+◌, ◌-◌, ◌/◌, ◌<◌, ◌^◌, ◌≤◌}
use Rattle.nr_lifting.proofs.Names.{bit_at_mod, bit_at_or, inl, mod_below, place-zeros, replicate, ◌∙◌, ◌≡◌, bit_at_shr}
use Rattle.nr_lifting.proofs.Names.{List, arith, bit_at, bit_or, get_or, inr, length, max, place, set, subst, ℕ}
use Rattle.nr_lifting.proofs.LaneBitFacts.{IsMade, made_next, made_whole, word_bit}
use Rattle.nr_lifting.proofs.{LaneWordFacts.gained_low, RotationFacts.twice}
use Rattle.std.proofs.{Common.nat_lt, lemmas.Bool.lt-ltb, lemmas.Bool.le-ltb}

-- place t of words that are moved up by z places
abbrev pub moved : ℕ → List ℕ → ℕ → ℕ
moved z ws t = if nat_lt t z then 0 else place ws (t - z)

moved-low : (z : ℕ) (ws : List ℕ) (t : ℕ) → t < z → moved z ws t ≡ 0
moved-low z ws t h = ap (λ b. if b then 0 else place ws (t - z)) (lt-ltb t z h)

pub moved-high : (z : ℕ) (ws : List ℕ) (t : ℕ) → z ≤ t → moved z ws t ≡ place ws (t - z)
moved-high z ws t h = ap (λ b. if b then 0 else place ws (t - z)) (le-ltb t z h)

-- ---- word by word

-- what the first i words leave over for the next, when they are moved up
pub record Carries (z i : ℕ) (ws : List ℕ) (past : ℕ) : Type 0 where
  pub low : (j : ℕ) → j < z % 64 → bit_at past j ≡ moved z ws (64 * (z / 64 + i) + j)
  pub high : (j : ℕ) → z % 64 ≤ j → bit_at past j ≡ 0

module _ (z i word : ℕ) (ws : List ℕ) (kept : word ≡ get_or ws i 0) where
  pub carries_more : word < 2 ^ 64 → Carries z (i + 1) ws (word / 2 ^ 1 / 2 ^ (63 - z % 64))
  carries_more fits = record {
    low = λ j h.
        let from = 63 - z % 64 + j in
        let t = 64 * (z / 64 + (i + 1)) + j in
        let there : 64 * i + (1 + from) ≡ t - z = omega (arith, h) in
        omega (
          arith,
          bit_at_shr (word / 2 ^ 1) (63 - z % 64) j,
          bit_at_shr word 1 from,
          word_bit i (1 + from) word ws kept (omega (arith, h)),
          ap (place ws) there,
          moved-high z ws t (omega arith),
        );
    high = λ j h. omega (
      arith,
      bit_at_shr (word / 2 ^ 1) (63 - z % 64) j,
      bit_at_shr word 1 (63 - z % 64 + j),
      bit_at_above word 64 (1 + (63 - z % 64 + j)) fits (omega (arith, h)),
    );
  }

  pub moved_word : (past : ℕ) → Carries z i ws past → (j : ℕ) → j < 64
      → bit_at (bit_or (word * 2 ^ (z % 64) % 2 ^ 64) past) j ≡ moved z ws (64 * (z / 64 + i) + j)
  moved_word past carry j short =
      let t = 64 * (z / 64 + i) + j in
      let both = bit_at_or (word * 2 ^ (z % 64) % 2 ^ 64) past j in
      let cut = bit_at_mod (word * 2 ^ (z % 64)) 64 j short in
      elim (cases_lt j (z % 64)) [
        | inl h ↦ omega (arith, both, cut, bit_at_shl_low word (z % 64) j h, carry.low j h)
        | inr h ↦
            let there : 64 * i + (j - z % 64) ≡ t - z = omega (arith, h) in
            omega (
              arith,
              both,
              cut,
              bit_at_shl_high word (z % 64) j h,
              carry.high j h,
              word_bit i (j - z % 64) word ws kept (omega (arith, short)),
              ap (place ws) there,
              moved-high z ws t (omega (arith, h)),
            )
      ]

-- ---- all words

-- the words are joined
pub once_all : (n : ℕ) (now old ws : List ℕ) → IsMade n (λ t. max (place old t) (place ws t)) now old → IsClear ws (64 * n)
    → (t : ℕ) → place now t ≡ max (place old t) (place ws t)
once_all n now old ws h none = made_whole n (λ t. max (place old t) (place ws t)) now old h (λ t out. omega (arith, none t out))

-- Words that have been joined once, and are where they are moved up by z places. The first w of them have all places.
pub moved_all : (z w : ℕ) (now old ws : List ℕ) → IsClear ws (64 * w) → (n : ℕ)
    → IsMade n (λ t. max (place old t) (moved z ws t)) now old → z + 64 * w ≤ 64 * n
    → (t : ℕ) → place now t ≡ max (place old t) (moved z ws t)
moved_all z w now old ws none n h enough =
    made_whole n (λ t. max (place old t) (moved z ws t)) now old h
    (λ t out. omega (arith, moved-high z ws t (omega (arith, enough, out)), none (t - z) (omega (arith, enough, out))))

module _ (z i : ℕ) (next now old ws : List ℕ) (h : IsMade (z / 64 + i) (λ t. max (place old t) (moved z ws t)) now old)
    (within : z / 64 + i < length now) where
  -- one more word is joined at the place that it is moved up to
  pub moved_next : (word : ℕ) → next ≡ set now (z / 64 + i) (bit_or (get_or now (z / 64 + i) 0) word)
      → ((j : ℕ) → j < 64 → bit_at word j ≡ moved z ws (64 * (z / 64 + i) + j))
      → IsMade (z / 64 + (i + 1)) (λ t. max (place old t) (moved z ws t)) next old
  moved_next word put are =
      let one_more : z / 64 + i + 1 ≡ z / 64 + (i + 1) = omega arith in
      subst (λ n. IsMade n (λ t. max (place old t) (moved z ws t)) next old) one_more
      (made_next (z / 64 + i) _ next now old _ h within put (λ j short.
      gained_low 0 (z / 64 + i) _ old _ j short (h.kept (z / 64 + i) (omega arith)) (are j short)))

  -- what the last leaves over is joined
  pub moved_last : (w past : ℕ) → Carries z w ws past → i ≡ w → IsClear ws (64 * w)
      → next ≡ set now (z / 64 + w) (bit_or (get_or now (z / 64 + w) 0) past)
      → (t : ℕ) → place next t ≡ max (place old t) (moved z ws t)
  moved_last w past carry all none put =
      let here = rw (← all) at put in
      moved_all z w next old ws none (z / 64 + (i + 1)) (moved_next past here (λ j short. elim (cases_lt j (z % 64)) [
        | inl low ↦ rw (← all) at (carry.low j low)
        | inr high ↦
            let t = 64 * (z / 64 + i) + j in
            omega (arith, carry.high j high, moved-high z ws t (omega (arith, high)), none (t - z) (omega (arith, all, high)))
      ])) (omega (arith, all))

pub joined_all : (z : ℕ) (new now old ws : List ℕ) (n : ℕ) → IsMade n (λ t. max (place old t) (place ws t)) now old
    → IsClear ws (64 * n)
    → ((t : ℕ) → place new t ≡ max (place now t) (moved z ws t)) → (t : ℕ)
    → place new t ≡ max (max (place old t) (place ws t)) (moved z ws t)
joined_all z new now old ws n h none again t = again t ∙ ap (λ m. max m (moved z ws t)) (once_all n now old ws h none t)

module _ (z : ℕ) (new old ws : List ℕ) (clear : IsClear ws z)
    (is : (t : ℕ) → place new t ≡ max (max (place old t) (place ws t)) (moved z ws t)) where
  pub gains_doubled : GainsDoubled z new old ws
  gains_doubled t below = grind (arith, twice, moved-low, moved-high)

  pub gained_clear : IsClear old (2 * z) → IsClear new (2 * z)
  gained_clear before t past = grind (arith, moved-high)

-- a doubled lane of zeros that gains a lane has the lane's places
pub zeros_gain : (z w t : ℕ) (doubled ws : List ℕ) → GainsDoubled z doubled (replicate w 0) ws → 0 < z
    → place doubled (t % z) ≡ place ws (t % z)
zeros_gain z w t doubled ws gains some = grind (arith, mod_below, mod-eq_of_lt, place-zeros)
