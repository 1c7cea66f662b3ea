-- A block that is put twice in a row. First come its words. The last of these also takes the first bits of the second
-- copy. Then come the words of the other bits.
use Rattle.nr_lifting.proofs.Names.{IsClear, List, ap, arith, bit_at, bit_at_or, bit_or, cases_eq, cases_lt, get_or, inl, inr}
use Rattle.nr_lifting.proofs.Names.{length, length-set, mod-eq_of_lt, mod_once, place, place-set_other, place-set_same, place_of}
use Rattle.nr_lifting.proofs.Names.{refl, set, sym, ℕ, ◌%◌, ◌*◌, ◌+◌, ◌-◌, ◌/◌, ◌<◌, ◌∙◌, ◌≡◌}
use Rattle.nr_lifting.proofs.{Names.◌≢◌, Names.◌≤◌, DoubledWordFacts.moved_low, DoubledWordFacts.moved_high}
use Rattle.nr_lifting.{proofs.RotationFacts.twice, proofs.LaneBitFacts.word_bit, specs.Lane.KeepsOthers}
use Rattle.nr_lifting.proofs.PutWordFacts.{up_by, IsPut}

-- The words of the first copy are put. Its last word takes the first bits of the second copy, and the words of the other bits
-- are put.
pub record IsPutTwice (z w at : ℕ) (sum old one two new : List ℕ) : Type 0 where
  pub above : 64 * w < z + 64
  pub below : z ≤ 64 * w
  pub some : 0 < z
  pub clear : IsClear sum z
  pub inside : at + 2 * w ≤ length old
  pub first : IsPut at w (place sum) one old
  pub joint : two ≡ set one (at + w - 1) (bit_or (get_or one (at + w - 1) 0) (up_by (get_or sum 0 0) (64 * w - z)))
  pub second : IsPut (at + w) w (λ t. place sum (t + (64 * w - z))) new two

module _ {z w at : ℕ} {sum old one two new : List ℕ} (is : IsPutTwice z w at sum old one two new) where
  abbrev head : ℕ
  head = get_or sum 0 0

  -- the words of the first copy have the block twice, as far as they go
  joined : (t : ℕ) → t < 64 * w → t < z + z → place two (64 * at + t) ≡ place sum (t % z)
  joined t lt low = elim (cases_eq (t / 64) (w - 1)) [
    | inl e ↦
        let gain = up_by head (64 * w - z) in
        let was = get_or one (at + w - 1) 0 in
        let j = t % 64 in
        let here : place two (64 * at + t) ≡ bit_at (bit_or was gain) j =
        ap (λ l. place l (64 * at + t)) is.joint
        ∙ place-set_same one (at + w - 1) (bit_or was gain) (64 * at + t) j (omega (arith, is.first.long))
        (omega (arith, e, lt)) (omega arith) in
        let straight : bit_at was j ≡ place sum t =
        sym (place_of one (64 * at + t) (at + w - 1) j (omega (arith, e, lt)) (omega arith))
        ∙ is.first.within t (omega (arith, lt)) in
        here ∙ bit_at_or was gain j ∙ twice sum z t (bit_at was j) (bit_at gain j) (omega (arith, low)) is.clear straight
        (λ h. moved_low head (63 - (64 * w - z)) j (omega arith) (omega arith) (omega (arith, e, h, lt)))
        (λ h. moved_high head (63 - (64 * w - z)) j (omega (arith, e, h, lt)) (omega arith)
        ∙ word_bit 0 (j - (63 - (64 * w - z) + 1)) head sum refl (omega arith)
        ∙ ap (place sum) (omega (arith, e, h, lt)))
    | inr apart ↦
        ap (λ l. place l (64 * at + t)) is.joint
        ∙ place-set_other one (at + w - 1) _ (64 * at + t) (λ e. apart (omega (arith, e, lt)))
        ∙ is.first.within t (omega (arith, lt))
        ∙ ap (place sum) (sym (mod-eq_of_lt (omega (arith, apart, lt))))
  ]

  pub doubled : (t : ℕ) → t < z + z → place new (64 * at + t) ≡ place sum (t % z)
  doubled t lt = elim (cases_lt t (64 * w)) [
    | inl early ↦ is.second.before (64 * at + t) (omega (arith, early)) ∙ joined t early lt
    | inr late ↦
        let word : 64 * (at + w) + (t - 64 * w) ≡ 64 * at + t = omega (arith, late) in
        let moved : t - 64 * w + (64 * w - z) ≡ t - z = omega (arith, late) in
        ap (place new) (sym word) ∙ is.second.within (t - 64 * w) (omega (arith, lt, late))
        ∙ ap (place sum) (moved ∙ sym (mod_once t z (omega (arith, late)) lt))
  ]

  apart : (t : ℕ) → t / 64 ≢ at + w - 1 → place two t ≡ place one t
  apart t other = ap (λ l. place l t) is.joint ∙ place-set_other one (at + w - 1) _ t other

  pub others : KeepsOthers at (at + 2 * w) new old
  others = grind (arith, apart, length-set)
