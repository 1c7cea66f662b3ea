use Rattle.std.{proofs.Common.below_more, specs.Prelude.slice_set}
use Rattle.nr_drawing.proofs.Common.{Bool, List, ap, arith, bit, false, get_or, get_or-set_other, get_or-set_same, length}
use Rattle.nr_drawing.proofs.Common.{marks_drawn, nat_lt, nat_tests, places_drawn, refl, suc, true, if◌then◌else◌, ℕ}
use Rattle.nr_drawing.proofs.Common.{◌+◌, ◌-◌, ◌<◌, ◌∙◌, ◌∷◌, ◌≡◌, ◌≢◌}
use Rattle.nr_drawing.proofs.DrawnWordFacts.{one-more}
use Rattle.nr_drawing.proofs.overwrite.Goals as goal
use Rattle.nr_drawing.proofs.overwrite.Goals.{then-next_word-threshold, else-next_word-threshold}

-- an octet is written if its place is drawn, and no other octet is
record IsWritten (i octet : ℕ) (mark : Bool) (old new : List ℕ) : Type 0 where
  here : get_or new i 0 ≡ (if mark then octet else get_or old i 0)
  others : (m : ℕ) → m ≢ i → get_or new m 0 ≡ get_or old m 0

written : (i octet : ℕ) (mark : Bool) (old new : List ℕ) → i < length old → mark ≡ true → new ≡ slice_set old i octet
    → IsWritten i octet mark old new
written i octet mark old new inside is next = record {
  here = rw (next, is) (get_or-set_same old i octet 0 inside);
  others = λ m other. rw next (get_or-set_other old i m octet 0 other);
}

kept : (i octet : ℕ) (mark : Bool) (old new : List ℕ) → mark ≡ false → new ≡ old → IsWritten i octet mark old new
kept i octet mark old new is next = record { here = rw (next, is) refl; others = λ m other. rw next refl }

-- Octet `i` is still the old one, so it is right whether the place is drawn or not.
pub loop-i-preserved : goal.loop-i-preserved
loop-i-preserved c =
    let i = c.loop-i.i in
    let inv = c.loop-i.invariant in
    let n : ℕ = length c.args.octets.now in
    let mark : Bool = nat_lt c.next_word.result c.args.threshold in
    let left : n - i ≡ suc (n - (i + 1)) = omega arith in
    let more : (k : ℕ) → bit (places_drawn c.args.seed c.args.threshold n) (i + k)
    ≡ bit (mark ∷ marks_drawn c.args.threshold (n - (i + 1)) c.next_word.new.self) k =
    λ k. inv.told k ∙ ap (λ l. bit l k) (ap (λ m. marks_drawn c.args.threshold m c.loop-i.generator) left
    ∙ one-more _ _ _ _ _ c.next_word.ensures) in
    let step : IsWritten i c.args.octet mark c.loop-i.octets c.if-next_word-threshold.octets =
    elim c.if-next_word-threshold.branch [
      | then-next_word-threshold w ↦ written i _ mark _ _ (omega arith) (grind (arith, nat_tests)) w.octets-is
      | else-next_word-threshold w ↦ kept i _ mark _ _ (grind (arith, nat_tests)) w.octets-is
    ] in
    let none : i + 0 ≡ i = omega arith in
    let first : bit (places_drawn c.args.seed c.args.threshold n) i ≡ mark = rw none at (more 0) in
    record {
      long = omega arith;
      before = below_more _ _
          (λ m lt. step.others m (omega (arith, lt)) ∙ inv.before m lt)
          (step.here ∙ rw (first, inv.behind i (omega arith)) refl);
      behind = λ m past. step.others m (omega (arith, past)) ∙ inv.behind m (omega (arith, past));
      told = λ k. let e : i + 1 + k ≡ i + suc k = omega arith in rw e (more (suc k));
    }
