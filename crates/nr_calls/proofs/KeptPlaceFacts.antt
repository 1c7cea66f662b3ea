-- What a caller has after a reception, in its places: one record gives one content.
use Rattle.nr_calls.proofs.Common.{◌≡◌, ℕ, Bool, List, length, sym, ap, subst, ◌∙◌, arith, refl, ext_get_or, Verdict}
use Rattle.nr_calls.proofs.Common.{contradiction, delivered, open_still, IsHandedUp, outcome_number, KeptPlaces, after_taking}
use Rattle.nr_calls.specs.{Crossing.AreOctets, Keeping.KeptIsOnly}
use Rattle.nr_blockdesk.specs.ReceiverLaws.{DecidedIsOnly}

same-places : (a b : KeptPlaces) → a.room ≡ b.room → a.outcome ≡ b.outcome → a.left ≡ b.left → a.block ≡ b.block
    → a ≡ b
same-places a b room outcome left block = rw (← room, ← outcome, ← left, ← block) refl

-- bits have one list of octets
one-octets : (bits : List Bool) (xs ys : List ℕ) → AreOctets bits xs → AreOctets bits ys → xs ≡ ys
one-octets bits xs ys are of =
    let long : length xs ≡ length ys = omega (arith, are.long, of.long) in
    ext_get_or 0 xs ys long (λ i inside. are.each i inside ∙ sym (of.each i (rw long at inside)))

one-block : (v : Verdict) (before xs ys : List ℕ) → IsHandedUp v before xs → IsHandedUp v before ys → xs ≡ ys
one-block open_still before xs ys up other = up ∙ sym other
one-block (delivered bits) before xs ys up other = one-octets bits xs ys up other
one-block contradiction before xs ys up other = up ∙ sym other

pub kept-only : DecidedIsOnly → KeptIsOnly
kept-only only before x new other a b =
    let same : a.verdict ≡ b.verdict = only x.link (after_taking x) a.verdict b.verdict a.sound a.decided b.decided in
    same-places new other (a.room ∙ sym b.room) (a.outcome ∙ ap outcome_number same ∙ sym b.outcome) (a.left ∙ sym b.left)
    (one-block b.verdict before new.block other.block (subst (λ v. IsHandedUp v before new.block) same a.block) b.block)
