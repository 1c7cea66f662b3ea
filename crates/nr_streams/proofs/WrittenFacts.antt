-- A text that is written part by part.
use Rattle.nr_streams.proofs.Common.{◌≡◌, ℕ, ◌+◌, ◌-◌, ◌<◌, ◌≤◌, List, [], ◌++◌, Option, None, Some}
use Rattle.nr_streams.proofs.Common.{length, take, drop, sym, ◌∙◌, ap, refl, arith, length-append, length-drop, with_text}
use Rattle.nr_streams.specs.Sink.{WritesPrefix}
use Rattle.std.proofs.{Common.append_assoc, Common.take_all, Math.Seq.take-add, Math.Seq.take-append-add, Math.Seq.take-append_seam}
use Rattle.std.proofs.lemmas.List.{append-nil, take-append-le}

-- the first `at` octets of a text, then n octets of the rest, are its first `at + n`
pub with_text-rest : (old : Option (List ℕ)) (text : List ℕ) (at n : ℕ) → at ≤ length text
    → with_text (with_text old (take at text)) (take n (take (length text - at) (drop at text)))
    ≡ with_text old (take (at + n) text)
with_text-rest None text at n within = refl
with_text-rest (Some octets) text at n within = grind (arith, take_all, length-drop, append_assoc, take-add)

-- a text without an octet
pub with_text-nil : (old : Option (List ℕ)) → with_text old [] ≡ old
with_text-nil None = refl
with_text-nil (Some octets) = ap Some (append-nil octets)

-- a text, and another after it
pub with_text-append : (old : Option (List ℕ)) (front text : List ℕ)
    → with_text (with_text old front) text ≡ with_text old (front ++ text)
with_text-append None front text = refl
with_text-append (Some octets) front text = ap Some (append_assoc octets front text)

-- a strict first part of a text, if some of it is left
pub prefix_so_far : (old new : Option (List ℕ)) (whole front rest : List ℕ) → whole ≡ front ++ rest → 0 < length rest
    → new ≡ with_text old front → WritesPrefix old new whole
prefix_so_far old new whole front rest is some written = (
  length front,
  omega (arith, ap length is, length-append front rest),
  written ∙ ap (with_text old) (sym (ap (take (length front)) is ∙ take-append_seam front rest)),
)

-- a strict first part of a line that follows others is one of the whole text
pub prefix_behind : (old mid new : Option (List ℕ)) (whole front line rest : List ℕ) → whole ≡ (front ++ line) ++ rest
    → mid ≡ with_text old front → WritesPrefix mid new line → WritesPrefix old new whole
prefix_behind old mid new whole front line rest is before (n, short, written) =
    let same : whole ≡ front ++ (line ++ rest) = is ∙ append_assoc front line rest in
    let first : take (length front + n) whole ≡ front ++ take n line =
    ap (take (length front + n)) same ∙ take-append-add front (line ++ rest) n
    ∙ ap (λ part. front ++ part) (take-append-le n line rest (omega (arith, short))) in (
      length front + n,
      omega (arith, short, ap length is, length-append (front ++ line) rest, length-append front line),
      written ∙ ap (λ w. with_text w (take n line)) before ∙ with_text-append old front (take n line)
          ∙ ap (with_text old) (sym first),
    )
