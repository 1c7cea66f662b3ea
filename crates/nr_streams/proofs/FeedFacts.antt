-- What a feed's pull takes.
use Rattle.nr_streams.proofs.Common.{◌≡◌, ℕ, ◌+◌, ◌-◌, ◌<◌, ◌≤◌, List, [], ◌++◌, length, take, drop}
use Rattle.nr_streams.proofs.Common.{ap, sym, ◌∙◌, arith, length-take-le, length-append, length-drop}
use Rattle.std.proofs.Common.{min}
use Rattle.std.proofs.lemmas.List.{take_at, take_rest, take-append-drop, drop-drop, drop_all}

-- A pull from a place on takes as many octets as are left, as the buffer is long, and as the step allows. The octets
-- left are the buffer's front and those after it. Nothing comes only at the end.
pub feed-pulls : (octets whole left buf new : List ℕ) (at step n : ℕ) → left ≡ drop at octets → whole ≡ octets
    → at ≤ length octets → 0 < step
    → n ≡ min (min (length (take (length whole - at) (drop at whole))) (length buf)) step
    → new ≡ take n (take (length whole - at) (drop at whole)) ++ drop n buf
    → (left ≡ take n new ++ drop (at + n) octets) × (n ≡ 0 → 0 < length new → drop (at + n) octets ≡ [])
feed-pulls octets whole left buf new at step n f g within some e w =
    let rest : take (length whole - at) (drop at whole) ≡ drop at octets = take_rest whole at ∙ ap (drop at) g in
    let count : n ≡ min (min (length (drop at octets)) (length buf)) step =
    e ∙ ap (λ l. min (min (length l) (length buf)) step) rest in
    let short : n ≤ length (drop at octets) = omega arith in
    let filled : new ≡ take n (drop at octets) ++ drop n buf = w ∙ ap (λ l. take n l ++ drop n buf) rest in
    let front : take n new ≡ take n (drop at octets) =
    ap (take n) filled ∙ take_at (take n (drop at octets)) (drop n buf) n (length-take-le n (drop at octets) short) in
    let behind : drop n (drop at octets) ≡ drop (at + n) octets = drop-drop n at octets in
    let size : length new ≡ n + (length buf - n) = ap length filled ∙ length-append (take n (drop at octets)) (drop n buf)
    ∙ omega (arith, length-take-le n (drop at octets) short, length-drop n buf) in (
      f ∙ sym (take-append-drop n (drop at octets)) ∙ ap (λ l. l ++ drop n (drop at octets)) (sym front)
          ∙ ap (λ l. take n new ++ l) behind,
      λ z r. drop_all (at + n) octets (omega (arith, length-drop at octets)),
    )
