-- The text of `send`, line by line.
use Rattle.nr_linkcommands.proofs.Common.{Bool, DeskFault, Err, List, Ok, Result, SenderView, Some, Transmission, ap, append_assoc}
use Rattle.nr_linkcommands.proofs.Common.{arith, drop, flat_map, flat_map-append, get_or, length, length-append, refl, sender_of}
use Rattle.nr_linkcommands.proofs.Common.{sent_line, sent_said, sym, take, ℕ, ◌++◌, ◌+◌, ◌-◌, ◌<◌, ◌∙◌}
use Rattle.nr_linkcommands.proofs.Common.{◌∷◌, ◌≡◌, drop_more, slice_get-get_or, answer_line, transmission_line}
use Rattle.nr_linkcommands.specs.SendLines.{refused_line}
use Rattle.std.proofs.lemmas.List.{take-append-drop}

-- the lines before the element at index i, its own, and those after it
pub lines-parts : {X : Type 0} (line : X → List ℕ) (xs : List X) (i : ℕ) (x none : X) → i < length xs
    → x ≡ get_or xs i none → flat_map line xs ≡ (flat_map line (take i xs) ++ line x) ++ flat_map line (drop (i + 1) xs)
lines-parts line xs i x none within is =
    let rest : drop i xs ≡ x ∷ drop (i + 1) xs = drop_more xs i none within ∙ ap (λ y. y ∷ drop (i + 1) xs) (sym is) in
    ap (flat_map line) (sym (take-append-drop i xs))
    ∙ flat_map-append line (take i xs) (drop i xs)
    ∙ ap (λ ys. flat_map line (take i xs) ++ flat_map line ys) rest
    ∙ sym (append_assoc (flat_map line (take i xs)) (line x) (flat_map line (drop (i + 1) xs)))

-- the sender at the place of a block, which counts from 1
pub sender-there : (senders : List SenderView) (n : ℕ) (sender : SenderView) → n - 1 < length senders
    → sender ≡ get_or senders (n - 1) sender → sender_of senders n ≡ Some sender
sender-there senders n sender within is = slice_get-get_or senders (n - 1) sender within ∙ ap Some (sym is)

-- the line of a transmission by the sender of its block
pub transmission_line-at : (senders : List SenderView) (x : Transmission) (sender : SenderView)
    → sender_of senders x.block ≡ Some sender
    → transmission_line senders x ≡ answer_line x.number x.block (sent_said sender.link x.tx sender.block)
unfolding transmission_line
transmission_line-at senders x sender is = rw is refl

-- a line is not empty
pub answer_line-some : (t n : ℕ) (said : Result (List Bool) DeskFault) → 0 < length (answer_line t n said)
unfolding sent_line refused_line
answer_line-some t n (Ok bits) = simp length-append (omega arith)
answer_line-some t n (Err e) = simp length-append (omega arith)
