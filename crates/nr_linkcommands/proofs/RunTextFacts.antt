-- A text whose parts are written one after the other, and the part of it that is left.
use Rattle.nr_linkcommands.proofs.Common.{List, Option, Result, [], ap, append-nil, append_assoc, arith, err_from_is_err_and}
use Rattle.nr_linkcommands.proofs.Common.{◌++◌, ◌+◌, ◌-◌, ◌<◌, ◌∙◌, ◌≡◌, ◌≤◌, with_text-append}
use Rattle.nr_linkcommands.proofs.Common.{flat_map, range_with_len, refl, sym, with_text, with_text-nil, writes_behind, ℕ}
use Rattle.std.proofs.Common.{IsErrAnd}
use Rattle.nr_commands.specs.{Command.Stops, Command.Writes, declared.fault.RunFault.RunFault}

-- the whole text is written but for the rest
abbrev pub IsLeft : Option (List ℕ) → Option (List ℕ) → List ℕ → List ℕ → Type 0
IsLeft old new rest whole = (front : List ℕ) × (whole ≡ front ++ rest) × (new ≡ with_text old front)

pub left-first : (old : Option (List ℕ)) (whole : List ℕ) → IsLeft old old whole whole
left-first old whole = ([], refl, sym (with_text-nil old))

-- one more line
pub left-more : (old mid new : Option (List ℕ)) (line rest whole : List ℕ) → IsLeft old mid (line ++ rest) whole
    → new ≡ with_text mid line → IsLeft old new rest whole
left-more old mid new line rest whole (front, is, before) written = grind (arith, append_assoc, with_text-append)

-- a line that was stopped
pub left-stopped : {X : Type 0} (old mid new : Option (List ℕ)) (r : Result X RunFault) (e : RunFault)
    (line rest whole : List ℕ) → IsErrAnd r (λ told. told ≡ e) → IsLeft old mid (line ++ rest) whole
    → Stops mid new e line → Writes old new r whole
left-stopped old mid new r e line rest whole at (front, is, before) stops =
    let p = err_from_is_err_and r at in
    writes_behind old mid new r p.0 e whole front line rest p.1 p.2 (is ∙ sym (append_assoc front line rest)) before stops

pub first-stopped : {X : Type 0} (old new : Option (List ℕ)) (r : Result X RunFault) (e : RunFault) (line rest : List ℕ)
    → IsErrAnd r (λ told. told ≡ e) → Stops old new e line → Writes old new r (line ++ rest)
first-stopped old new r e line rest at stops =
    left-stopped old old new r e line rest (line ++ rest) at (left-first old (line ++ rest)) stops

-- the lines for the numbers from r on: the line for r, and those after it
pub range-turn : (f : ℕ → List ℕ) (r c : ℕ) → r < c
    → flat_map f (range_with_len r (c - r)) ≡ f r ++ flat_map f (range_with_len (r + 1) (c - (r + 1)))
range-turn f r c below = grind arith

pub range-end : (f : ℕ → List ℕ) (r c : ℕ) → c ≤ r → flat_map f (range_with_len r (c - r)) ≡ []
range-end f r c all = grind arith

-- nothing is left
pub left-last : (old new : Option (List ℕ)) (whole : List ℕ) → IsLeft old new [] whole → new ≡ with_text old whole
left-last old new whole (front, is, written) = written ∙ ap (with_text old) (sym (is ∙ append-nil front))
