-- What a call that writes a text part by part leaves of it.
use Rattle.nr_commands.proofs.Common.{◌≡◌, ◌≢◌, ℕ, ◌<◌, List, [], ◌∷◌, ◌++◌, Option, Result, Ok, Err}
use Rattle.nr_commands.proofs.Common.{IfOk, IsErr, Vec, Global, length, sym, ◌∙◌, ap, refl, arith, length-append, append-nil}
use Rattle.nr_commands.proofs.Common.{Stops, Writes, with_text, with_text-append, with_text-nil, RunFault, Memory, Write}
use Rattle.nr_streams.proofs.WrittenFacts.{prefix_behind, prefix_so_far}

-- what a refused line leaves, after others of a text
stops_behind : (old mid new : Option (List ℕ)) (e : RunFault) (whole front line rest : List ℕ)
    → whole ≡ (front ++ line) ++ rest → mid ≡ with_text old front → Stops mid new e line → Stops old new e whole
stops_behind old mid new Write whole front line rest is before left = prefix_behind old mid new whole front line rest is before left
stops_behind old mid new Memory whole front line rest is before left =
    prefix_behind old mid new whole front line rest is before left
stops_behind old mid new e whole front line rest is before left = absurd left

pub writes_behind : {X : Type 0} (old mid new : Option (List ℕ)) (r : Result X RunFault) (exit e : RunFault)
    (whole front line rest : List ℕ) → r ≡ Err exit → exit ≡ e → whole ≡ (front ++ line) ++ rest
    → mid ≡ with_text old front → Stops mid new e line → Writes old new r whole
writes_behind old mid new r exit e whole front line rest at same is before left =
    rw (at, same) (stops_behind old mid new e whole front line rest is before left)

-- what the last line leaves, after others
pub writes_last : {X : Type 0} (old mid new : Option (List ℕ)) (r : Result X RunFault) (front line : List ℕ)
    → mid ≡ with_text old front → Writes mid new r line → Writes old new r (front ++ line)
writes_last old mid new (Ok x) front line before left =
    left ∙ ap (λ w. with_text w line) before ∙ with_text-append old front line
writes_last old mid new (Err e) front line before left =
    stops_behind old mid new e (front ++ line) front line [] (sym (append-nil (front ++ line))) before left

-- if memory runs out before a line, nothing of it is written
pub writes_none : {X : Type 0} (old : Option (List ℕ)) (r : Result X RunFault) (exit : RunFault) (line : List ℕ)
    → r ≡ Err exit → exit ≡ Memory → 0 < length line → Writes old old r line
writes_none old r exit line at is some = rw (at, is) (prefix_so_far old old line [] line refl some (sym (with_text-nil old)))

-- a call that writes has no faults but Write and Memory
pub writes_refused : {X : Type 0} (old new : Option (List ℕ)) (r : Result X RunFault) (text : List ℕ) → Writes old new r text
    → IsErr r → r ≢ Err Write → r ≢ Err Memory → new ≡ old
writes_refused old new (Ok x) text left refused no_write no_memory = absurd (cc)
writes_refused old new (Err Write) text left refused no_write no_memory = absurd (no_write refl)
writes_refused old new (Err Memory) text left refused no_write no_memory = absurd (no_memory refl)
writes_refused old new (Err e) text left refused no_write no_memory = absurd left

-- a line is not empty
pub some_at_end : (front : List ℕ) → 0 < length (front ++ 10 ∷ [])
some_at_end front = omega (arith, length-append {A = ℕ} front (10 ∷ []))

-- a line that is made of the same octets
pub if_ok-items : {E : Type 0} (r : Result (Vec ℕ Global) E) (made line : List ℕ) → made ≡ line
    → IfOk r (λ v. v.items ≡ made) → IfOk r (λ v. v.items ≡ line)
if_ok-items (Ok v) made line same is = is ∙ same
if_ok-items (Err e) made line same is = tt
