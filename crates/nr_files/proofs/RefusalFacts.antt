-- What is true of each result that steps give, which fault they never return, and lists that grow step by step.
use Rattle.nr_files.proofs.Common.{◌≡◌, ◌≢◌, ℕ, inl, inr, Bool, true, false, cond, Option, Some, None, Result, Ok}
use Rattle.nr_files.proofs.Common.{Err, IfOk, IfSome, List, [], ◌++◌, refl, ap, sym, ◌∙◌, subst, append_assoc, ◌>>=◌}
use Rattle.nr_files.proofs.Common.{Gives, or_fault}
use Rattle.std.proofs.Common.{IfErr, IsErrAnd}
use Rattle.nr_refusal.specs.Refusal.{FailsAs}

-- a choice
pub holds_if : {X E : Type 0} (P : X → Type 0) (b : Bool) (r s : Result X E) → (b ≡ true → IfOk r P)
    → (b ≡ false → IfOk s P) → IfOk (cond b r s) P
holds_if P true r s at_true at_false = at_true refl
holds_if P false r s at_true at_false = at_false refl

-- one step after another
pub holds_then : {X Y E : Type 0} (P : Y → Type 0) (r : Result X E) (next : X → Result Y E)
    → ((x : X) → r ≡ Ok x → IfOk (next x) P) → IfOk (r >>= next) P
holds_then P (Ok x) next later = later x refl
holds_then P (Err e) next later = tt

-- a step whose result has a property, and the next one
pub holds_with : {X Y E : Type 0} (P : Y → Type 0) (Q : X → Type 0) (r : Result X E) (next : X → Result Y E) → IfOk r Q
    → ((x : X) → Q x → IfOk (next x) P) → IfOk (r >>= next) P
holds_with P Q (Ok x) next first later = later x first
holds_with P Q (Err e) next first later = tt

-- what the exit of a `?` returns
pub err-is : {X E : Type 0} (r : Result X E) (e : E) → IsErrAnd r (λ told. told ≡ e) → r ≡ Err e
err-is (Ok x) e is = absurd is
err-is (Err told) e is = ap Err is

-- a choice of results that are not this fault
pub never_if : {X E : Type 0} (told : E) (b : Bool) (r s : Result X E) → r ≢ Err told → s ≢ Err told
    → cond b r s ≢ Err told
never_if told true r s not_r not_s = not_r
never_if told false r s not_r not_s = not_s

pub never_then : {X Y E : Type 0} (told : E) (r : Result X E) (next : X → Result Y E) → r ≢ Err told
    → ((x : X) → next x ≢ Err told) → (r >>= next) ≢ Err told
never_then told (Ok x) next first later = later x
never_then told (Err e) next first later = λ is. let same : e ≡ told = cc in first (ap Err same)

pub never_or : {X E : Type 0} (told e : E) (o : Option X) → e ≢ told → or_fault e o ≢ Err told
never_or told e None other = λ is. other (cc)
never_or told e (Some x) other = λ is. cc

-- a call that gives what the specification says, if that is never the fault that tells of a failure
pub fails_as-said : {X Y E : Type 0} (told memory : E) (view : X → Y) (r : Result X E) (said : Result Y E) (before after : ℕ)
    → memory ≢ told → said ≢ Err told → Gives memory view r said → after ≡ before → FailsAs told r before after
fails_as-said told memory view (Ok x) said before after other none given same = same
fails_as-said told memory view (Err e) said before after other none (inl wanted) same = inr (λ is. other (sym wanted ∙ is), same)
fails_as-said told memory view (Err e) said before after other none (inr known) same = inr (λ is. none (known ∙ ap Err is), same)

-- a call that never returns the fault that tells of a failure, and meets no failure
pub fails_as-never : {X E : Type 0} (told : E) (r : Result X E) (before after : ℕ) → IfErr r (λ e. e ≢ told)
    → after ≡ before → FailsAs told r before after
fails_as-never told (Ok x) before after other same = same
fails_as-never told (Err e) before after other same = inr (other, same)

-- a call that gives what the specification says never returns a fault that it never says
pub gives-never : {X Y E : Type 0} (told memory : E) (view : X → Y) (r : Result X E) (said : Result Y E) → memory ≢ told
    → Gives memory view r said → said ≢ Err told → r ≢ Err told
gives-never told memory view (Ok x) said other given none = λ is. cc
gives-never told memory view (Err e) said other (inl wanted) none = λ is. let same : e ≡ told = cc in other (sym wanted ∙ same)
gives-never told memory view (Err e) said other (inr known) none = λ is. let same : e ≡ told = cc in none (known ∙ ap Err same)

-- memory runs out, whatever the specification says
pub gives-memory : {X Y E : Type 0} (known : Option (List ℕ)) (memory : E) (view : X → Y) (r : Result X E)
    (said : List ℕ → Result Y E) → r ≡ Err memory
    → IfSome known (λ octets. Gives memory view r (said octets))
gives-memory None memory view r said is = tt
gives-memory (Some octets) memory view r said is = subst (λ s. Gives memory view s (said octets)) (sym is) (inl refl)

-- items before those of a result
abbrev pub with_front : {X E : Type 0} → List X → Result (List X) E → Result (List X) E
with_front front said = said >>= λ more. Ok (front ++ more)

pub with_front-none : {X E : Type 0} (said : Result (List X) E) → with_front [] said ≡ said
with_front-none (Ok more) = refl
with_front-none (Err e) = refl

pub with_front-more : {X E : Type 0} (front items : List X) (said : Result (List X) E)
    → with_front front (said >>= λ more. Ok (items ++ more)) ≡ with_front (front ++ items) said
with_front-more front items (Ok more) = ap Ok (sym (append_assoc front items more))
with_front-more front items (Err e) = refl
