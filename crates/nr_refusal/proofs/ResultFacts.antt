-- What a result says about the steps that led to it.
use Rattle.std.proofs.Common.{◌≡◌, ◌⊎◌, Result, Ok, Err, refl, sym, ap, subst}
use Rattle.nr_refusal.specs.Refusal.{◌>>=◌, with_fault, Gives}

pub ok-same : {X E : Type 0} {x y : X} → ◌≡◌ {A = Result X E} (Ok x) (Ok y) → x ≡ y
ok-same e = cc e

-- what a chain of steps that returns a value says about each step
pub bind-ok : {X Y E : Type 0} (r : Result X E) (f : X → Result Y E) (y : Y) → (r >>= f) ≡ Ok y
    → (x : X) × (r ≡ Ok x) × (f x ≡ Ok y)
bind-ok (Ok x) f y e = (x, refl, e)
bind-ok (Err d) f y e = cc e

pub with_fault-ok : {X E F : Type 0} (f : E → F) (r : Result X E) (x : X) → with_fault f r ≡ Ok x → r ≡ Ok x
with_fault-ok f (Ok y) x e = ap Ok (ok-same e)
with_fault-ok f (Err d) x e = cc e

-- a fault of one step is that of all
pub gives-err : {X Y E : Type 0} (memory : E) (view : X → Y) (r : Result X E) (e : E) (said : Result Y E) → r ≡ Err e
    → (e ≡ memory) ⊎ (said ≡ Err e) → Gives memory view r said
gives-err {X} {Y} {E} memory view r e said is told = subst (λ (q : Result X E). Gives memory view q said) (sym is) told
