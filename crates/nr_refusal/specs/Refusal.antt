-- Calls that may be refused: how steps follow one another, and what a call that may be out of memory returns.
use Rattle.std.specs.Prelude.{◌≡◌, ◌≢◌, ℕ, ◌+◌, ◌⊎◌, Option, Some, None, Result, Ok, Err}

-- a step, and the next one if it is not refused
infixl 10 ◌>>=◌
abbrev pub ◌>>=◌ : {X Y E : Type 0} → Result X E → (X → Result Y E) → Result Y E
(Ok x) >>= next = next x
(Err e) >>= next = Err e

-- a value, or this fault if there is none
abbrev pub or_fault : {X E : Type 0} → E → Option X → Result X E
or_fault e None = Err e
or_fault e (Some x) = Ok x

-- a result with its fault seen as another type's
abbrev pub with_fault : {X E F : Type 0} → (E → F) → Result X E → Result X F
with_fault fault (Ok x) = Ok x
with_fault fault (Err e) = Err (fault e)

-- A call's result, seen by `view`, is the specification's for its input, unless it is out of memory. The first argument
-- is the fault that says so.
abbrev pub Gives : {X Y E : Type 0} → E → (X → Y) → Result X E → Result Y E → Type 0
Gives memory view (Ok x) said = said ≡ Ok (view x)
Gives memory view (Err e) said = (e ≡ memory) ⊎ (said ≡ Err e)

-- The count of failures of a Source or a Sink, before and after a call. It rises by one if the call returns the fault
-- that tells of a failure, and is unchanged if the call returns anything else.
abbrev pub FailsAs : {X E : Type 0} → E → Result X E → ℕ → ℕ → Type 0
FailsAs told (Ok done) old new = new ≡ old
FailsAs told (Err e) old new = ((e ≡ told) × (new ≡ old + 1)) ⊎ ((e ≢ told) × (new ≡ old))
