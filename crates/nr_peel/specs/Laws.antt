-- What is true of closures, of fix orders and of stopping sets, whoever computes them.
use Rattle.std.specs.Prelude.{◌≡◌, ℕ, ◌<◌, Bool, true, false, not, length, List}
use Rattle.nr_graphpick.specs.declared.Graph.{Graph}
use Rattle.nr_segment.specs.Plan.{Numbers, IsSound}
use Rattle.nr_shifttable.specs.Accepted.{Entries, IsTable, entries_in}
use Rattle.nr_ldpcenc.specs.{Rows.Checks, Rows.Meets, Rows.block_checks, Codeword.filler}
use Rattle.nr_peel.specs.Closure.{AgreeOn, AreSound, IsStopping, Within, closure, union}
use Rattle.nr_peel.specs.{Certificates.after_steps, declared.fix.Fix.Fix}

-- a larger set has a larger closure, so a position once fixed stays fixed
abbrev pub ClosureIsMonotone : Type 0
ClosureIsMonotone = (c : Checks) (S T : ℕ → Bool) → Within S T → Within (closure c S) (closure c T)

-- to close a set, add to it and close it again is the same as to add first and close once
abbrev pub ClosureContinues : Type 0
ClosureContinues = (c : Checks) (S T : ℕ → Bool) (p : ℕ) → AreSound c
    → closure c (union (closure c S) T) p ≡ closure c (union S T) p

-- two words that meet every row and agree on a set agree on its closure
abbrev pub WordsAgreeOnClosure : Type 0
WordsAgreeOnClosure = (c : Checks) (S v w : ℕ → Bool) → AreSound c → Meets c v → Meets c w → AgreeOn S v w
    → AgreeOn (closure c S) v w

-- no member of a stopping set beside a set is in the set's closure
abbrev pub StoppingSetsStayOut : Type 0
StoppingSetsStayOut = (c : Checks) (S U : ℕ → Bool) (p : ℕ) → AreSound c → IsStopping c S U → U p ≡ true
    → closure c S p ≡ false

-- what a closure leaves out is a stopping set beside the set, and so the largest
abbrev pub LeftOverIsStopping : Type 0
LeftOverIsStopping = (c : Checks) (S : ℕ → Bool) → AreSound c → IsStopping c S (λ p. not (closure c S p))

-- accepted steps lead to positions of the closure
abbrev pub StepsStayInClosure : Type 0
StepsStayInClosure = (c : Checks) (S : ℕ → Bool) (steps : List Fix) → AreSound c
    → Within (after_steps c S steps) (closure c S)

-- the parity checks of an accepted table are sound
abbrev pub ChecksAreSound : Type 0
ChecksAreSound = (t : Entries) (g : Graph) (p : Numbers) → IsTable t → 0 < p.z → AreSound (block_checks t g p)

-- if nothing is heard, so that only the fillers are known, no position below K' is fixed
abbrev pub NothingHeardFixesNothing : Type 0
NothingHeardFixesNothing =
    (t : Entries) (g : Graph) (b : ℕ) (p : Numbers) (q : ℕ) → IsTable t → 0 < length (entries_in g t) → IsSound g b p
    → q < p.kdash → closure (block_checks t g p) (filler p.kdash p.k) q ≡ false
