-- The rounds of HARQ processes. A round is a transmission of new data with the retransmissions of its process that follow
-- it.
use Rattle.std.specs.Prelude.{◌≡◌, ℕ, ◌+◌, ◌==◌, Bool, false, not, if◌then◌else◌, List, [], ◌∷◌, All}
use Rattle.std.specs.{Prelude.Option, Prelude.None, Prelude.Some, List.filter, List.list_any}
use Rattle.nr_files.specs.declared.schedule.Transmission.{Transmission}

-- the transmissions of process p
abbrev pub of_process : ℕ → List Transmission → List Transmission
of_process p xs = filter (λ x. x.process == p) xs

-- the transmissions from the last fresh one on; all of them if none is fresh
unfoldable pub since_fresh : List Transmission → List Transmission
since_fresh [] = []
since_fresh (x ∷ xs) = if list_any (λ y. y.fresh) xs then since_fresh xs else x ∷ xs

-- the round that process p is in after these transmissions
abbrev pub round_of : ℕ → List Transmission → List Transmission
round_of p xs = since_fresh (of_process p xs)

-- the round that a transmission goes on with, by the transmissions before it; a fresh one begins a new one
abbrev pub round_continued : List Transmission → Transmission → List Transmission
round_continued before x = if x.fresh then [] else round_of x.process before

-- the block that a round names first
abbrev pub first_block : List Transmission → Option ℕ
first_block [] = None
first_block (x ∷ more) = Some x.block

-- the block of a round, if a fresh transmission began it
abbrev pub fresh_block : List Transmission → Option ℕ
fresh_block [] = None
fresh_block (x ∷ more) = if x.fresh then Some x.block else None

-- whether a later transmission goes on with the round that process p is in: the first that is of p is not fresh
abbrev pub goes_on : ℕ → List Transmission → Bool
goes_on p [] = false
goes_on p (x ∷ more) = if x.process == p then not x.fresh else goes_on p more

-- what is true of a transmission of a schedule that names no processes: block n has process n - 1 of its own
pub record IsOfBlock (x : Transmission) : Type 0 where
  pub process : x.process + 1 ≡ x.block
  pub stale : x.fresh ≡ false

-- if a schedule names no processes, the round of process n is all transmissions of block n + 1
abbrev pub BlocksAreRounds : Type 0
BlocksAreRounds = (schedule : List Transmission) → All IsOfBlock schedule → (n : ℕ)
    → round_of n schedule ≡ filter (λ x. x.block == n + 1) schedule
