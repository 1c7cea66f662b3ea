-- Definitions that only the proofs need, beside those of Certificates.antt.
use Rattle.std.specs.Prelude.{◌≡◌, ℕ, ◌+◌, ◌≤◌, Bool, true, if◌then◌else◌, List, [], ◌++◌, vec_capacity}
use Rattle.nr_peel.specs.declared.{fix.Fix.Fix, bit_parallel.steps.Steps.Steps}

-- steps in memory, if they are kept
abbrev pub Order : Type 0
Order = Steps

-- what is kept of steps
abbrev pub told : Bool → List Fix → List Fix
told kept steps = if kept then steps else []

-- there is room for n steps and two more, if steps are kept
abbrev pub HasRoom : Order → ℕ → Type 0
HasRoom x n = x.kept ≡ true → n + 2 ≤ vec_capacity x.list

-- steps were added, if steps are kept
pub record AddsSteps (steps : List Fix) (before after : Order) : Type 0 where
  pub order : after.list.items ≡ before.list.items ++ told before.kept steps
  pub capacity : vec_capacity after.list ≡ vec_capacity before.list
  pub same : after.kept ≡ before.kept

-- steps after others: none of these is lost, and more can follow them
pub record Extends (old new : List Fix) : Type 0 where
  pub more : List Fix
  pub is : new ≡ old ++ more
