-- Definitions that only the proofs need.
use Rattle.std.specs.Prelude.{ℕ, nat_lt, if◌then◌else◌, List, Option, Some, None}
use Rattle.std.specs.List.{list_all}

-- values that fit 16 bits each, or none
abbrev pub short_values : List ℕ → Option (List ℕ)
short_values values = if list_all (λ v. nat_lt v 65536) values then Some values else None
