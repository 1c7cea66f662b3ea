-- Definitions that only the proofs of the places of a transmission need.
use Rattle.nr_calls.specs.{Placing.Placing, Placing.placing, declared.placed.Placed.Placed}

-- what the places of a transmission are found by
abbrev pub placing_of : Placed → Placing
placing_of p = placing p.plan.n p.buffer p.tx p.lengths.items
