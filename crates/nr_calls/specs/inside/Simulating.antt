-- Definitions that only the proofs of simulated rounds need.
use Rattle.std.specs.Prelude.{◌≡◌, ◌⊎◌, ℕ, All, Bool, not, List, length, map, Result, Ok, Err, IsOk}
use Rattle.nr_blockdesk.specs.{Explains.Reception, Link.Link, Marks.reception_by, Sent.tx_said}
use Rattle.nr_transmission.specs.declared.tx.Tx.{Tx}
use Rattle.nr_calls.specs.{Crossing.tx_of, Simulating.AreSimulated, Simulating.Simulation, Simulating.simulation}
use Rattle.nr_calls.specs.declared.{crossing.NrTx.NrTx, fault.Fault.Fault}
use Rattle.nr_calls.specs.declared.fault.Fault.TheVariants as fault
use Rattle.nr_calls.specs.declared.{simulating.RoundRoom.RoundRoom, rounds.Rounds.Rounds}

-- what a call has found of rounds
abbrev pub simulation_of : Rounds → Simulation
simulation_of r = simulation r.delivered.items r.left.items r.erased.items

-- each transmission has no fault
abbrev pub AreAccepted : Link → List NrTx → Type 0
AreAccepted link txs = All (λ t. IsOk (tx_said link (tx_of t))) txs

-- a transmission that is heard as zeros at the places that are not erased: the bit at an erased place is not read
abbrev pub drawn_reception : Tx × List Bool → Reception
drawn_reception x = reception_by x.0 (map not x.1) x.1

-- The result of rounds is that of the specification, over its link, for every transport block. Or the fault is that of
-- the specification, unless memory ran out.
abbrev pub ComesTo : Result Rounds Fault → List NrTx → List ℕ → List ℕ → ℕ → Result Link Fault → Type 0
ComesTo (Ok rounds) txs thresholds seeds n said =
    (link : Link) × (said ≡ Ok link) × AreSimulated txs thresholds seeds n link (simulation_of rounds)
ComesTo (Err e) txs thresholds seeds n said = (e ≡ fault.Memory) ⊎ (said ≡ Err e)

-- rounds fill a caller's places
abbrev pub AreFilled : RoundRoom → Rounds → Type 0
AreFilled room r = (length r.delivered.items ≡ room.delivered)
    × ((length r.left.items ≡ room.left) × (length r.erased.items ≡ room.erased))
