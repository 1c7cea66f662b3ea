-- The result of rounds, and that it fills a caller's places.
use Rattle.nr_calls.proofs.Common.{◌≡◌, inl, ℕ, ◌*◌, Bool, false, Result, Ok, Err, IfErr, IfOk, List, length, replicate}
use Rattle.nr_calls.proofs.Common.{simulation_of, Planned, planned_said, Simulation, drawn_round, simulated, txs_said, NrTx, Fault}
use Rattle.nr_calls.proofs.Common.{refl, sym, ap, ◌∙◌, length-replicate, Entries, IsBlock, Link, link_said, Settings}
use Rattle.nr_calls.specs.{inside.Simulating.AreFilled, inside.Simulating.ComesTo, Simulating.lists_said, Simulating.simulating_by}
use Rattle.nr_calls.specs.declared.{simulating.RoundRoom.RoundRoom, rounds.Rounds.Rounds}
use Rattle.nr_calls.proofs.{DrawnRoundFacts.rounds-long, SimulationFacts.AreLong, SimulationFacts.simulated-long}
use Rattle.std.proofs.Math.Nat.{mul_assoc}
use Rattle.nr_calls.specs.declared.fault.Fault.TheVariants as fault

-- nothing is refused
pub simulating-ok : (table : Entries) (settings : Settings) (a : ℕ) (txs : List NrTx) (thresholds seeds : List ℕ)
    (room : RoundRoom) (p : Planned) (link : Link)
    → planned_said settings.rate2048 a ≡ Ok p → lists_said txs thresholds seeds room p.plan.c ≡ Ok tt
    → link_said table settings a ≡ Ok link
    → txs_said link txs ≡ Ok tt → simulating_by table settings a txs thresholds seeds room ≡ Ok link
unfolding simulating_by
simulating-ok table settings a txs thresholds seeds room p link planned lists linked sound = rw (planned, lists, linked, sound) refl

-- the result of rounds
abbrev pub HaveCome : Result Rounds Fault → Link → List NrTx → List ℕ → List ℕ → ℕ → Type 0
HaveCome result link txs thresholds seeds n =
    IfOk result (λ rounds. (block : List Bool) → IsBlock link block
    → simulation_of rounds ≡ simulated link block (drawn_round txs thresholds seeds) (length txs) n)

pub comes : (result : Result Rounds Fault) (said : Result Link Fault) (link : Link)
    (txs : List NrTx) (thresholds seeds : List ℕ) (n : ℕ)
    → said ≡ Ok link → HaveCome result link txs thresholds seeds n
    → IfErr result (λ e. e ≡ fault.Memory)
    → ComesTo result txs thresholds seeds n said
comes (Ok rounds) said link txs thresholds seeds n is told err = (link, is, told)
comes (Err e) said link txs thresholds seeds n is told err = inl err

pub filled : (result : Result Rounds Fault) (room : RoundRoom) (link : Link) (txs : List NrTx)
    (thresholds seeds : List ℕ)
    → HaveCome result link txs thresholds seeds room.delivered → length thresholds ≡ length txs
    → length seeds ≡ room.delivered * length txs
    → room.left ≡ length seeds * link.plan.c → room.erased ≡ length seeds * link.plan.c → IfOk result (AreFilled room)
filled (Err e) room link txs thresholds seeds told as-many as-many-too left erased = tt
filled (Ok rounds) room link txs thresholds seeds told as-many as-many-too left erased =
    let zeros : List Bool = replicate link.a false in
    let is = told zeros (length-replicate link.a false) in
    let n = room.delivered in
    let long : AreLong (simulated link zeros (drawn_round txs thresholds seeds) (length txs) n) n (length txs) link.plan.c =
    simulated-long link zeros (drawn_round txs thresholds seeds) (length txs) n
    (λ i below. rounds-long txs thresholds seeds n i as-many as-many-too below) in
    let rows : n * (length txs * link.plan.c) ≡ length seeds * link.plan.c =
    sym (mul_assoc n (length txs) link.plan.c) ∙ ap (λ k. k * link.plan.c) (sym as-many-too) in (
      ap (λ (s : Simulation). length s.delivered) is ∙ long.delivered,
      (
        ap (λ (s : Simulation). length s.left) is ∙ long.left ∙ rows ∙ sym left,
        ap (λ (s : Simulation). length s.erased) is ∙ long.erased ∙ rows ∙ sym erased,
      ),
    )
