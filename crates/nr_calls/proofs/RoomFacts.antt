-- The room for what is found is the room that is asked for.
use Rattle.nr_calls.proofs.Common.{nat_tests, ◌≡◌, ℕ, ◌*◌, ◌/◌, true, Result, Ok, Err, length, IfOk, refl}
use Rattle.nr_calls.proofs.Common.{◌∙◌, arith, eq-eqb, with_fault, Entries, Link, is_size, link_said, Verdict, contradiction}
use Rattle.nr_calls.proofs.Common.{delivered, open_still, verdict, Settings, IsLastBlock, block_fits, findings_of, Planned}
use Rattle.nr_calls.proofs.Common.{planned_said, room_length, Fault, Found}
use Rattle.nr_calls.specs.{Findings.is_room, inside.Words.has_room, declared.findings.Room.Room}
use Rattle.nr_calls.specs.declared.fault.Fault.TheVariants as fault

-- the link's numbers are those of the plan
pub same-plan : (table : Entries) (settings : Settings) (a : ℕ) (link : Link) (p : Planned)
    → with_fault fault.Desk (link_said table settings a) ≡ Ok link
    → planned_said settings.rate2048 a ≡ Ok p → (link.plan ≡ p.plan) × ((link.a ≡ a) × (is_size a ≡ true))
unfolding link_said planned_said
same-plan table settings a link p linked planned = grind (arith, nat_tests)

-- and so are its base graph and its room
pub same-graph : (table : Entries) (settings : Settings) (a : ℕ) (link : Link) (p : Planned)
    → link_said table settings a ≡ Ok link → planned_said settings.rate2048 a ≡ Ok p → link.graph ≡ p.graph
unfolding link_said planned_said
same-graph table settings a link p linked planned = grind (arith, nat_tests)

pub same-room : (table : Entries) (settings : Settings) (a : ℕ) (link : Link) (p : Planned)
    → link_said table settings a ≡ Ok link → planned_said settings.rate2048 a ≡ Ok p
    → room_length p.graph p.plan ≡ room_length link.graph link.plan
unfolding link_said planned_said
same-room table settings a link p linked planned = grind (arith, nat_tests)

pub octets-of : (a : ℕ) → is_size a ≡ true → 8 * (a / 8) ≡ a
octets-of a is = grind (arith, nat_tests)

last-fits : (v : Verdict) (m a : ℕ) → IsLastBlock a v → a ≡ 8 * m → block_fits m v ≡ true
last-fits (delivered block) m a last is = eq-eqb (length block) (8 * m) (last block refl ∙ is)
last-fits open_still m a last is = refl
last-fits contradiction m a last is = refl

-- what is found fills it
pub filled : (r : Result Found Fault) (room : Room) (link : Link) (p : Planned) (a n : ℕ) → is_room room p.plan.c a n ≡ true
    → (link.plan ≡ p.plan) × ((link.a ≡ a) × (is_size a ≡ true)) → IfOk r (λ f. length f.outcomes.items ≡ n)
    → IfOk r (λ f. length f.left.items ≡ link.plan.c)
    → IfOk r (λ f. IsLastBlock link.a (verdict f.last)) → IfOk r (λ f. has_room room (findings_of f) ≡ true)
filled (Ok f) room link p a n asked same outcomes left block = grind (arith, nat_tests, octets-of, last-fits)
filled (Err e) room link p a n asked same outcomes left block = tt
