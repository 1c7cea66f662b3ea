use Rattle.nr_lifting.proofs.Names.{[], ap, arith, get_or_read, is_set, place, sym, ◌%◌, ◌*◌, ◌+◌, ◌/◌, ◌==◌}
use Rattle.nr_lifting.proofs.Names.{◌∙◌, ◌≡◌}
use Rattle.nr_lifting.proofs.DoubledLaneFacts.{bit_is, bit_within, low_bit}
use Rattle.nr_lifting.proofs.lanes.doubled_lanes.DoubledLanes.get.Goals as goal

pub index-requires : goal.index-requires
index-requires g c = omega (arith, bit_within c.self.invariant c.self.view_is c.args.p c.requires)

-- Bit p is in block p / size at p % size, and the doubled lane's first copy has it there.
pub returns : goal.returns
returns g c =
    let z = c.self.inside.size in
    let t = c.args.p % z in
    let within = bit_within c.self.invariant c.self.view_is c.args.p c.requires in
    let there : 64 * (t / 64) + t % 64 + 0 ≡ t = omega arith in
    rw (← c.self.view_is)
    (ap (λ n. n == 1) (low_bit c.window.result ∙ c.window.ensures 0 (omega arith) ∙ ap (place c.index.result.now) there)
    ∙ ap (λ doubled. is_set doubled t)
    (get_or_read c.self.inside.blocks.items (c.args.p / z) c.index.result.now within c.index.ensures [])
    ∙ sym (bit_is z c.self.invariant.some c.self.inside.blocks.items c.args.p))
