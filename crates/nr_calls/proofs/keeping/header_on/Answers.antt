use Rattle.nr_calls.proofs.Common.{◌≡◌, [], ◌∷◌, subst, IfOk-weaker, to_le_bytes, w32, flat_map, Numbers}
use Rattle.nr_shifttable.specs.Listed.{graph_number}
use Rattle.nr_calls.proofs.keeping.header_on.Goals as goal

pub returns : goal.returns
returns c =
    let link = c.args.link.now in
    IfOk-weaker c.octets_of.result _ _
    (λ octets is. subst (λ (n : Numbers). octets.items ≡ flat_map (to_le_bytes w32)
    (2 ∷ link.a ∷ graph_number link.graph ∷ n.z ∷ n.kdash ∷ n.c ∷ link.buffer.ncb ∷ c.args.digest ∷ []))
    c.plan-plan.ensures.numbers
    (rw (c.a.ensures, c.graph_number.ensures, c.plan-plan.ensures.graph, c.ncb.ensures, c.buffer.ensures) at is))
    c.octets_of.ensures
