use Rattle.nr_calls.proofs.Common.{◌≡◌, ◌-◌, ◌*◌, Some, true, rules, list_all, cols_of, info_cols_of, has_graph}
use Rattle.nr_calls.proofs.{Common.base_graph, Common.is_coded, EncodedWordFacts.room_refused}
use Rattle.nr_calls.proofs.encoding.encode_plan.Goals as goal

-- The base graph, the lifting size, K and the octets passed the tests before, so the room is the first cause.
pub returns-then-plan-room-clause-said : goal.returns-then-plan-room-clause-said
returns-then-plan-room-clause-said c =
    let p = c.in_ok-plan.plan in
    let g = c.in-Some.graph in
    let picked : base_graph c.args.graph ≡ Some g = cc in
    let there : has_graph g c.args.table.now ≡ true = search rules in
    let coded : list_all is_coded c.args.octets.now ≡ true = search rules in
    let graph = c.in_ok-plan.ensures.graph in
    let size = c.in_ok-plan.ensures.size in
    let columns : p.k ≡ info_cols_of g * c.args.z = rw (graph, size) at p.sound.columns in
    let rest : p.n ≡ (cols_of g - 2) * c.args.z = rw (graph, size) at p.sound.coded in
    room_refused c.args.table.now c.args.graph c.args.z c.args.octets.now c.args.room g p.k p.n picked there
    c.in_ok-plan.ensures.said
    c.if-octets-plan.false columns coded c.if-plan-room.true rest
