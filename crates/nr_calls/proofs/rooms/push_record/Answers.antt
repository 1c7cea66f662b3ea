use Rattle.nr_calls.proofs.Common.{◌≡◌, ◌*◌, ◌++◌, ◌∷◌, [], Option, Bool, List, map, ap, ◌∙◌, arith}
use Rattle.nr_calls.proofs.Common.{append_assoc, take_all, digit, position_octet}
use Rattle.nr_calls.proofs.PositionOctetFacts.{positions-more}
use Rattle.nr_calls.proofs.rooms.push_record.Goals as goal

pub loop-i-preserved : goal.loop-i-preserved
loop-i-preserved c =
    positions-more c.args.store.now c.marks-marks.result.now.heard.items c.marks-marks.result.now.value.items c.loop-i.i
    c.window.result
    c.window-in-loop-i.result
    c.marks-marks.ensures.marks c.marks-marks.ensures.bits c.window.ensures c.window-in-loop-i.ensures
    c.loop-i.octets.items c.extend_from_slice.new.self.items c.push.new.self.items c.position_octets-places.result c.min.result
    c.loop-i.invariant
    c.in_ok-extend_from_slice.ensures.items (omega arith) (omega arith) (omega arith) c.position_octets-places.ensures

pub returns : goal.returns
returns c =
    let all = take_all (64 * c.loop-i.i) c.args.store.now.first (omega arith) in
    let items : c.push.new.self.items ≡ c.args.octets.now.items ++ digit c.args.store.now.clash ∷ [] = grind arith in
    c.loop-i.invariant ∙ ap (λ (os : List (Option Bool)). c.push.new.self.items ++ map position_octet os) all
    ∙ ap (λ xs. xs ++ map position_octet c.args.store.now.first) items
    ∙ append_assoc c.args.octets.now.items (digit c.args.store.now.clash ∷ []) (map position_octet c.args.store.now.first)
