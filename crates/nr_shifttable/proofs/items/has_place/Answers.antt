use Rattle.nr_shifttable.proofs.{Common.sym, Common.arith, ItemPlaceFacts.past-no_place}
use Rattle.nr_shifttable.proofs.items.has_place.Goals as goal

-- an item past all others is at the place of none
pub returns-then-past-place_key : goal.returns-then-past-place_key
returns-then-past-place_key c = sym (past-no_place c.args.items.now c.args.past c.args.item.now c.requires (omega arith))
