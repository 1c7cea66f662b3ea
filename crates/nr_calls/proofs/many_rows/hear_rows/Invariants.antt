use Rattle.std.proofs.Common.{◌≡◌, Ok, [], length, map, take}
use Rattle.nr_blockdesk.specs.Receiving.{verdict}
use Rattle.nr_calls.specs.inside.Words.{rows_found}
use Rattle.nr_calls.specs.Many.{each_said, first_rows}
use Rattle.nr_calls.specs.Receiving.{heard_said}
use Rattle.nr_calls.proofs.FoundRowFacts.{AreRows}
use Rattle.nr_calls.proofs.many_rows.hear_rows.Given as goal

-- what is found of the blocks so far
abbrev pub invariant-loop-k : goal.invariant-loop-k
invariant-loop-k l = record {
  said : each_said (heard_said l.first.link [] l.txs) (take l.k (first_rows l.fn.rows.places l.fn.rows.room.count
      l.fn.rows.octets.now))
      ≡ Ok (rows_found l.initial.many.each l.many.outcomes.items l.many.left.items (map verdict l.many.last.items));
  each : l.many.each ≡ l.initial.many.each;
  many : length (map verdict l.many.last.items) ≡ l.k;
  rows : AreRows l.initial.many.each l.many.outcomes.items l.many.left.items (map verdict l.many.last.items);
  link : l.receiver.link ≡ l.first.link;
}
