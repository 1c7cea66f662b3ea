use Rattle.nr_calls.proofs.Common.{◌≡◌, ◌<◌, sym, ◌∙◌, length, arith, ext_get_or, length-map, items_listed}
use Rattle.nr_calls.proofs.Common.{kept_listed, kept_of}
use Rattle.nr_calls.proofs.PlacedEntryFacts.{listed-few, no_entry, some-within, written-more}
use Rattle.nr_calls.proofs.table.write_entries.Goals.{in-Some, in_default}
use Rattle.nr_calls.proofs.table.write_entries.Goals as goal

pub overflow_cast-n : goal.overflow_cast-n
overflow_cast-n c = grind (arith, listed-few, length-map)

pub loop-n-preserved : goal.loop-n-preserved
loop-n-preserved c = grind (arith, length-map, in-Some, written-more, in_default, some-within)

pub returns : goal.returns
returns c =
    let all = length-map (items_listed c.args.table.now) kept_of in
    let long : length c.loop-n.out ≡ length (items_listed c.args.table.now) = omega (arith, all) in
    ext_get_or no_entry c.loop-n.out (kept_listed c.args.table.now)
    (long ∙ sym (length-map (items_listed c.args.table.now) kept_of))
    (λ i lt. let below : i < c.loop-n.n = omega arith in c.loop-n.invariant i below)
