use Rattle.nr_shifttable.proofs.Common.{[], arith, IsInside, common_steps, KeptEntry, item_kept, places_from}
use Rattle.std.proofs.lemmas.List.Elements.{All-more}
use Rattle.nr_shifttable.proofs.listed.judge_places.Goals as goal

-- This entry is within its base graph and past the one before, so the definition goes on to the next as well.
pub loop-entry-preserved : goal.loop-entry-preserved
unfolding places_from
loop-entry-preserved c =
    let first : KeptEntry = record { graph = 0; entry = record { row = 0; col = 0; values = [] } } in
    record {
      said = grind (arith, common_steps);
      inside = All-more (λ e. IsInside (item_kept e)) c.args.entries.now c.loop-entry.entry-index first c.loop-entry-test.true
          c.loop-entry.invariant.inside c.in-Some.ensures.inside;
      few = omega arith;
      short = omega (arith, c.in-Some.ensures.few);
    }
