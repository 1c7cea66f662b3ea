use Rattle.nr_files.proofs.Common.{rules, ℕ, List, Bor, tests, bytes_eq, YieldsList-from_slice}
use Rattle.std.proofs.lemmas.Iterator.Search.{position_from_yields_List}
use Rattle.nr_files.proofs.schedule.columns.place_of.Goals as goal

pub returns : goal.returns
returns c = position_from_yields_List (λ (p : Bor (List ℕ)). bytes_eq c.args.name.now p.now) _ _ _ c.position.ensures.ran
    (YieldsList-from_slice _ c.iter.ensures.rest) (λ x b q k. search (rules, tests))
