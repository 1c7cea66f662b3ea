use Rattle.nr_peel.proofs.Common.{◌≡◌, sym, map, get_or-map, length-map, [], ◌∙◌, arith, Entry, value_in, one_at}
use Rattle.nr_peel.proofs.{Common.stands, StoppingCheckFacts.search_is, RowPositionFacts.count_more}
use Rattle.nr_peel.proofs.check.members.Goals as goal

-- one entry more, whose position counts if the set has it
pub loop-entry-preserved : goal.loop-entry-preserved
loop-entry-preserved c =
    let l = c.args.lifted.now in
    let f = λ (e : Entry). one_at l.plan.z c.args.lane e.col (value_in l.plan.set e) in
    let es = c.row-entry-items.result.now in
    let here = get_or-map f es c.loop-entry.entry-index (record { row = 0; col = 0; values = [] }) 0 c.loop-entry-test.true in
    let more = rw (here, sym c.place.ensures, c.row-entry-items.ensures)
    at (count_more (λ q. stands q c.args.set.now) (map f es) c.loop-entry.entry-index 0
    (omega (arith, length-map es f, c.loop-entry-test.true))) in
    let met : c.is_ok.result ≡ stands c.place.result c.args.set.now =
    c.is_ok.ensures.value ∙ search_is _ _ _ c.binary_search.ensures.position c.requires.rising in
    grind (arith, more, met)
