-- Each item adds its range, or there is no list.
use Rattle.nr_files.proofs.Common.{rules, ◌≡◌, [], ◌∷◌, ◌++◌, nat_eq, arith, tests, append-nil, length_push}
use Rattle.nr_files.{specs.PlaceLists.place_list, proofs.PlaceItemFacts.items-more, proofs.PlaceItemFacts.items-none}
use Rattle.std.proofs.lemmas.{List.drop_all, Iterator.Splits.YieldsList-from_slice_split}
use Rattle.std.proofs.lemmas.Iterator.Consumers.{YieldsList-turn, YieldsList-end}
use Rattle.nr_files.proofs.place_fields.place_list.Goals as goal

pub loop-item-preserved : goal.loop-item-preserved
loop-item-preserved c =
    let t =
    YieldsList-turn (YieldsList-from_slice_split _ (λ b. nat_eq b 32) c.args.text.now (cc) (cc) c.split-item-items.ensures.closure
    (λ x b q k. search (rules, tests))) c.loop-item.yielded _ c.loop-item.yielded_by _ _ c.in-Some.item c.in-Some.is
    c.next.ensures.steps in
    let pushed : c.push.new.self.items ≡ c.loop-item.ranges.items ++ c.in-Some-range_of.range ∷ [] =
    c.in_ok-push-in-Some-range_of.ensures.items in
    rw (pushed, length_push c.loop-item.yielded c.in-Some.item)
    (items-more _ _ c.in-Some.item.now _ t.0 t.1 c.loop-item.invariant c.in-Some-range_of.range c.in-Some-range_of.ensures)

pub returns-in-None-range_of : goal.returns-in-None-range_of
unfolding place_list
returns-in-None-range_of c =
    let t =
    YieldsList-turn (YieldsList-from_slice_split _ (λ b. nat_eq b 32) c.args.text.now (cc) (cc) c.split-item-items.ensures.closure
    (λ x b q k. search (rules, tests))) c.loop-item.yielded _ c.loop-item.yielded_by _ _ c.in-Some.item c.in-Some.is
    c.next.ensures.steps in
    items-none _ _ c.in-Some.item.now _ t.0 t.1 c.loop-item.invariant c.in-None-range_of.ensures

pub returns : goal.returns
unfolding place_list
returns c =
    let t =
    YieldsList-end (YieldsList-from_slice_split _ (λ b. nat_eq b 32) c.args.text.now (cc) (cc) c.split-item-items.ensures.closure
    (λ x b q k. search (rules, tests))) c.loop-item.yielded _ c.loop-item.yielded_by _ _ c.in-None.is c.next.ensures.steps in
    grind (arith, drop_all, append-nil)
