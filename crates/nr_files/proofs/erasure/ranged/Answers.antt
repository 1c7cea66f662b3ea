use Rattle.nr_files.proofs.Common.{◌≡◌, ℕ, ◌+◌, ◌||◌, false, get_or, take, arith, list_any, nat_tests, fill_by_all}
use Rattle.nr_files.proofs.Common.{is_within, get_or-replicate, length-replicate, take_all}
use Rattle.nr_files.proofs.MarkRangeFacts.{or-none}
use Rattle.nr_files.proofs.erasure.ranged.Goals.{then-range-from, else-range-from}
use Rattle.std.proofs.lemmas.List.Folds.{list_any_more}
use Rattle.nr_files.proofs.erasure.ranged.Goals as goal

pub loop-range-init : goal.loop-range-init
loop-range-init c = grind (arith, length-replicate, get_or-replicate)

-- the places of one more range are marked
pub loop-range-preserved : goal.loop-range-preserved
loop-range-preserved c =
    let ranges = c.args.ranges.now in
    let i = c.loop-range.range-index in
    let more : (m : ℕ) → list_any (is_within m) (take (i + 1) ranges)
    ≡ (list_any (is_within m) (take i ranges) || is_within m (get_or ranges i record { first = 0; last = 0 })) =
    λ m. list_any_more (is_within m) ranges i record { first = 0; last = 0 } (omega arith) in
    elim c.if-range-from.branch [
      | then-range-from w ↦ record {
        long = grind arith;
        marked = λ m below. grind (arith, nat_tests, more m, w.mark.ensures.marked m, c.loop-range.invariant.marked m);
      }
      | else-range-from w ↦ record {
        long = grind arith;
        marked = λ m below. grind (arith, nat_tests, more m, or-none, c.loop-range.invariant.marked m);
      }
    ]

pub returns : goal.returns
returns c = fill_by_all _ _ _ false c.loop-range.invariant.long (grind (arith, take_all))
