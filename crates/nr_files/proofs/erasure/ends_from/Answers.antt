use Rattle.nr_files.proofs.Common.{ℕ, arith, nat_tests, get_or-set_at, get_or_default_zero, get_or-set_other}
use Rattle.nr_files.proofs.FurthestFacts.{furthest-turn}
use Rattle.nr_files.proofs.erasure.ends_from.Goals.{then-range-from, else-range-from}
use Rattle.std.proofs.lemmas.List.{length-set}
use Rattle.nr_files.proofs.erasure.ends_from.Goals as goal

-- the range raises the end at its first place only
pub loop-range-preserved : goal.loop-range-preserved
loop-range-preserved c =
    let i = c.loop-range.range-index in
    let turn = λ (m : ℕ). furthest-turn m c.args.count i c.args.ranges.now record { first = 0; last = 0 } (omega arith) in
    elim c.if-range-from.branch [
      | then-range-from w ↦ record {
        len = grind (arith, length-set);
        ends =
            λ m below.
            grind (arith, nat_tests, turn m, get_or-set_at, get_or-set_other, get_or_default_zero, c.loop-range.invariant.ends m);
      }
      | else-range-from w ↦
          record { len = grind arith; ends = λ m below. grind (arith, nat_tests, turn m, c.loop-range.invariant.ends m) }
    ]
