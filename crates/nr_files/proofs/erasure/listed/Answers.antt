use Rattle.nr_files.proofs.Common.{◌≡◌, ◌+◌, arith, get_or_default_zero, list_any, is_within, begins_before, furthest}
use Rattle.nr_files.proofs.FurthestFacts.{below-furthest, furthest-first, furthest-next}
use Rattle.std.proofs.lemmas.List.FromFn.{map-range_with_len_more}
use Rattle.nr_bitvec.proofs.NumberFacts.{ord_max-nat}
use Rattle.nr_files.proofs.erasure.listed.Goals as goal

pub loop-place-init : goal.loop-place-init
loop-place-init c = grind (arith, furthest-first)

-- one more place is marked if a range that began reaches it
pub loop-place-preserved : goal.loop-place-preserved
loop-place-preserved c =
    let m = c.loop-place.place in
    let next : c.max-end.result ≡ furthest (begins_before (m + 1)) c.args.count c.args.ranges.now =
    grind (arith, furthest-next, ord_max-nat, get_or_default_zero, c.in_ok-ends.ensures.ends m) in
    record {
      marks =
          grind (
            arith,
            below-furthest m c.args.count,
            map-range_with_len_more (λ k. list_any (is_within k) c.args.ranges.now) 0 m m,
          );
      end = next;
      room = omega arith;
    }
