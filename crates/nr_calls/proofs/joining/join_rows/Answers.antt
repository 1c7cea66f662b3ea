use Rattle.nr_calls.proofs.Common.{◌≤◌, List, ℕ, Bool, length, map, ap, ◌∙◌, arith}
use Rattle.nr_calls.proofs.Common.{is_one, length-map, length-map-range_with_len, length-take-le, numbers}
use Rattle.nr_calls.specs.{Joining.has_crc, Many.first_rows, Many.nth_row}
use Rattle.nr_calls.proofs.JoiningFacts.{all-joined}
use Rattle.nr_calls.proofs.joining.join_rows.Goals as goal

pub copy_range-requires : goal.copy_range-requires
copy_range-requires c =
    omega (arith, c.in_ok-passed.ensures.long, c.args.plan.now.sound.shared, c.requires.whole)

pub returns-clause-joined : goal.returns-clause-joined
returns-clause-joined c =
    all-joined (numbers c.args.plan.now) c.args.a c.args.octets.now _ _ _ _ _ c.in_ok-passed.ensures.bits
    (rw c.end_poly.ensures at c.in_ok-passed.ensures.passed)
    c.has_crc-block_passed.ensures c.of_block.ensures c.in_ok-block.ensures

pub returns-clause-passed : goal.returns-clause-passed
returns-clause-passed c =
    let p = c.args.plan.now in
    let has : List ℕ → Bool = λ o. has_crc c.end_poly.result (map is_one o) in
    ap length c.in_ok-passed.ensures.passed
    ∙ length-map (first_rows p.kdash p.c c.args.octets.now) has
    ∙ length-map-range_with_len (λ j. nth_row p.kdash j c.args.octets.now) 0 p.c

pub returns-clause-block : goal.returns-clause-block
returns-clause-block c =
    let within : c.args.a ≤ length c.join_shares.new.bits.items =
    omega (arith, c.in_ok-passed.ensures.long, c.args.plan.now.sound.shared, c.requires.whole) in
    ap length c.in_ok-block.ensures ∙ length-take-le c.args.a _ within
