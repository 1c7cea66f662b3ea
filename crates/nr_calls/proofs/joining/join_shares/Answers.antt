use Rattle.nr_calls.proofs.Common.{◌≡◌, ◌+◌, ◌*◌, ◌<◌, ◌≤◌, ◌++◌, ◌∷◌, [], length, map, take}
use Rattle.nr_calls.proofs.Common.{ap, sym, ◌∙◌, arith, is_one, length-append, length-map, numbers}
use Rattle.nr_segment.specs.CodeBlock.{share}
use Rattle.nr_calls.specs.{Joining.has_crc, Many.nth_row}
use Rattle.nr_calls.proofs.JoiningFacts.{found-all, found-more, share-long, times-more}
use Rattle.nr_calls.proofs.{ManyFacts.row-inside, ManyFacts.row-long, ManySentFacts.rows-done, ManySentFacts.rows-more}
use Rattle.nr_calls.proofs.joining.join_shares.Goals as goal

-- a row's octets are within all of them
pub overflow_mul-r : goal.overflow_mul-r
overflow_mul-r c =
    let p = c.args.plan.now in
    omega (arith, row-inside p.kdash c.loop-r.r p.c _ (omega (arith, c.loop-r-test.true)) c.requires.long)

pub overflow_mul-r-in-loop-r : goal.overflow_mul-r-in-loop-r
overflow_mul-r-in-loop-r c =
    let p = c.args.plan.now in
    omega (arith, row-inside p.kdash c.loop-r.r p.c _ (omega (arith, c.loop-r-test.true)) c.requires.long)

pub overflow_add-r : goal.overflow_add-r
overflow_add-r c =
    let p = c.args.plan.now in
    omega (arith, row-inside p.kdash c.loop-r.r p.c _ (omega (arith, c.loop-r-test.true)) c.requires.long)

pub slice_bounds-ones-end : goal.slice_bounds-ones-end
slice_bounds-ones-end c =
    let p = c.args.plan.now in
    omega (arith, row-inside p.kdash c.loop-r.r p.c _ (omega (arith, c.loop-r-test.true)) c.requires.long)

pub ones-requires : goal.ones-requires
ones-requires c =
    let p = c.args.plan.now in
    omega (
      arith,
      row-long p.kdash c.loop-r.r c.args.octets.now
          (row-inside p.kdash c.loop-r.r p.c _ (omega (arith, c.loop-r-test.true)) c.requires.long),
    )

pub extend_range-requires-clause-inside : goal.extend_range-requires-clause-inside
extend_range-requires-clause-inside c =
    let p = c.args.plan.now in
    omega (
      arith,
      ap length c.in_ok-row.ensures,
      length-map (nth_row p.kdash c.loop-r.r c.args.octets.now) is_one,
      row-long p.kdash c.loop-r.r c.args.octets.now
          (row-inside p.kdash c.loop-r.r p.c _ (omega (arith, c.loop-r-test.true)) c.requires.long),
    )

-- the shares of the code blocks that are left fit
pub extend_range-requires-clause-room : goal.extend_range-requires-clause-room
extend_range-requires-clause-room c =
    let p = c.args.plan.now in
    omega (
      arith,
      c.loop-r.invariant.room,
      row-inside (share (numbers p)) c.loop-r.r p.c p.b (omega (arith, c.loop-r-test.true)) (sym p.sound.shared),
    )

pub push-requires : goal.push-requires
push-requires c =
    let p = c.args.plan.now in
    omega (arith, c.loop-r.invariant.count, c.loop-r-test.true, p.sound.few)

-- the share and the CRC of one code block more
pub loop-r-preserved : goal.loop-r-preserved
loop-r-preserved c =
    let p = c.args.plan.now in
    let n = numbers p in
    let r = c.loop-r.r in
    let octets = c.args.octets.now in
    let inv = c.loop-r.invariant in
    let row : c.in_ok-row.row.items ≡ map is_one (nth_row p.kdash r octets) = c.in_ok-row.ensures in
    let below : r < p.c = omega (arith, c.loop-r-test.true) in
    let few : share n ≤ p.kdash = omega arith in
    let next : c.extend_range.new.self.items ≡ c.loop-r.bits.items ++ take (share n) (map is_one (nth_row p.kdash r octets)) =
    c.extend_range.ensures.items ∙ ap (λ xs. c.loop-r.bits.items ++ take (share n) xs) row in
    let more = times-more r (share n) in
    record {
      bits = rows-more (λ o. take (share n) (map is_one o)) p.kdash p.c r octets _ below
          (next ∙ ap (λ xs. xs ++ take (share n) (map is_one (nth_row p.kdash r octets))) inv.bits);
      passed = found-more (λ o. has_crc c.args.poly (map is_one o)) p.kdash p.c r octets _ below
          (c.push.ensures.items
          ∙ ap (λ b. c.loop-r.passed.items ++ b ∷ []) (c.has_crc.ensures ∙ ap (has_crc c.args.poly) row)
          ∙ ap (λ bs. bs ++ has_crc c.args.poly (map is_one (nth_row p.kdash r octets)) ∷ []) inv.passed);
      count = ap length c.push.ensures.items ∙ length-append c.loop-r.passed.items (c.has_crc.result ∷ [])
          ∙ ap (λ k. k + 1) inv.count;
      long = ap length next ∙ length-append c.loop-r.bits.items (take (share n) (map is_one (nth_row p.kdash r octets)))
          ∙ omega (arith, inv.long, more, share-long p.kdash p.c r (share n) octets below c.requires.long few);
      room = omega (arith, inv.room, more, c.extend_range.ensures.room);
    }

pub returns-clause-bits : goal.returns-clause-bits
returns-clause-bits c =
    let p = c.args.plan.now in
    rows-done (λ o. take (share (numbers p)) (map is_one o)) p.kdash p.c c.loop-r.r c.args.octets.now _
    (omega (arith, c.loop-r-test.false, c.loop-r.auto.r-end)) c.loop-r.invariant.bits

pub returns-clause-passed : goal.returns-clause-passed
returns-clause-passed c =
    let p = c.args.plan.now in
    found-all (λ o. has_crc c.args.poly (map is_one o)) p.kdash p.c c.loop-r.r c.args.octets.now _
    (omega (arith, c.loop-r-test.false, c.loop-r.auto.r-end)) c.loop-r.invariant.passed

pub returns-clause-long : goal.returns-clause-long
returns-clause-long c =
    let p = c.args.plan.now in
    let all : c.loop-r.r ≡ p.c = omega (arith, c.loop-r-test.false, c.loop-r.auto.r-end) in
    c.loop-r.invariant.long ∙ ap (λ k. k * share (numbers p)) all
