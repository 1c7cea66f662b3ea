use Rattle.nr_calls.proofs.Common.{◌≡◌, ◌≢◌, ◌<◌, ap, ◌∙◌, arith, below_more, get_or, get_or-set_other}
use Rattle.nr_calls.proofs.Common.{get_or-set_same, false, length, ◌≤◌, map, take, numbers, word_of, is_one}
use Rattle.nr_calls.proofs.EncodedWordFacts.{begins, info_most, info_within, word-for}
use Rattle.std.proofs.Math.ListN.{length-set}
use Rattle.nr_ldpcenc.specs.Rows.{plan_checks}
use Rattle.nr_calls.proofs.encoding.word_on.Goals as goal

pub set-requires : goal.set-requires
set-requires c = grind (arith, info_within)

-- one more bit is set
pub loop-i-preserved : goal.loop-i-preserved
loop-i-preserved c =
    let p = c.args.plan.now in
    let n = c.loop-i.i in
    let long = c.loop-i.invariant.long in
    let below : n < p.k = omega (arith, c.requires.whole) in
    let columns = info_within p.graph p.z p.k n below p.sound.columns in
    let within : n < length c.loop-i.word = omega (arith, long, columns) in
    let same : length c.set.new.self ≡ length c.loop-i.word = ap length c.set.ensures ∙ simp length-set in
    record {
      long = same ∙ long;
      so_far = below_more _ _
          (λ k lt.
          let other : k ≢ n = omega arith in
          ap (λ w. get_or w k false) c.set.ensures ∙ get_or-set_other c.loop-i.word n k _ false other
          ∙ c.loop-i.invariant.so_far k lt)
          (ap (λ w. get_or w n false) c.set.ensures ∙ get_or-set_same c.loop-i.word n _ false within);
    }

-- The loop has set all K bits, and `fill` makes of them the word that begins with them and meets every row.
pub returns-clause-word : goal.returns-clause-word
returns-clause-word c =
    let p = c.args.plan.now in
    let octets = c.args.octets.now in
    let most = info_most p.graph p.z p.k p.sound.columns in
    let fits : p.k ≤ length c.loop-i.word = omega (arith, most, c.loop-i.invariant.long) in
    let info : take p.k c.loop-i.word ≡ map is_one octets =
    begins c.loop-i.word octets p.k c.requires.whole fits
    (λ i lt. c.loop-i.invariant.so_far i (omega (arith, lt, c.requires.whole, c.loop-i-test.false))) in
    c.fill.ensures.completed ∙ ap (word_of (plan_checks c.args.table.now p)) info
    ∙ word-for c.args.table.now p.graph (numbers p) (map is_one octets) p.sound.set_is
