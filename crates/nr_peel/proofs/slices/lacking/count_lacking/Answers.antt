use Rattle.nr_peel.proofs.Common.{count_by-le-length, length-range_with_len, range_with_len, w64, get_or-replicate, bit_not, slice}
use Rattle.nr_peel.proofs.Common.{rules, false, slice_index, ◌≡◌, ◌==◌, not, arith, ap, ◌∙◌, bit_at, bit_at-zero}
use Rattle.nr_peel.proofs.SliceFacts.{lacking_more}
use Rattle.nr_peel.proofs.slices.lacking.count_lacking.Goals as goal

pub loop-p-init : goal.loop-p-init
loop-p-init c = λ j short. get_or-replicate 64 j 0 0 short

pub count_bits-requires : goal.count_bits-requires
count_bits-requires c = λ j short.
    omega (
      arith,
      c.loop-p.invariant j short,
      count_by-le-length (λ q. not (slice c.args.known.now j q)) (range_with_len 0 c.loop-p.p),
      length-range_with_len 0 c.loop-p.p,
      c.requires.few,
      c.loop-p-test.true,
    )

-- one position more is counted in each slice that lacks it
pub loop-p-preserved : goal.loop-p-preserved
loop-p-preserved c = λ j short.
    let known = c.args.known.now in
    let missing = bit_not w64 (slice_index known c.loop-p.p) in
    lacking_more known j c.loop-p.p (slice_index c.loop-p.lacking j) (slice_index c.if-missing-ne0.lacking j) short
    (search rules) (c.loop-p.invariant j short)
    (elim c.if-missing-ne0.branch [
      | goal.then-missing-ne0 w ↦ ap (λ xs. slice_index xs j) w.lacking-is ∙ w.count_bits.ensures j short
      | goal.else-missing-ne0 w ↦
          let none : (bit_at missing j == 1) ≡ false = ap (λ n. bit_at n j == 1) w.if-missing-ne0.false
          ∙ ap (λ n. n == 1) (bit_at-zero j) in
          ap (λ xs. slice_index xs j) w.lacking-is ∙ grind (arith, none)
    ])
