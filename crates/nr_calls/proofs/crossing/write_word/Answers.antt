use Rattle.nr_calls.proofs.Common.{◌≢◌, ◌+◌, ◌*◌, ◌/◌, ◌^◌, ◌<◌, length, ap, ◌∙◌, arith, below_more}
use Rattle.nr_calls.proofs.{Common.get_or-set_other, Common.get_or-set_same, LowDigitFacts.eight_more}
use Rattle.std.{proofs.lemmas.Nat.shr-shr, proofs.lemmas.Nat.Bits.shr_and_one, specs.Int.RustNames.bit_and}
use Rattle.nr_calls.proofs.crossing.write_word.Goals as goal

-- eight more octets are written
pub loop-i-preserved : goal.loop-i-preserved
loop-i-preserved c = record {
  left = ap (λ rest. rest / 2 ^ 8) c.loop-i.invariant.left ∙ shr-shr c.args.word (8 * c.loop-i.i) 8
      ∙ ap (λ n. c.args.word / 2 ^ n) {x = 8 * c.loop-i.i + 8} {y = 8 * (c.loop-i.i + 1)} (omega arith);
  so_far = eight_more c.args.word c.loop-i.rest c.loop-i.i c.loop-i.out c.digits_of.result c.loop-i.invariant.left (omega arith)
      (omega arith) c.digits_of.ensures c.loop-i.invariant.so_far;
}

-- the next octet is written
pub loop-i-2-preserved : goal.loop-i-2-preserved
loop-i-2-preserved c =
    let n = c.loop-i-2.i in
    let within : n < length c.loop-i-2.out = omega (arith, c.loop-i-2.auto.out, c.loop-i-2-test.true) in
    record {
      left = ap (λ rest. rest / 2) c.loop-i-2.invariant.left ∙ shr-shr c.args.word n 1;
      so_far = below_more _ _
          (λ k lt.
          let other : k ≢ n = omega arith in
          get_or-set_other c.loop-i-2.out n k (bit_and c.loop-i-2.rest 1) 0 other ∙ c.loop-i-2.invariant.so_far k lt)
          (get_or-set_same c.loop-i-2.out n (bit_and c.loop-i-2.rest 1) 0 within
          ∙ ap (λ rest. bit_and rest 1) c.loop-i-2.invariant.left ∙ shr_and_one c.args.word n);
    }
