use Rattle.std.proofs.Common.{◌≡◌, ◌∙◌, ap, sym, subst, arith, Bool, List, ℕ, ◌+◌, ◌++◌, length, take}
use Rattle.std.proofs.lemmas.List.{length-append}
use Rattle.std.proofs.lemmas.List.Folds.{length-flat_map-take}
use Rattle.std.proofs.lemmas.Slice.{take-put_mid}
use Rattle.nr_bitvec.specs.BitList.{BitList}
use Rattle.nr_calls.specs.Crossing.{AreBits}
use Rattle.nr_calls.specs.inside.Words.{joined}
use Rattle.nr_calls.proofs.ManySentFacts.{bits-joined, joined-more}
use Rattle.nr_calls.proofs.many_sent.write_all.Goals as goal

pub slice_bounds-write_bits-end : goal.slice_bounds-write_bits-end
slice_bounds-write_bits-end c =
    let fits = length-flat_map-take (λ (b : BitList). b.items) c.args.parts.now c.loop-bits.bits-index c.bits-item.result
    c.loop-bits-test.true in
    let item = ap (λ (b : BitList). length b.items) c.bits-item.is in
    omega (arith, fits, item, c.len.ensures.value, c.loop-bits.auto.out, c.requires, c.loop-bits.invariant.at_is)

-- The places up to `at` have the bits of the parts before, and this part's bits are written after them.
pub loop-bits-preserved : goal.loop-bits-preserved
loop-bits-preserved c =
    let parts = c.args.parts.now in
    let i = c.loop-bits.bits-index in
    let one = c.bits-item.result in
    let fits = length-flat_map-take (λ (b : BitList). b.items) parts i one c.loop-bits-test.true in
    let item = ap (λ (b : BitList). length b.items) c.bits-item.is in
    let more : joined (take i parts) ++ one.items ≡ joined (take (i + 1) parts) =
    joined-more (λ (b : BitList). b.items) parts i one (joined (take i parts) ++ one.items) c.loop-bits-test.true
    (ap (λ (b : BitList). joined (take i parts) ++ b.items) c.bits-item.is) in
    let next : c.loop-bits.at + c.len.result ≡ length (joined (take i parts) ++ one.items) =
    omega (arith, length-append (joined (take i parts)) one.items, c.len.ensures.value, c.loop-bits.invariant.at_is) in
    record {
      at_is = next ∙ ap length more;
      written = subst (λ (o : List ℕ). AreBits (joined (take (i + 1) parts)) o)
          (sym (take-put_mid c.loop-bits.at _ c.loop-bits.out c.write_bits.new.out (c.loop-bits.at + c.len.result)
          (omega (arith, c.write_bits.ensures.long, c.len.ensures.value))
          (omega (arith, fits, item, c.loop-bits.auto.out, c.requires, c.loop-bits.invariant.at_is))))
          (subst (λ (b : List Bool). AreBits b (take c.loop-bits.at c.loop-bits.out ++ c.write_bits.new.out)) more
          (bits-joined (joined (take i parts)) one.items (take c.loop-bits.at c.loop-bits.out) c.write_bits.new.out
          c.loop-bits.invariant.written c.write_bits.ensures));
    }
