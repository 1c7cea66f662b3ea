use Rattle.nr_calls.proofs.Common.{◌≡◌, ◌<◌, length, sym, ◌∙◌, arith, length-set, bit_at-lt, bit_at, first_of}
use Rattle.nr_calls.proofs.Common.{position_octet}
use Rattle.nr_calls.proofs.PositionOctetFacts.{place-none, place-one, places-left, places-more}
use Rattle.nr_calls.proofs.rooms.position_octets.Goals.{then-heard-k-eq0, else-heard-k-eq0}
use Rattle.nr_calls.proofs.rooms.position_octets.Goals as goal

-- Octet k becomes `NOTHING` if nothing was heard there. Else it stays the digit of its bit, which was written before.
pub loop-k-preserved : goal.loop-k-preserved
loop-k-preserved c =
    let k = c.loop-k.k in
    let within : k < length c.loop-k.octets = omega (arith, c.loop-k.invariant.long, c.loop-k-test.true) in
    let heard = c.write_word.ensures k (omega (arith, c.write_word.auto.out, c.loop-k-test.true)) in
    let is : c.if-heard-k-eq0.octets ≡ position_octet (first_of c.args.marks c.args.bits k) = elim c.if-heard-k-eq0.branch [
      | then-heard-k-eq0 w ↦
          place-none (bit_at c.args.marks k) (bit_at c.args.bits k) c.if-heard-k-eq0.octets w.octets-is
          (sym heard ∙ w.if-heard-k-eq0.true)
      | else-heard-k-eq0 w ↦
          place-one (bit_at c.args.marks k) (bit_at c.args.bits k) c.if-heard-k-eq0.octets
          (w.octets-is ∙ c.loop-k.invariant.left k (omega arith) c.loop-k-test.true)
          (λ none. w.if-heard-k-eq0.false (heard ∙ none))
          (bit_at-lt c.args.marks k) (bit_at-lt c.args.bits k)
    ] in
    record {
      so_far = places-more (λ j. position_octet (first_of c.args.marks c.args.bits j)) c.loop-k.octets k c.if-heard-k-eq0.octets
          within c.loop-k.invariant.so_far is;
      left = places-left (bit_at c.args.bits) c.loop-k.octets k c.if-heard-k-eq0.octets c.loop-k.invariant.left;
      long = length-set c.loop-k.octets k c.if-heard-k-eq0.octets ∙ c.loop-k.invariant.long;
    }
