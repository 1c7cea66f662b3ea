use Rattle.nr_calls.proofs.Common.{◌∙◌, length, ap, sym, arith}
use Rattle.nr_calls.proofs.PackedFacts.{first-long, packed-heard}
use Rattle.nr_calls.proofs.packed.packed_marks.Goals as goal

-- both lists have a bit for each place
pub invariant_of-result : goal.invariant_of-result
invariant_of-result c = record {
  both = ap length c.in_ok-value.ensures ∙ first-long c.args.g c.args.bits.now c.requires.bits
      ∙ sym (ap length c.in_ok-heard.ensures ∙ first-long c.args.g c.args.known.now c.requires.known);
}

pub returns : goal.returns
returns c =
    rw (c.in_ok-heard.ensures, c.in_ok-value.ensures)
    (packed-heard c.args.g c.args.bits.now c.args.known.now (omega (arith, c.requires.known)))
