use Rattle.nr_calls.proofs.{Common.◌∙◌, Common.arith, Common.encoded_octet, Common.encoded_of, PositionOctetFacts.places-more}
use Rattle.nr_calls.proofs.encoding.write_encoded.Goals as goal

pub loop-n-preserved : goal.loop-n-preserved
loop-n-preserved c =
    places-more (encoded_octet (encoded_of c.args.coded.now) c.args.octets.now) c.loop-n.out c.loop-n.n c.octet_at.result
    (omega arith)
    c.loop-n.invariant c.octet_at.ensures

pub returns : goal.returns
returns c = record {
  long = c.loop-n.auto.out ∙ c.requires ∙ c.args.coded.now.plan.sound.coded;
  each = λ n below. c.loop-n.invariant n (omega arith);
}
