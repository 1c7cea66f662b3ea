use Rattle.nr_calls.proofs.{Common.arith, Common.coded_octet, Common.coded_of, PositionOctetFacts.places-more}
use Rattle.nr_calls.proofs.codeword.write_coded.Goals as goal

pub loop-n-preserved : goal.loop-n-preserved
loop-n-preserved c =
    places-more (coded_octet (coded_of c.args.coded.now)) c.loop-n.out c.loop-n.n c.octet_at.result (omega arith) c.loop-n.invariant
    c.octet_at.ensures
