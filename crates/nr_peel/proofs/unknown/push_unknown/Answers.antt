use Rattle.nr_peel.proofs.Common.{append-nil, append_assoc, arith, shr_and_one}
use Rattle.nr_peel.proofs.UnknownFacts.{full_missing, kept_on}
use Rattle.nr_peel.proofs.unknown.push_unknown.Goals as goal

pub returns-then-word-eq18446744073709551615 : goal.returns-then-word-eq18446744073709551615
returns-then-word-eq18446744073709551615 c =
    full_missing c.args.unknown.now.items c.args.word c.args.at c.args.count c.if-word-eq18446744073709551615.true c.requires.few

pub loop-j-preserved : goal.loop-j-preserved
loop-j-preserved c = grind (arith, append_assoc, append-nil, kept_on, shr_and_one)
