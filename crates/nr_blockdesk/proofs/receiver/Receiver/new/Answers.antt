use Rattle.nr_blockdesk.proofs.{Common.arith, Common.err_from_is_err_and, LinkFacts.link-never_memory, LinkFacts.no-memory}
use Rattle.nr_blockdesk.proofs.receiver.Receiver.new.Goals as goal

pub returns-in_err-link-clause-judged : goal.returns-in_err-link-clause-judged
returns-in_err-link-clause-judged c = grind (arith, err_from_is_err_and, no-memory, link-never_memory)
