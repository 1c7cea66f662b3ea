use Rattle.std.proofs.Common.{◌≡◌, length, subst}
use Rattle.std.specs.Prelude.{IfOk}
use Rattle.nr_blockdesk.specs.Link.{Link}
use Rattle.nr_blockdesk.specs.Receiving.{verdict}
use Rattle.nr_calls.specs.inside.Words.{IsLastBlock}
use Rattle.nr_calls.specs.declared.findings.Found.{Found}
use Rattle.nr_calls.proofs.packed.receive_packed_over.Goals as goal

pub returns-clause-left : goal.returns-clause-left
returns-clause-left c =
    subst (λ (l : Link). IfOk c.hear_all_packed.result (λ (found : Found). length found.left.items ≡ l.plan.c))
    c.in_ok-receiver.ensures.link c.hear_all_packed.ensures.left

pub returns-clause-block : goal.returns-clause-block
returns-clause-block c =
    subst (λ (l : Link). IfOk c.hear_all_packed.result (λ (found : Found). IsLastBlock l.a (verdict found.last)))
    c.in_ok-receiver.ensures.link c.hear_all_packed.ensures.block
