use Rattle.nr_blockdesk.proofs.Common.{◌≡◌, [], length, All, subst, ap, ◌∙◌, arith, record_of, Numbers, word_size}
use Rattle.nr_blockdesk.proofs.CandidateFacts.{record-new, stores-new}
use Rattle.nr_blockdesk.proofs.receiver.Receiver.over.Goals.{In_ok-stores}
use Rattle.nr_blockdesk.proofs.receiver.Receiver.over.Given as given
use Rattle.nr_blockdesk.proofs.receiver.Receiver.over.Goals as goal

many : (g : given.Over) (c : In_ok-stores g) → length c.in_ok-stores.stores.items ≡ c.args.link.plan.c
many g c = c.in_ok-stores.ensures.many ∙ ap (λ (n : Numbers). n.c) c.plan.ensures.numbers

blank : (g : given.Over) (c : In_ok-stores g)
    → All (λ s. s ≡ record_of (word_size c.args.link.graph c.args.link.plan) []) c.in_ok-stores.stores.items
blank g c = subst (λ n. All (λ s. s ≡ record_of n []) c.in_ok-stores.stores.items) c.plan.ensures.positions
    c.in_ok-stores.ensures.empty

pub of_stores-requires : goal.of_stores-requires
of_stores-requires g c =
    let at = (goal.at.of_stores-requires g c).In_ok-stores in
    stores-new c.args.link c.in_ok-stores.stores.items (many g at) (blank g at)

pub returns-clause-empty : goal.returns-clause-empty
returns-clause-empty g c = grind (arith, record-new, many, blank)
