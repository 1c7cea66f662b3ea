use Rattle.nr_blockdesk.proofs.Common.{◌≡◌, ℕ, ◌≤◌, Bool, true, List, refl, arith, Ok, nat_tests, le-leb}
use Rattle.nr_blockdesk.proofs.Common.{is_scheduled, lengths_said, tx_said_of}
use Rattle.std.proofs.lemmas.Bool.{lt-leb}
use Rattle.nr_ratematch.specs.Lengths.{is_order}
use Rattle.nr_blockdesk.proofs.link.Link.lengths.Goals as goal

pub returns-then-tx-gt3-clause-said : goal.returns-then-tx-gt3-clause-said
unfolding tx_said_of
returns-then-tx-gt3-clause-said c = rw (lt-leb c.args.tx.now.rv 3 c.if-tx-gt3.true) refl

pub returns-in-Ok-clause-said : goal.returns-in-Ok-clause-said
unfolding tx_said_of
returns-in-Ok-clause-said c = rw (← c.self.view_is, le-leb c.args.tx.now.rv 3 (omega arith), c.in-Ok.ensures.said) refl

pub returns-in-Err-clause-said : goal.returns-in-Err-clause-said
unfolding tx_said_of
returns-in-Err-clause-said c = rw (← c.self.view_is, le-leb c.args.tx.now.rv 3 (omega arith), c.in-Err.ensures.said) refl

-- no order is higher than 8
order-few : (qm : ℕ) → is_order qm ≡ true → qm ≤ 8
order-few qm order = grind (arith, nat_tests)

said-few : (is_on : ℕ → Bool) (c g qm nl : ℕ) (lengths : List ℕ) → lengths_said is_on c g qm nl ≡ Ok lengths
    → qm ≤ 8
unfolding lengths_said
said-few is_on c g qm nl lengths said = grind (arith, nat_tests, order-few)

pub returns-in-Ok-clause-order : goal.returns-in-Ok-clause-order
returns-in-Ok-clause-order c =
    let tx = c.args.tx.now in
    said-few (is_scheduled tx.mask) c.self.inside.plan.c tx.g tx.qm tx.nl c.in-Ok.lengths.items c.in-Ok.ensures.said
