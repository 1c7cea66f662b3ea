use Rattle.nr_calls.proofs.Common.{◌∙◌, Err, ap, IfOk-weaker, err_from_is_err_and}
use Rattle.nr_calls.proofs.KeptReceiverFacts.{fit-of, taken-said, takes-err, unread}
use Rattle.nr_calls.proofs.keeping.take_over.Goals as goal

pub returns-in_err-stores : goal.returns-in_err-stores
returns-in_err-stores c =
    let p = err_from_is_err_and c.from_residual-in_err-stores.result c.from_residual-in_err-stores.ensures.1 in
    takes-err c.from_residual-in_err-stores.result c.in_err-stores.field-0.0 _ (p.1 ∙ ap Err p.2)
    (unread c.args.link c.args.digest c.args.room.now c.args.tx.now c.args.octets.now c.in_err-stores.field-0.0
    (c.in_err-stores.ensures c.args.digest (c.deref.ensures.value ∙ c.in_ok-header.ensures)))

pub take_on-requires : goal.take_on-requires
take_on-requires c =
    fit-of c.args.link c.args.digest c.args.room.now c.in_ok-stores.stores.items
    (c.in_ok-stores.ensures c.args.digest (c.deref.ensures.value ∙ c.in_ok-header.ensures))

pub returns : goal.returns
returns c =
    taken-said c.take_on.result c.args.link c.args.digest c.args.room.now c.args.tx.now c.args.octets.now
    c.in_ok-stores.stores.items
    (c.in_ok-stores.ensures c.args.digest (c.deref.ensures.value ∙ c.in_ok-header.ensures)) c.take_on.ensures.refused
    (IfOk-weaker c.take_on.result _ _ (λ t all. all c.args.digest c.in_ok-header.ensures) c.take_on.ensures.taken)
