use Rattle.nr_blockdesk.proofs.Common.{◌≡◌, ◌+◌, [], ◌∷◌, length, length-append, ap, ◌∙◌, arith, positions_of}
use Rattle.nr_blockdesk.proofs.Common.{HeardBits, record_of, All-push}
use Rattle.nr_blockdesk.proofs.receiver.blank_stores.Goals as goal

-- one blank store more
pub loop-preserved : goal.loop-preserved
loop-preserved c =
    let inv = c.loop.invariant in
    let plan = c.args.plan.now in
    let store = c.in_ok-new.field-0 in
    record {
      stores = ap length c.push_reserved.ensures.items ∙ length-append c.loop.stores.items (store ∷ [])
          ∙ ap (λ n. n + 1) inv.stores;
      empty = rw c.push_reserved.ensures.items
          (All-push (λ (s : HeardBits). s ≡ record_of (positions_of plan) []) c.loop.stores.items store inv.empty
          c.in_ok-new.ensures);
      room = omega (arith, inv.room, c.push_reserved.ensures.capacity);
    }
