use Rattle.nr_blockdesk.proofs.Common.{arith, ◌≡◌, ◌*◌, All, Ok, length, subst, sym, ap, ◌∙◌, err_from_is_err_and}
use Rattle.nr_blockdesk.proofs.{Common.cols_of, Common.carried, Common.tx_said, LinkFacts.no-memory}
use Rattle.nr_blockdesk.proofs.SenderFacts.{length-words, sent-ok, tx-never_memory, words-long}
use Rattle.nr_blockdesk.proofs.sender.Sender.send.Goals as goal

pub returns-in_err-lengths-clause-judged : goal.returns-in_err-lengths-clause-judged
returns-in_err-lengths-clause-judged c = grind (arith, err_from_is_err_and, no-memory, tx-never_memory)

pub send_words-requires-clause-long : goal.send_words-requires-clause-long
send_words-requires-clause-long c =
    let s = c.self.inside in
    let link = s.link in
    rw (c.deref.ensures.value, c.buffer.ensures)
    (subst (All (λ w. length w ≡ cols_of link.buffer.graph * link.buffer.z)) (sym c.self.invariant.encoded)
    (words-long c.words_are_plain.ensures link (carried link s.words.items) c.self.invariant.is_link c.self.invariant.whole))

pub send_words-requires-clause-shared : goal.send_words-requires-clause-shared
send_words-requires-clause-shared c =
    let s = c.self.inside in
    let link = s.link in
    let counted : length c.deref.result.now ≡ s.link.plan.c = ap length (c.deref.ensures.value ∙ c.self.invariant.encoded)
    ∙ length-words link (carried link s.words.items) in
    rw (c.deref-2.ensures.0, counted) c.in_ok-lengths.ensures.shared

-- the words kept are the transport block's, so what is sent is what the link says
pub returns-in-Ok-clause-said : goal.returns-in-Ok-clause-said
returns-in-Ok-clause-said c =
    let s = c.self.inside in
    let link = s.link in
    let said : tx_said link c.args.tx.now ≡ Ok c.deref-2.result.now =
    c.in_ok-lengths.ensures.said ∙ ap Ok (sym c.deref-2.ensures.0) in
    let counted : length c.deref-2.result.now ≡ s.link.plan.c =
    ap length c.deref-2.ensures.0 ∙ c.in_ok-lengths.ensures.shared.counted in
    rw (← c.self.view_is)
    (sent-ok link c.args.tx.now (carried link s.words.items) c.deref-2.result.now c.deref.result.now c.in-Ok.bits.items said counted
    (c.deref.ensures.value ∙ c.self.invariant.encoded) (rw c.buffer.ensures at c.in-Ok.ensures))
