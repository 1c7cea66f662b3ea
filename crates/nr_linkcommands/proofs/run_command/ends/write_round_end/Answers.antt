use Rattle.nr_linkcommands.proofs.Common.{HoldsRound, IfOk-weaker, List, Totals, Transmission, ap, append-nil, arith, err-is, false}
use Rattle.nr_linkcommands.proofs.Common.{receptions_of, sym, with_text-nil, ◌∙◌, totals_with}
use Rattle.nr_linkcommands.proofs.{RoundEndFacts.EndsAs, RoundEndFacts.ends-as, RoundEndFacts.round-none, SendLemmas.sender-there}
use Rattle.nr_linkcommands.proofs.RunLineFacts.{round_line-some, totals-more, within-more}
use Rattle.nr_linkcommands.proofs.run_command.ends.write_round_end.Goals.{After-round_line}
use Rattle.nr_linkcommands.proofs.run_command.ends.write_round_end.Given as given
use Rattle.nr_linkcommands.proofs.run_command.ends.write_round_end.Goals as goal

pub returns-in-None-clause-text : goal.returns-in-None-clause-text
returns-in-None-clause-text g c = grind (arith, round-none, with_text-nil)

pub returns-in-None-clause-totals : goal.returns-in-None-clause-totals
returns-in-None-clause-totals g c = grind (arith, round-none, append-nil)

pub returns-in-None-clause-grows : goal.returns-in-None-clause-grows
returns-in-None-clause-grows g c = λ n is. within-more n _ c.args.totals (omega arith) is

-- how the round ends
ends : (g : given.Over) (c : After-round_line g) (round : List Transmission)
    → HoldsRound false c.args.ready.now.schedule.now.by_process c.args.process c.args.ready.now.senders.items round
    c.args.slot.now
    → EndsAs c.args.ready.now.schedule.now.by_process c.args.ready.now.senders.items c.args.process c.in-Some.number
    c.index-sender.result.now round c.args.slot.now
ends g c round held =
    let block = sym c.block_of.ensures ∙ c.in-Some.is in
    let named = rw block at c.requires.named in
    ends-as _ c.args.ready.now.senders.items c.args.process c.in-Some.number c.index-sender.result.now round c.args.slot.now block
    (sender-there _ c.in-Some.number _ (omega (arith, named.0, named.1)) c.index-sender.ensures) held

pub returns-in_err-put_line-in-Some-clause-text : goal.returns-in_err-put_line-in-Some-clause-text
returns-in_err-put_line-in-Some-clause-text g c = λ round held.
    let is = ends g (goal.at.returns-in_err-put_line-in-Some-clause-text g c).After-round_line round held in
    rw (err-is c.from_residual.result _ c.from_residual.ensures.1, is.line)
    (c.in_err-put_line-in-Some.ensures.text _ (round_line-some _ _ _ _)
    (IfOk-weaker c.round_line.result _ _ (λ line made. made _ is.held) c.round_line.ensures))

pub returns-in_ok-put_line-in-Some-clause-text : goal.returns-in_ok-put_line-in-Some-clause-text
returns-in_ok-put_line-in-Some-clause-text g c = λ round held.
    let is = ends g (goal.at.returns-in_ok-put_line-in-Some-clause-text g c).After-round_line round held in
    rw is.line (c.in_ok-put_line-in-Some.ensures.text _ (round_line-some _ _ _ _)
    (IfOk-weaker c.round_line.result _ _ (λ line made. made _ is.held) c.round_line.ensures))

pub returns-in_ok-put_line-in-Some-clause-totals : goal.returns-in_ok-put_line-in-Some-clause-totals
returns-in_ok-put_line-in-Some-clause-totals g c = λ ends_before round held counted.
    let is = ends g (goal.at.returns-in_ok-put_line-in-Some-clause-totals g c).After-round_line round held in
    rw is.counted (c.counted.ensures.value _ is.held
    ∙ ap (λ (t : Totals). totals_with t c.index-sender.result.now.link (receptions_of c.index-sender.result.now round)) counted
    ∙ sym (totals-more ends_before
    (record { link = c.index-sender.result.now.link; list = receptions_of c.index-sender.result.now round })))
