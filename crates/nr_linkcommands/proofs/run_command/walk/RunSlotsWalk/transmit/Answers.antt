use Rattle.nr_linkcommands.proofs.Common.{Bool, IsOfRound, Link, List, Option, ProcessRound, Reception, SenderView, Some}
use Rattle.nr_linkcommands.proofs.Common.{Transmission, ap, arith, by_sender, err_from_is_err_and, false, receptions_of, refl}
use Rattle.nr_linkcommands.proofs.Common.{round_continued, run_words, sender_of, true, ℕ, ◌∙◌, ◌∷◌, ◌≡◌, rules}
use Rattle.nr_linkcommands.proofs.{Common.length-set, Common.Slot, Common.HoldsSlot, Common.KeepsRounds, SendLemmas.sender-there}
use Rattle.nr_linkcommands.proofs.RoundEndFacts.{continued-room, held-over, made-held, placed-process, rounds-more}
use Rattle.nr_linkcommands.proofs.run_command.walk.RunSlotsWalk.transmit.Goals.{After-begin_round}
use Rattle.nr_linkcommands.proofs.run_command.walk.RunSlotsWalk.transmit.Given as given
use Rattle.nr_linkcommands.proofs.run_command.walk.RunSlotsWalk.transmit.Goals as goal

-- the sender of the transmission's block
there : (g : given.Over) (c : After-begin_round g)
    → sender_of c.args.ready.now.senders.items c.args.transmission.now.block ≡ Some c.index-sender.result.now
there g c =
    sender-there c.args.ready.now.senders.items c.args.transmission.now.block c.index-sender.result.now
    (omega (arith, c.requires.named.0, c.requires.named.1)) c.index-sender.ensures

-- a slot that names another block has received the same
named : (goes : Bool) (link : Link) (list : List Reception) (slot : Slot) (block : Option ℕ) → HoldsSlot goes link list slot
    → HoldsSlot goes link list (record slot { block = block })
named true link list slot block holds = holds
named false link list slot block holds = holds

-- what the slot has received of the round that the transmission goes on with
held : (g : given.Over) (c : After-begin_round g) (before : List Transmission) (ended : List ProcessRound)
    → IsOfRound (round_continued before c.args.transmission.now) c.args.transmission.now
    → KeepsRounds c.args.ready.now.schedule.now.by_process c.args.ready.now.senders.items before
    (c.args.transmission.now ∷ c.args.later.now) ended c.args.self.now.slots.items c.args.self.now.totals
    → HoldsSlot true c.index-sender.result.now.link
    (receptions_of c.index-sender.result.now (round_continued before c.args.transmission.now)) c.begin_round.new.slot
held g c before ended of keeps =
    let sender = there g c in
    let process = placed-process _ _ _ c.requires.placed c.requires.named in
    search (rules, made-held)

pub send_and_receive-requires-clause-room : goal.send_and_receive-requires-clause-room
send_and_receive-requires-clause-room g c =
    let kept = c.requires.keeps in
    let state = held g (goal.at.send_and_receive-requires-clause-room g c).After-begin_round kept.0 kept.1 kept.3 kept.4 in
    continued-room c.index-sender.result.now kept.0 _ c.args.transmission.now c.begin_round.new.slot.state
    (omega (arith, kept.2)) state.0

pub send_and_receive-requires-clause-same_link : goal.send_and_receive-requires-clause-same_link
send_and_receive-requires-clause-same_link g c =
    let kept = c.requires.keeps in
    let state = held g (goal.at.send_and_receive-requires-clause-same_link g c).After-begin_round kept.0 kept.1 kept.3 kept.4 in
    held-over c.index-sender.result.now.link _ c.begin_round.new.slot.state state.0

-- the slot has received the round, so the lines of the call are those of the transmission
pub returns-in_err-send_and_receive-clause-text : goal.returns-in_err-send_and_receive-clause-text
returns-in_err-send_and_receive-clause-text g c = λ before ended of keeps.
    let x = c.args.transmission.now in
    let state = held g (goal.at.returns-in_err-send_and_receive-clause-text g c).After-begin_round before ended of keeps in
    let p = err_from_is_err_and c.from_residual.result c.from_residual.ensures.1 in
    rw (
      ap (λ (o : Option SenderView).
          by_sender o
          (λ sender. (run_words c.args.ready.now.schedule.now.by_process).transmission sender (round_continued before x) x))
          (there g (goal.at.returns-in_err-send_and_receive-clause-text g c).After-begin_round),
      p.1,
      p.2,
    ) (c.in_err-send_and_receive.ensures.text _ state.0)

pub returns-clause-text : goal.returns-clause-text
returns-clause-text g c = λ before ended of keeps.
    let x = c.args.transmission.now in
    let state = held g (goal.at.returns-clause-text g c).After-begin_round before ended of keeps in
    rw (ap (λ (o : Option SenderView).
    by_sender o (λ sender. (run_words c.args.ready.now.schedule.now.by_process).transmission sender (round_continued before x) x))
    (there g (goal.at.returns-clause-text g c).After-begin_round)) (c.in_ok-send_and_receive.ensures.text _ state.0)

-- the slot of the process is set to what it has after the transmission
pub returns-clause-keeps : goal.returns-clause-keeps
returns-clause-keeps g c = λ before ended of keeps.
    let x = c.args.transmission.now in
    let d = (goal.at.returns-clause-keeps g c).After-begin_round in
    let state = held g d before ended of keeps in
    let after = named _ _ _ c.close.new.slot _
    (rw c.goes_on.ensures at (c.close.ensures _ _ (c.in_ok-send_and_receive.ensures.held _ state.0, state.1))) in
    record {
      sized = length-set _ _ _ ∙ keeps.sized;
      held = rounds-more _ c.args.ready.now.senders.items before c.args.later.now x c.index-sender.result.now
          c.args.self.now.slots.items _ of
          (there g d) c.requires.placed (placed-process _ _ _ c.requires.placed c.requires.named) keeps.sized refl keeps.held after;
      counted = keeps.counted;
      within = keeps.within;
    }
