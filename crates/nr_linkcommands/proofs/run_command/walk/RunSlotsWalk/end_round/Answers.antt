use Rattle.nr_linkcommands.proofs.Common.{HasBlock, HoldsRound, [], ap, arith, err-is, false, length, length-append, round_of, sym}
use Rattle.nr_linkcommands.proofs.Common.{totals_of, ◌++◌, ◌+◌, ◌∙◌, ◌∷◌}
use Rattle.nr_linkcommands.proofs.RoundEndFacts.{holds-round, process-fits, named-block}
use Rattle.nr_linkcommands.proofs.{RoundTextFacts.ends-more, RoundTextFacts.round-all, RunLineFacts.within-more}
use Rattle.nr_linkcommands.proofs.run_command.walk.RunSlotsWalk.end_round.Goals.{After-index-slot}
use Rattle.nr_linkcommands.proofs.run_command.walk.RunSlotsWalk.end_round.Given as given
use Rattle.nr_linkcommands.proofs.run_command.walk.RunSlotsWalk.end_round.Goals as goal

pub write_round_end-requires-clause-few : goal.write_round_end-requires-clause-few
write_round_end-requires-clause-few g c = grind (arith, within-more)

-- what the slot has received of the round that ends
held : (g : given.Over) (c : After-index-slot g)
    → HoldsRound false c.args.ready.now.schedule.now.by_process c.args.process c.args.ready.now.senders.items
    (round_of c.args.process c.args._before.now) c.index-slot.result.now
held g c =
    let kept = c.requires.keeps in
    rw kept.3 at (holds-round c.args.ready.now.schedule.now.by_process c.args.ready.now.senders.items c.args._before.now kept.0
    c.args.self.now.slots.items c.args.process c.index-slot.result.now c.requires.placed kept.4.sized c.index-slot.ensures
    kept.4.held)

pub write_round_end-requires-clause-placed : goal.write_round_end-requires-clause-placed
write_round_end-requires-clause-placed g c = process-fits _ _ _ c.args.ready.now.few c.requires.placed

pub write_round_end-requires-clause-named : goal.write_round_end-requires-clause-named
write_round_end-requires-clause-named g c =
    named-block c.args.ready.now.schedule.now.by_process
    (length c.args.ready.now.senders.items) c.args.process c.args.ready.now.senders.items
    (round_of c.args.process c.args._before.now) c.index-slot.result.now c.requires.placed
    (held g (goal.at.write_round_end-requires-clause-named g c).After-index-slot)
    (round-all (HasBlock (length c.args.ready.now.senders.items)) c.args.process c.args._before.now c.requires.scheduled.named)

pub returns-in_err-self-clause-text : goal.returns-in_err-self-clause-text
returns-in_err-self-clause-text g c =
    rw (err-is c.from_residual.result _ c.from_residual.ensures.1)
    (c.in_err-self.ensures.text _ (held g (goal.at.returns-in_err-self-clause-text g c).After-index-slot))

pub returns-clause-text : goal.returns-clause-text
returns-clause-text g c = c.in_ok-self.ensures.text _ (held g (goal.at.returns-clause-text g c).After-index-slot)

-- the slots are unchanged, and one more round is counted
pub returns-clause-keeps : goal.returns-clause-keeps
returns-clause-keeps g c = λ later ended keeps.
    let p = c.args.process in
    let round = round_of p c.args._before.now in
    record {
      sized = keeps.sized;
      held = keeps.held;
      counted = c.in_ok-self.ensures.totals _ _ (held g (goal.at.returns-clause-keeps g c).After-index-slot) keeps.counted
          ∙ ap totals_of (sym (ends-more c.args.ready.now.schedule.now.by_process c.args.ready.now.senders.items ended p round));
      within = within-more (length ended + 1) (length (ended ++ (p, round) ∷ [])) _
          (omega (arith, length-append ended ((p, round) ∷ []))) (c.in_ok-self.ensures.grows (length ended) keeps.within);
    }
