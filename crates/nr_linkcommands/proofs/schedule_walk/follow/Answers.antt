use Rattle.nr_linkcommands.proofs.Common.{ended_with, get_or, length, refl, round_continued, rounds_ended, subst, sym, take, turns}
use Rattle.nr_linkcommands.proofs.Common.{◌++◌, ◌+◌, ◌<◌, ◌∙◌, ◌∷◌, ◌≡◌, rules, drop_all, All-take}
use Rattle.nr_linkcommands.proofs.Common.{HasBlock, IsOfRound, IsPlaced, List, ProcessRound, Transmission, [], arith, drop}
use Rattle.nr_linkcommands.proofs.RoundEndFacts.{of-continued, placed-process, turn-parts}
use Rattle.nr_linkcommands.proofs.RoundTextFacts.{ended-few, ended-more, left-turn, taken-more}
use Rattle.nr_linkcommands.proofs.{RunLineFacts.all-at, TimetableFacts.timetable-of_rounds}
use Rattle.nr_linkcommands.proofs.RunTextFacts.{left-first, left-last, left-more, left-stopped}
use Rattle.nr_linkcommands.proofs.schedule_walk.follow.Goals.{After-index-schedule-index}
use Rattle.std.proofs.lemmas.List.{length-take-le, take_rest}
use Rattle.nr_linkcommands.proofs.schedule_walk.follow.Given as given
use Rattle.nr_linkcommands.proofs.schedule_walk.follow.Goals as goal

pub loop-index-init : goal.loop-index-init
unfolding rounds_ended
loop-index-init g c = record { lines = left-first _ _; keeps = c.requires.nothing; sound = refl }

-- the transmission whose turn it is
module _ (g : given.Over) (c : After-index-schedule-index g) where
  abbrev xs : List Transmission
  xs = c.args.ready.now.schedule.now.transmissions.items

  within : c.loop-index.index < length xs
  within = rw c.as_slice-schedule.ensures.value at c.loop-index-test.true

  at : c.index-schedule-index.result ≡ get_or xs c.loop-index.index c.index-schedule-index.result
  at = rw c.as_slice-schedule.ensures.value at c.index-schedule-index.is

  turn : drop c.loop-index.index xs ≡ c.index-schedule-index.result ∷ drop (c.loop-index.index + 1) xs
  turn = left-turn xs c.loop-index.index c.index-schedule-index.result within at

  named : HasBlock (length c.args.ready.now.senders.items) c.index-schedule-index.result
  named = all-at (HasBlock (length c.args.ready.now.senders.items)) _ _ _ c.args.ready.now.timetable.named within at

  placed : IsPlaced c.args.ready.now.schedule.now.by_process c.index-schedule-index.result
  placed = all-at (IsPlaced c.args.ready.now.schedule.now.by_process) _ _ _ c.args.ready.now.timetable.placed within at

  of : IsOfRound (round_continued (take c.loop-index.index xs) c.index-schedule-index.result) c.index-schedule-index.result
  of = of-continued (take c.loop-index.index xs) c.index-schedule-index.result
      ((timetable-of_rounds _ _ c.args.ready.now.timetable) c.loop-index.index c.index-schedule-index.result within at)

-- what is kept is kept if the transmission is the first of those later
pub end_before-requires : goal.end_before-requires
end_before-requires g c =
    let senders = c.args.ready.now.senders.items in
    let xs = c.args.ready.now.schedule.now.transmissions.items in
    let i = c.loop-index.index in
    let d = (goal.at.end_before-requires g c).After-index-schedule-index in
    λ k. (
      (refl, tt),
      (
        omega (arith, c.requires.puts, c.loop-index.invariant.sound),
        ((
          rw c.as_slice-schedule.ensures.value (record {
            named = All-take (HasBlock (length senders)) i xs c.args.ready.now.timetable.named;
            placed = All-take (IsPlaced c.args.ready.now.schedule.now.by_process) i xs c.args.ready.now.timetable.placed;
          }),
          (
            placed-process _ _ _ (placed g d) (named g d),
            rw c.as_slice-schedule.ensures.value (
              drop (i + 1) xs,
              rounds_ended [] (take i xs),
              omega (
                arith,
                ended-few [] (take i xs),
                length-take-le i xs (omega (arith, within g d)),
                within g d,
                c.args.ready.now.timetable.few,
              ),
              rw (turn g d) at c.loop-index.invariant.keeps,
            ),
          ),
        )),
      ),
    )

-- the round that it ends has ended, and the transmission is of the block of its own
pub transmit-requires : goal.transmit-requires
transmit-requires g c =
    let xs = c.args.ready.now.schedule.now.transmissions.items in
    let i = c.loop-index.index in
    let x = c.index-schedule-index.result in
    let d = (goal.at.transmit-requires g c).After-index-schedule-index in
    let ended : List ProcessRound = rounds_ended [] (take i xs) ++ ended_with (take i xs) x in
    let keeps = (rw c.as_slice-schedule.ensures.value at c.in_ok-end_before.ensures.keeps) (x ∷ drop (i + 1) xs)
    (rounds_ended [] (take i xs)) (rw (turn g d) at c.loop-index.invariant.keeps) in
    λ k. (
      (refl, tt),
      (
        omega (arith, c.requires.puts, c.loop-index.invariant.sound, c.in_ok-end_before.ensures.put),
        ((
          named g d,
          (
            placed g d,
            rw (c.as_slice-schedule.ensures.value, take_rest xs (i + 1)) (
              take i xs,
              ended,
              omega (arith, length-take-le i xs (omega (arith, within g d)), within g d, c.args.ready.now.timetable.few),
              of g d,
              keeps,
            ),
          ),
        )),
      ),
    )

pub returns-in_err-end_before-clause-text : goal.returns-in_err-end_before-clause-text
returns-in_err-end_before-clause-text g c =
    let xs = c.args.ready.now.schedule.now.transmissions.items in
    let d = (goal.at.returns-in_err-end_before-clause-text g c).After-index-schedule-index in
    let b = c.args.ready.now.schedule.now.by_process in
    let parts = turn-parts b (g.W.Walk.words b) c.args.ready.now.senders.items xs c.loop-index.index c.index-schedule-index.result
    (within g d) (at g d) in
    left-stopped _ _ _ c.from_residual.result _ _ _ _ c.from_residual.ensures.1 (rw parts at c.loop-index.invariant.lines)
    (rw c.as_slice-schedule.ensures.value at c.in_err-end_before.ensures.text)

-- the lines of the round that it ends are written, and a part of its own lines
pub returns-in_err-transmit-clause-text : goal.returns-in_err-transmit-clause-text
returns-in_err-transmit-clause-text g c =
    let xs = c.args.ready.now.schedule.now.transmissions.items in
    let i = c.loop-index.index in
    let x = c.index-schedule-index.result in
    let d = (goal.at.returns-in_err-transmit-clause-text g c).After-index-schedule-index in
    let b = c.args.ready.now.schedule.now.by_process in
    let ended : List ProcessRound = rounds_ended [] (take i xs) ++ ended_with (take i xs) x in
    let keeps = (rw c.as_slice-schedule.ensures.value at c.in_ok-end_before.ensures.keeps) (x ∷ drop (i + 1) xs)
    (rounds_ended [] (take i xs)) (rw (turn g d) at c.loop-index.invariant.keeps) in
    let parts = turn-parts b (g.W.Walk.words b) c.args.ready.now.senders.items xs i x (within g d) (at g d) in
    let before = rw c.as_slice-schedule.ensures.value at c.in_ok-end_before.ensures.text in
    left-stopped _ _ _ c.from_residual-in_err-transmit.result _ _ _ _ c.from_residual-in_err-transmit.ensures.1
    (left-more _ _ _ _ _ _ (rw parts at c.loop-index.invariant.lines) before)
    ((rw (c.as_slice-schedule.ensures.value, take_rest xs (i + 1)) at c.in_err-transmit.ensures.text) (take i xs) ended
    (of g d) keeps)

-- both parts are written, and the transmission is now among those before
pub loop-index-preserved : goal.loop-index-preserved
loop-index-preserved g c =
    let senders = c.args.ready.now.senders.items in
    let xs = c.args.ready.now.schedule.now.transmissions.items in
    let i = c.loop-index.index in
    let x = c.index-schedule-index.result in
    let d = (goal.at.loop-index-preserved g c).After-index-schedule-index in
    let b = c.args.ready.now.schedule.now.by_process in
    let ended : List ProcessRound = rounds_ended [] (take i xs) ++ ended_with (take i xs) x in
    let keeps = (rw c.as_slice-schedule.ensures.value at c.in_ok-end_before.ensures.keeps) (x ∷ drop (i + 1) xs)
    (rounds_ended [] (take i xs)) (rw (turn g d) at c.loop-index.invariant.keeps) in
    let parts = turn-parts b (g.W.Walk.words b) senders xs i x (within g d) (at g d) in
    let before = rw c.as_slice-schedule.ensures.value at c.in_ok-end_before.ensures.text in
    let kept = (rw (c.as_slice-schedule.ensures.value, take_rest xs (i + 1)) at c.in_ok-transmit.ensures.keeps) (take i xs) ended
    (of g d) keeps in
    let made = (rw (c.as_slice-schedule.ensures.value, take_rest xs (i + 1)) at c.in_ok-transmit.ensures.text) (take i xs) ended
    (of g d) keeps in
    record {
      lines = left-more _ _ _ _ _ _ (left-more _ _ _ _ _ _ (rw parts at c.loop-index.invariant.lines) before) made;
      keeps =
          subst (λ (ys : List Transmission).
          g.W.Walk.Keeps c.transmit.new.self c.args.ready.now ys (drop (i + 1) xs) (rounds_ended [] ys))
          (sym (taken-more xs i x (within g d) (at g d)))
          (subst (λ (rounds : List ProcessRound).
          g.W.Walk.Keeps c.transmit.new.self c.args.ready.now (take i xs ++ x ∷ []) (drop (i + 1) xs) rounds)
          (sym (ended-more (take i xs) x)) kept);
      sound = c.in_ok-transmit.ensures.put ∙ c.in_ok-end_before.ensures.put ∙ c.loop-index.invariant.sound;
    }

pub returns-clause-text : goal.returns-clause-text
unfolding turns
returns-clause-text g c = search (rules, left-last, drop_all)
