use Rattle.nr_linkcommands.proofs.Common.{ProcessRound, [], length-append, length-map-range_with_len, process_count, range_with_len}
use Rattle.nr_linkcommands.proofs.Common.{append-nil, round_lines, round_of, rounds_ended, ◌-◌, ◌∙◌, ◌≡◌, ◌≤◌}
use Rattle.nr_linkcommands.proofs.Common.{List, arith, length, map, refl, subst, ◌++◌, ◌<◌}
use Rattle.nr_linkcommands.proofs.RoundEndFacts.{count-few, last-lines, last-more}
use Rattle.nr_linkcommands.proofs.RoundTextFacts.{ended-few}
use Rattle.nr_linkcommands.proofs.RunTextFacts.{left-first, left-last, left-more, left-stopped, range-end, range-turn}
use Rattle.nr_linkcommands.proofs.schedule_walk.end_all.Goals as goal

-- no process has ended yet, so all lines are left
pub loop-process-init : goal.loop-process-init
loop-process-init g c =
    let b = c.args.ready.now.schedule.now.by_process in
    let xs = c.args.ready.now.schedule.now.transmissions.items in
    let n = length c.args.ready.now.senders.items in
    let all : process_count b n - 0 ≡ process_count b n = omega arith in
    record {
      lines = rw (all, last-lines b (g.W.Walk.words b) c.args.ready.now.senders.items xs) (left-first _ _);
      keeps = rw (append-nil (rounds_ended [] xs)) c.requires.keeps;
      sound = refl;
    }

-- the process is one of the schedule, and fewer than 65,536 rounds ended before
pub end_round-requires : goal.end_round-requires
end_round-requires g c =
    let b = c.args.ready.now.schedule.now.by_process in
    let n = length c.args.ready.now.senders.items in
    let schedule = c.args.ready.now.schedule.now.transmissions.items in
    let p = c.loop-process.process in
    let rounds : List ProcessRound = map (λ q. (q, round_of q schedule)) (range_with_len 0 p) in
    let few : length rounds ≡ p = length-map-range_with_len (λ q. (q, round_of q schedule)) 0 p in
    let below : p < process_count b n = omega (arith, c.loop-process-test.true, c.process_count-process-end.ensures) in
    λ k. (
      (refl, tt),
      (
        omega (arith, c.requires.puts, c.loop-process.invariant.sound),
        ((
          rw c.as_slice-schedule.ensures.value
              (record { named = c.args.ready.now.timetable.named; placed = c.args.ready.now.timetable.placed }),
          (
            below,
            rw c.as_slice-schedule.ensures.value (
              [],
              rounds_ended [] schedule ++ rounds,
              omega (
                arith,
                few,
                ended-few [] schedule,
                length-append (rounds_ended [] schedule) rounds,
                c.args.ready.now.timetable.few,
                below,
                count-few b n c.args.ready.now.few,
              ),
              refl,
              c.loop-process.invariant.keeps,
            ),
          ),
        )),
      ),
    )

-- what is written of the round is a part of the lines that are left
pub returns-in_err-end_round-clause-text : goal.returns-in_err-end_round-clause-text
returns-in_err-end_round-clause-text g c =
    let b = c.args.ready.now.schedule.now.by_process in
    let end = process_count b (length c.args.ready.now.senders.items) in
    let below : c.loop-process.process < end = omega (arith, c.loop-process-test.true, c.process_count-process-end.ensures) in
    let turn =
    range-turn (λ p. round_lines b (g.W.Walk.words b) c.args.ready.now.senders.items p
    (round_of p c.args.ready.now.schedule.now.transmissions.items))
    c.loop-process.process end below in
    left-stopped _ _ _ c.from_residual.result _ _ _ _ c.from_residual.ensures.1 (rw turn at c.loop-process.invariant.lines)
    (rw c.as_slice-schedule.ensures.value at c.in_err-end_round.ensures.text)

-- the round of one more process has ended
pub loop-process-preserved : goal.loop-process-preserved
loop-process-preserved g c =
    let b = c.args.ready.now.schedule.now.by_process in
    let schedule = c.args.ready.now.schedule.now.transmissions.items in
    let p = c.loop-process.process in
    let end = process_count b (length c.args.ready.now.senders.items) in
    let below : p < end = omega (arith, c.loop-process-test.true, c.process_count-process-end.ensures) in
    let turn =
    range-turn (λ p. round_lines b (g.W.Walk.words b) c.args.ready.now.senders.items p (round_of p schedule)) p end below in
    let ended : List ProcessRound = rounds_ended [] schedule ++ map (λ q. (q, round_of q schedule)) (range_with_len 0 p) in
    record {
      lines = left-more _ _ _ _ _ _ (rw turn at c.loop-process.invariant.lines)
          (rw c.as_slice-schedule.ensures.value at c.in_ok-end_round.ensures.text);
      keeps =
          subst (λ (rounds : List ProcessRound).
          g.W.Walk.Keeps c.end_round.new.self c.args.ready.now schedule [] rounds)
          (last-more (rounds_ended [] schedule) schedule p)
          ((rw c.as_slice-schedule.ensures.value at c.in_ok-end_round.ensures.keeps) [] ended c.loop-process.invariant.keeps);
      sound = c.in_ok-end_round.ensures.put ∙ c.loop-process.invariant.sound;
    }

pub returns-clause-text : goal.returns-clause-text
returns-clause-text g c =
    let b = c.args.ready.now.schedule.now.by_process in
    let end = process_count b (length c.args.ready.now.senders.items) in
    let all : end ≤ c.loop-process.process = omega (arith, c.loop-process-test.false, c.process_count-process-end.ensures) in
    left-last _ _ _ (rw (range-end _ c.loop-process.process end all) at c.loop-process.invariant.lines)

pub returns-clause-keeps : goal.returns-clause-keeps
returns-clause-keeps g c =
    let b = c.args.ready.now.schedule.now.by_process in
    let all : c.loop-process.process ≡ process_count b (length c.args.ready.now.senders.items) =
    omega (arith, c.loop-process-test.false, c.process_count-process-end.ensures) in
    rw all at c.loop-process.invariant.keeps
