use Rattle.std.proofs.Common.{◌≡◌, [], ap, sym, subst, ◌∙◌, arith}
use Rattle.std.proofs.lemmas.List.{take_all}
use Rattle.nr_refusal.proofs.ResultFacts.{ok-same}
use Rattle.nr_blockdesk.specs.Link.{IsLink, link_said}
use Rattle.nr_blockdesk.specs.declared.outcome.Outcome.TheVariants as outcome
use Rattle.nr_blockdesk.proofs.LinkFacts.{made-of}
use Rattle.nr_theorem.proofs.CarriedFacts.{HasCarried, begun, next-taken, next-refused, theorem}
use Rattle.nr_theorem.proofs.transfer.carry.Goals.{in-Ok, in-Err+in_default}
use Rattle.nr_theorem.proofs.transfer.carry.Goals as goal

-- The sender and the receiver have one link, and nothing was received yet.
pub loop-arrival-init : goal.loop-arrival-init
loop-arrival-init c =
    let sender = c.in_ok-sender.sender in
    let block = c.args.block.now.items in
    let receiver = c.in_ok-receiver.receiver in
    let made = made-of sender block _ c.in_ok-sender.ensures.said in
    record {
      so_far = λ link said.
          let same : sender.link ≡ link = ok-same (sym made.0 ∙ said) in
          let linked : receiver.link ≡ link =
          ok-same (sym c.in_ok-receiver.ensures.said
          ∙ ap (link_said c.args.table.now c.args.settings) c.len.ensures.value ∙ said) in
          subst (λ answers. HasCarried link block [] receiver answers outcome.Open) (sym c.in_ok-answers.ensures.items)
          (begun block link receiver linked c.in_ok-receiver.ensures.empty (subst IsLink same c.is_sound.ensures)
          c.nothing_is_open.ensures);
      room = omega (arith, c.in_ok-answers.ensures.len, c.in_ok-answers.ensures.capacity);
    }

pub exchange-requires : goal.exchange-requires
exchange-requires c =
    let sender = c.in_ok-sender.sender in
    let made = made-of sender c.args.block.now.items _ c.in_ok-sender.ensures.said in
    record { same = (c.loop-arrival.invariant.so_far sender.link made.0).same }

pub push_reserved-requires : goal.push_reserved-requires
push_reserved-requires c = omega (arith, c.loop-arrival.invariant.room)

pub loop-arrival-preserved : goal.loop-arrival-preserved
loop-arrival-preserved c =
    let sender = c.in_ok-sender.sender in
    let block = c.args.block.now.items in
    let made = made-of sender block _ c.in_ok-sender.ensures.said in
    let room = c.loop-arrival.invariant.room in
    let i = c.loop-arrival.arrival-index in
    record {
      so_far = λ link said.
          let same : sender.link ≡ link = ok-same (sym made.0 ∙ said) in
          let had = c.loop-arrival.invariant.so_far link said in
          elim c.match-exchange.branch [
            | in-Ok w ↦ rw (w.answers-is, w.outcome-is)
                (next-taken link sender.link block sender.block c.args.arrivals.now i c.loop-arrival.receiver
                c.exchange.new.receiver c.loop-arrival.answers.items _ c.loop-arrival.outcome c.arrival-item.result
                (omega arith) c.arrival-item.is same made.1 had w.in-Ok.bits w.in-Ok.now w.in-Ok.ensures.said w.in-Ok.ensures.takes
                w.push_reserved.ensures.items)
            | in-Err+in_default w ↦ rw (w.answers-is, w.outcome-is)
                (next-refused link sender.link block sender.block c.args.arrivals.now i c.loop-arrival.receiver
                c.exchange.new.receiver c.loop-arrival.answers.items _ c.loop-arrival.outcome c.arrival-item.result
                (omega arith) c.arrival-item.is same made.1 had w.in-Err.fault w.in_default.not-Memory w.in-Err.ensures.said
                w.in-Err.ensures.err w.push_reserved-in_default.ensures.items)
          ];
      room = elim c.match-exchange.branch [
        | in-Ok w ↦ rw w.answers-is (omega (arith, room, w.push_reserved.ensures.len, w.push_reserved.ensures.capacity))
        | in-Err+in_default w ↦
            let pushed = w.push_reserved-in_default.ensures in rw w.answers-is (omega (arith, room, pushed.len, pushed.capacity))
      ];
    }

pub returns : goal.returns
returns c =
    let sender = c.in_ok-sender.sender in
    let block = c.args.block.now.items in
    let arrivals = c.args.arrivals.now in
    let made = made-of sender block _ c.in_ok-sender.ensures.said in
    let had =
    subst (λ xs. HasCarried sender.link block xs c.loop-arrival.receiver c.loop-arrival.answers.items c.loop-arrival.outcome)
    (take_all c.loop-arrival.arrival-index arrivals (omega arith)) (c.loop-arrival.invariant.so_far sender.link made.0) in
    record {
      theorem = theorem c.args.table.now c.args.settings block arrivals sender.link c.loop-arrival.receiver
          c.loop-arrival.answers.items c.loop-arrival.outcome c.words_are_plain.ensures c.outcomes_are_exact.ensures
          c.delivered_is_only.ensures c.explained_never_contradicts.ensures c.is_sound.ensures made.0 had;
    }
