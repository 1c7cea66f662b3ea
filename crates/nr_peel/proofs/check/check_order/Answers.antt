use Rattle.nr_peel.proofs.Common.{◌≡◌, ℕ, true≢false, false≢true, get_or_default, length-set, block_checks, after_steps}
use Rattle.nr_peel.proofs.Common.{rules, true, length, get_or, take, sym, ap, ◌∙◌, arith, take_all, bit, numbers, set_below}
use Rattle.nr_peel.proofs.{TableGridFacts.checks_sound, CodewordFacts.words_agree}
use Rattle.nr_peel.proofs.FixOrderFacts.{accepts_alike, judged_more, refused_here, accepted_says, steps_stay}
use Rattle.nr_peel.proofs.check.check_order.Goals as goal

pub invariant_of-lifted : goal.invariant_of-lifted
invariant_of-lifted c = search (rules, set_below)

-- one more accepted step: its position is marked
pub loop-step-preserved : goal.loop-step-preserved
loop-step-preserved c =
    let ck = block_checks c.args.table.now c.args.plan.now.graph (numbers c.args.plan.now) in
    let steps = c.args.steps.now in
    let n = c.loop-step.step-index in
    let known = c.loop-step.known in
    let s = get_or steps n (record { row = 0; lane = 0; pos = 0 }) in
    let inv = c.loop-step.invariant in
    let says = accepted_says ck (bit known.items) s (sym c.accepts.ensures ∙ c.if-not-accepts.false) in
    record {
      judged = rw c.set.ensures.items
          (judged_more ck (bit c.args.known.now.items) steps known.items n s inv.judged c.loop-step-test.true
          (get_or_default steps n (record { row = 0; lane = 0; pos = 0 }) s c.loop-step-test.true)
          (omega (arith, says.pos, inv.long, c.requires)) (sym c.accepts.ensures ∙ c.if-not-accepts.false));
      long = ap length c.set.ensures.items ∙ length-set known.items s.pos true ∙ inv.long;
      room = c.set.ensures.room ∙ inv.room;
    }

-- a step that is refused: the list is no fix order, and the marks are those of the steps before it
pub returns-then-not-accepts : goal.returns-then-not-accepts
returns-then-not-accepts c =
    let ck = block_checks c.args.table.now c.args.plan.now.graph (numbers c.args.plan.now) in
    let steps = c.args.steps.now in
    let s = get_or steps c.loop-step.step-index (record { row = 0; lane = 0; pos = 0 }) in
    let inv = c.loop-step.invariant in
    let here = get_or_default steps c.loop-step.step-index (record { row = 0; lane = 0; pos = 0 }) s c.loop-step-test.true in
    let r = refused_here ck _ steps c.loop-step.step-index s inv.judged.accepted c.loop-step-test.true here
    (sym (accepts_alike ck _ _ s inv.judged.after) ∙ sym c.accepts.ensures ∙ c.if-not-accepts.true) in
    record {
      yes = (λ f. absurd (false≢true f), λ o. absurd (true≢false (sym o.accepted ∙ r.0)));
      after = λ p. inv.judged.after p ∙ sym (r.1 p);
      long = inv.long;
      room = inv.room;
      reached = λ f. absurd (false≢true f);
      words = λ f. absurd (false≢true f);
    }

-- all steps were accepted: the set after them is in the closure, on which words agree
pub returns : goal.returns
returns c =
    let ck = block_checks c.args.table.now c.args.plan.now.graph (numbers c.args.plan.now) in
    let S = bit c.args.known.now.items in
    let steps = c.args.steps.now in
    let judged = c.loop-step.invariant.judged in
    let sound = checks_sound c.args.table.now c.args.plan.now.graph
    (numbers c.args.plan.now) c.tables_are_sound.ensures c.args.plan.now.sound.size_some in
    let whole : take c.loop-step.step-index steps ≡ steps = take_all c.loop-step.step-index steps c.loop-step-test.false in
    let after : (q : ℕ) → bit c.loop-step.known.items q ≡ after_steps ck S steps q = λ q. rw whole at (judged.after q) in
    let stay =
    λ (q : ℕ) (known : bit c.loop-step.known.items q ≡ true). steps_stay ck S steps sound q (sym (after q) ∙ known) in
    record {
      yes = (
        λ y. record { accepted = rw whole at judged.accepted; complete = λ q lt. sym (after q) ∙ c.all_known.ensures.0 y q lt },
        λ o. c.all_known.ensures.1 (λ q lt. after q ∙ o.complete q lt),
      );
      after = after;
      long = c.loop-step.invariant.long;
      room = c.loop-step.invariant.room;
      reached = λ y q lt. stay q (c.all_known.ensures.0 y q lt);
      words = λ y v w mv mw agree q lt. words_agree ck S v w sound mv mw agree q (stay q (c.all_known.ensures.0 y q lt));
    }
