use Rattle.nr_linkcommands.proofs.Common.{ap, arith, audit_line, refl, ◌++◌, ◌-◌, ◌<◌, ◌∙◌, ◌≡◌, ◌≤◌}
use Rattle.nr_linkcommands.proofs.{Common.Numbers, AuditFacts.behind-some}
use Rattle.nr_linkcommands.proofs.RunTextFacts.{left-first, left-last, left-more, left-stopped, range-end, range-turn}
use Rattle.nr_linkcommands.proofs.audit_command.write_codes.Goals as goal

pub code_line-requires : goal.code_line-requires
code_line-requires g c = omega (arith, ap (λ (n : Numbers). n.c) c.plan.ensures.numbers, c.loop-r-test.true)

pub returns-in_err-put_line-clause-text : goal.returns-in_err-put_line-clause-text
returns-in_err-put_line-clause-text g c =
    let below : c.loop-r.r < c.args.receiver.now.link.plan.c =
    omega (arith, ap (λ (n : Numbers). n.c) c.plan.ensures.numbers, c.loop-r-test.true) in
    let turn = range-turn (λ r. c.args.head.now ++ audit_line c.args.number c.args.receiver.now.link c.args.receiver.now.heard r)
    c.loop-r.r _ below in
    left-stopped _ _ _ c.from_residual.result _ _ _ _ c.from_residual.ensures.1 (rw turn at c.loop-r.invariant.lines)
    (c.in_err-put_line.ensures.text _ (behind-some _ _ _ _ _) c.code_line.ensures)

pub loop-r-init : goal.loop-r-init
loop-r-init g c =
    let all : c.args.receiver.now.link.plan.c - 0 ≡ c.args.receiver.now.link.plan.c = omega arith in
    record { lines = rw all (left-first _ _); sound = refl }

-- the line of code block r is the first of those that are left
pub loop-r-preserved : goal.loop-r-preserved
loop-r-preserved g c =
    let below : c.loop-r.r < c.args.receiver.now.link.plan.c =
    omega (arith, ap (λ (n : Numbers). n.c) c.plan.ensures.numbers, c.loop-r-test.true) in
    let turn = range-turn (λ r. c.args.head.now ++ audit_line c.args.number c.args.receiver.now.link c.args.receiver.now.heard r)
    c.loop-r.r _ below in
    record {
      lines = left-more _ _ _ _ _ _ (rw turn at c.loop-r.invariant.lines)
          (c.in_ok-put_line.ensures.text _ (behind-some _ _ _ _ _) c.code_line.ensures);
      sound = c.in_ok-put_line.ensures.put ∙ c.loop-r.invariant.sound;
    }

pub returns-clause-text : goal.returns-clause-text
returns-clause-text g c =
    let all : c.args.receiver.now.link.plan.c ≤ c.loop-r.r = omega (arith, ap (λ (n : Numbers). n.c) c.plan.ensures.numbers) in
    left-last _ _ _ (rw (range-end _ c.loop-r.r _ all) at c.loop-r.invariant.lines)
