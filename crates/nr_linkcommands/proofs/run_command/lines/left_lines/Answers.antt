use Rattle.nr_linkcommands.proofs.Common.{List, ap, append-nil, append_assoc, arith, left, left_line, string_bytes, ℕ, ◌++◌}
use Rattle.nr_linkcommands.proofs.Common.{◌<◌, ◌∙◌, ◌≡◌, ◌≤◌, Numbers}
use Rattle.nr_linkcommands.proofs.RunTextFacts.{range-end, range-turn}
use Rattle.nr_linkcommands.proofs.run_command.lines.left_lines.Goals as goal

-- the line of one more code block
pub loop-r-preserved : goal.loop-r-preserved
unfolding left_line
loop-r-preserved c =
    let r = c.loop-r.r-counter in
    let line : ℕ
    → List ℕ =
    λ r. left_line c.args.transmission.now.number c.args.transmission.now.block r
    (left c.args.receiver.now.link c.args.receiver.now.heard r) in
    let within : r < c.args.receiver.now.link.plan.c = omega (arith, ap (λ (n : Numbers). n.c) c.plan.ensures.numbers) in
    let wrote : string_bytes c.writeln.new.self ≡ string_bytes c.loop-r.lines ++ line r =
    rw (c.in_ok-writeln.ensures.bytes, c.left.ensures) (simp append_assoc) in
    rw wrote (append_assoc (string_bytes c.loop-r.lines) (line r) _ ∙ (rw (range-turn line r _ within) at c.loop-r.invariant))

pub returns : goal.returns
returns c =
    let line : ℕ
    → List ℕ =
    λ r. left_line c.args.transmission.now.number c.args.transmission.now.block r
    (left c.args.receiver.now.link c.args.receiver.now.heard r) in
    let all : c.args.receiver.now.link.plan.c ≤ c.loop-r.r-counter =
    omega (arith, ap (λ (n : Numbers). n.c) c.plan.ensures.numbers) in
    rw c.into_bytes.ensures.value (rw (range-end line c.loop-r.r-counter _ all, append-nil) at c.loop-r.invariant)
