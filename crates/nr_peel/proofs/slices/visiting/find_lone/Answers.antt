use Rattle.nr_peel.proofs.Common.{rules, arith, ◌∙◌, length-map, row_in}
use Rattle.nr_peel.proofs.SliceFacts.{lone_row, lone_rows, none_lone}
use Rattle.nr_peel.proofs.slices.visiting.find_lone.Goals as goal

pub returns-clause-lone : goal.returns-clause-lone
returns-clause-lone c = λ j t short lane.
    lone_row c.args.known.now (row_in c.args.lifted.now c.args.row.now t) c.loop-n.n j _ _ _
    (grind (arith, length-map)) (c.loop-n.invariant.some j t short lane) (c.loop-n.invariant.more j t short lane)
    (c.settle.ensures.lone j t short lane)

pub returns-clause-any : goal.returns-clause-any
returns-clause-any c =
    c.settle.ensures.any
    ∙ lone_rows c.args.known.now c.settle.new.some (row_in c.args.lifted.now c.args.row.now) c.args.lifted.now.plan.z
    (λ t. let h = c.type_inv.some t in search rules)
    (λ j t short lane.
    lone_row c.args.known.now (row_in c.args.lifted.now c.args.row.now t) c.loop-n.n j _ _ _
    (grind (arith, length-map)) (c.loop-n.invariant.some j t short lane) (c.loop-n.invariant.more j t short lane)
    (c.settle.ensures.lone j t short lane))

pub returns-in_default-clause-any : goal.returns-in_default-clause-any
returns-in_default-clause-any c =
    none_lone c.args.known.now c.args.lifted.now c.args.row.now c.args.lifted.now.plan.z (search rules)
