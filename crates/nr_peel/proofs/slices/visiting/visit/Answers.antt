use Rattle.nr_peel.proofs.{Common.sym, Common.◌∙◌, Common.row_in, SliceSweepFacts.gains_lone, SliceSweepFacts.gains_none}
use Rattle.nr_peel.proofs.slices.visiting.visit.Goals as goal

pub returns-then-not-find_lone-clause-gains : goal.returns-then-not-find_lone-clause-gains
returns-then-not-find_lone-clause-gains c =
    gains_none (row_in c.args.lifted.now c.args.row.now) c.args.lifted.now.plan.z c.args.known.now
    (sym c.find_lone.ensures.any ∙ c.if-not-find_lone.true)

pub returns-clause-gains : goal.returns-clause-gains
returns-clause-gains c =
    gains_lone (row_in c.args.lifted.now c.args.row.now) c.args.lifted.now.plan.z c.args.known.now c.fill_block.new.known
    c.find_lone.new.some c.find_lone.ensures.lone c.fill_block.ensures.filled
