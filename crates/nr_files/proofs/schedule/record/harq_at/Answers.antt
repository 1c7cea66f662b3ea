use Rattle.nr_files.proofs.{Common.Err, Common.Ok, Common.sym, Common.fields_of, ScheduleFacts.harq_at-said, RefusalFacts.err-is}
use Rattle.nr_files.proofs.schedule.record.harq_at.Goals as goal

pub returns-in_err-fresh : goal.returns-in_err-fresh
returns-in_err-fresh c =
    rw (err-is c.from_residual-in_err-fresh.result _ c.from_residual-in_err-fresh.ensures.1)
    (sym (harq_at-said c.args.number c.args.block c.in_ok-process.process
    (fields_of c.args.row.now) c.args.earlier.now.transmissions.items c.fresh_block.result
    (Err c.in_err-fresh.field-0.0) c.in_ok-process.ensures c.fresh_block.ensures c.in_err-fresh.ensures))

pub returns : goal.returns
returns c =
    sym (harq_at-said c.args.number c.args.block c.in_ok-process.process
    (fields_of c.args.row.now) c.args.earlier.now.transmissions.items c.fresh_block.result
    (Ok c.in_ok-fresh.fresh) c.in_ok-process.ensures c.fresh_block.ensures c.in_ok-fresh.ensures)
