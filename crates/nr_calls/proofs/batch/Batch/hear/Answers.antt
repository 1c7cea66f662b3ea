use Rattle.nr_calls.proofs.batch.Batch.hear.Goals as goal

pub returns-clause-hears : goal.returns-clause-hears
returns-clause-hears c = c.hear_blocks.ensures.hears c.args.seeds.now c.in_ok-generators.ensures
