use Rattle.nr_files.proofs.Common.{inr, arith}
use Rattle.nr_files.proofs.SettingsFacts.{gives-same, said-no_table, said-table, said-too_long}
use Rattle.nr_files.proofs.settings.parse_settings.Goals as goal

pub returns-then-text-gt-MOST_OCTETS : goal.returns-then-text-gt-MOST_OCTETS
returns-then-text-gt-MOST_OCTETS c = inr (said-too_long c.args.text.now c.if-text-gt-MOST_OCTETS.true)

pub returns-in-Ok : goal.returns-in-Ok
returns-in-Ok c = grind (arith, gives-same, said-table)

pub returns-in-Err-2 : goal.returns-in-Err-2
returns-in-Err-2 c =
    inr (said-no_table c.args.text.now (λ long. omega (arith, long))
    (c.in-Err.ensures.refused (λ memory. cc (c.is_memory.ensures.1 memory))))
