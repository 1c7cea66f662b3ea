use Rattle.nr_files.proofs.{Common.arith, RefusalFacts.fails_as-said, RefusalFacts.gives-never}
use Rattle.nr_files.proofs.SettingsFacts.{said-too_long, settings_said-unread}
use Rattle.nr_files.specs.declared.settings.SettingsFault.TheVariants as fault
use Rattle.nr_files.proofs.settings.read_settings.Goals as goal

pub returns-in-Err-TooLong-clause-said : goal.returns-in-Err-TooLong-clause-said
returns-in-Err-TooLong-clause-said g c = grind (arith, said-too_long)

pub returns-clause-pulled : goal.returns-clause-pulled
returns-clause-pulled g c = grind (arith, fails_as-said, settings_said-unread)

-- a text that was read is never refused as unread
pub returns-clause-first : goal.returns-clause-first
returns-clause-first g c = λ is.
    absurd (gives-never fault.Read fault.Memory _ c.parse_settings.result _ (λ same. cc) c.parse_settings.ensures
    (settings_said-unread _) is)
