use Rattle.nr_files.proofs.{Common.arith, RefusalFacts.fails_as-said, RefusalFacts.gives-never}
use Rattle.nr_files.proofs.ScheduleFacts.{schedule_said-too_long, schedule_said-unread}
use Rattle.nr_files.specs.declared.schedule.ScheduleFault.TheVariants as fault
use Rattle.nr_files.proofs.schedule.read_schedule.Goals as goal

pub returns-in-Err-TooLong-clause-said : goal.returns-in-Err-TooLong-clause-said
returns-in-Err-TooLong-clause-said g c = grind (arith, schedule_said-too_long)

pub returns-clause-pulled : goal.returns-clause-pulled
returns-clause-pulled g c = grind (arith, fails_as-said, schedule_said-unread)

-- a text that was read is never refused as unread
pub returns-clause-first : goal.returns-clause-first
returns-clause-first g c = λ is.
    absurd (gives-never fault.Read fault.Memory _ c.parse_schedule.result _ (λ same. cc) c.parse_schedule.ensures.said
    (schedule_said-unread _ _) is)
