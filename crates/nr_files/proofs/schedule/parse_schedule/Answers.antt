-- What is true of the transmissions that a schedule says is true of those that are returned.
use Rattle.nr_files.proofs.Common.{ℕ, Result, Ok, Err, IfOk, List, [], subst, arith, Gives, Timetable, schedule_said}
use Rattle.nr_files.{proofs.Common.ScheduleFault, specs.Schedule.timetable_by, specs.declared.schedule.Schedule.Schedule}
use Rattle.nr_files.proofs.ScheduleFacts.{AreSaid, schedule_said-holds}
use Rattle.nr_files.specs.declared.schedule.ScheduleFault.TheVariants as fault
use Rattle.nr_files.proofs.schedule.parse_schedule.Goals as goal

holds : (blocks : ℕ) (text : List ℕ) (r : Result Schedule ScheduleFault) (P : Schedule → Type 0)
    → Gives fault.Memory timetable_by r (schedule_said blocks text)
    → ((s : Schedule) → AreSaid blocks s.by_process 2 [] s.transmissions.items → P s) → IfOk r P
holds blocks text (Ok s) P given are =
    are s (subst (λ r. IfOk r (λ (said : Timetable). AreSaid blocks said.by_process 2 [] said.transmissions)) given
    (schedule_said-holds blocks text))
holds blocks text (Err e) P given are = tt

pub returns-clause-few : goal.returns-clause-few
returns-clause-few c = holds c.args.blocks c.args.text.now c.judged.result _ c.judged.ensures (λ s are. omega (arith, are.few))

pub returns-clause-blocks : goal.returns-clause-blocks
returns-clause-blocks c = holds c.args.blocks c.args.text.now c.judged.result _ c.judged.ensures (λ s are. are.blocks_are)

pub returns-clause-numbers : goal.returns-clause-numbers
returns-clause-numbers c = holds c.args.blocks c.args.text.now c.judged.result _ c.judged.ensures (λ s are. are.numbers)

pub returns-clause-placed : goal.returns-clause-placed
returns-clause-placed c = holds c.args.blocks c.args.text.now c.judged.result _ c.judged.ensures (λ s are. are.placed)

pub returns-clause-rounds : goal.returns-clause-rounds
returns-clause-rounds c = holds c.args.blocks c.args.text.now c.judged.result _ c.judged.ensures (λ s are. are.goes_on)
