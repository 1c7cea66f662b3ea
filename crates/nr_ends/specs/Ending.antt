-- How the program ends: its status, its text, and the stream that the text goes to.
use Rattle.std.specs.Prelude.{◌≡◌, ◌≢◌, ℕ, suc, List, [], ◌∷◌, ◌++◌, All, Option, codes, Result, Ok, Err}
use Rattle.std.specs.String.{string_bytes}
use Rattle.nr_streams.specs.Sink.{with_text}
use Rattle.nr_ends.specs.declared.ending.Ending.{Ending}
use Rattle.nr_ends.specs.declared.ending.Ending.TheVariants.{Done, Help, Refused, Usage}
use Rattle.nr_commands.specs.declared.fault.RunFault.{RunFault}
use Rattle.nr_commands.specs.declared.fault.RunFault.TheVariants as faults
use Rattle.nr_job.specs.declared.jobs.JobFault.{JobFault}
use Rattle.nr_job.specs.declared.jobs.JobFault.TheVariants as job_faults

-- how words that ask for no job end
abbrev pub refused_by : JobFault → Ending
refused_by (job_faults.Usage text) = Usage text
refused_by (job_faults.Help text) = Help text
refused_by job_faults.Memory = Refused faults.Memory

-- how a command's result ends the program
abbrev pub ending_by : {T : Type 0} → Result T RunFault → Ending
ending_by (Ok done) = Done
ending_by (Err fault) = Refused fault

-- 0 if the job is done or help was asked for, 1 if the job is refused, 2 if the words ask for no job
abbrev pub status_of : Ending → ℕ
status_of Done = 0
status_of (Help text) = 0
status_of (Refused fault) = 1
status_of (Usage text) = 2

-- how it ends if so many puts of its help failed: help that cannot be written is a refusal
abbrev pub ended_at : Ending → ℕ → Ending
ended_at (Help text) (suc n) = Refused faults.Write
ended_at ending n = ending

-- what goes to standard output as it ends
abbrev pub output_of : Ending → List ℕ
output_of (Help text) = string_bytes text
output_of _ = []

-- there is no line end among these
abbrev pub IsOnOneLine : List ℕ → Type 0
IsOnOneLine words = All (λ octet. octet ≢ 10) words

-- the line of a refusal; its words for each fault are not specified here
abbrev pub IsRefusalLine : List ℕ → Type 0
IsRefusalLine line = (words : List ℕ) × IsOnOneLine words × (line ≡ codes "linksim: refused: " ++ words ++ 10 ∷ [])

-- What is on standard error as the program ends, if `old` was there before. A refusal adds a line. A usage fault adds
-- the text that says how the program is used.
abbrev pub Complains : Ending → Option (List ℕ) → Option (List ℕ) → Type 0
Complains (Refused fault) old new = (line : List ℕ) × IsRefusalLine line × (new ≡ with_text old line)
Complains (Usage text) old new = new ≡ with_text old (string_bytes text)
Complains _ old new = new ≡ old
