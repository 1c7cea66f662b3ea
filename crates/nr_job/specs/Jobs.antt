-- The job that the program's words ask for, by what clap gives for the options of its command.
use Rattle.std.specs.Prelude.{◌≡◌, ◌⊎◌, ℕ, ◌+◌, ◌≤◌, true, List, [], Some, codes, IsSomeAnd, slice_get}
use Rattle.std.specs.{Prelude.bytes_eq, Prelude.if◌then◌else◌, String.string_bytes}
use Rattle.std.specs.Str.Parse.{IsNumeral, digits_value, without_leading_plus}
use Rattle.clap.specs.Words.{App, Kinds, Row, Text, fault_of, first_of, matches_of, one_of, takes}
use Rattle.nr_job.specs.{Commands.check_app, Commands.cut_app, Commands.files_app, declared.jobs.Files.Files, declared.jobs.Job.Job}
use Rattle.nr_job.specs.declared.jobs.Job.TheVariants.{Audit, Check, Cut, Run, Send}

-- the value of the option is this text
abbrev pub IsTextAt : Text → List Row → Text → Type 0
IsTextAt name rows text = first_of name rows ≡ Some text

-- the value of the option is a numeral of this number
abbrev pub IsNumberAt : Text → List Row → ℕ → Type 0
IsNumberAt name rows n = IsSomeAnd (one_of name rows) (λ text.
    IsNumeral 10 (without_leading_plus text) × (n ≡ digits_value 10 (without_leading_plus text)))

-- the command of a job
abbrev pub app_of : Job → App
app_of (Cut rate path) = cut_app
app_of (Check path) = check_app
app_of (Send files) = files_app (codes "send")
app_of (Run files) = files_app (codes "run")
app_of (Audit files) = files_app (codes "audit")

-- the paths of the four files are the values of their options
pub record IsGiven (rows : List Row) (files : Files) : Type 0 where
  pub table : IsTextAt (codes "table") rows (string_bytes files.table)
  pub settings : IsTextAt (codes "settings") rows (string_bytes files.settings)
  pub blocks : IsTextAt (codes "blocks") rows (string_bytes files.blocks)
  pub schedule : IsTextAt (codes "schedule") rows (string_bytes files.schedule)

-- 1 if the path is standard input, and 0 otherwise
abbrev pub dash : Text → ℕ
dash path = if bytes_eq path (codes "-") then 1 else 0

-- how many of the four paths are standard input
abbrev pub dashes : Files → ℕ
dashes files = dash (string_bytes files.table) + dash (string_bytes files.settings)
    + dash (string_bytes files.blocks) + dash (string_bytes files.schedule)

-- the options give these four files; at most one of them is standard input
abbrev pub IsGivenOnce : List Row → Files → Type 0
IsGivenOnce rows files = IsGiven rows files × (dashes files ≤ 1)

-- the options of a job's command give the job: `cut` has a rate in 1..2048 and a file of blocks, `check` has a table
abbrev pub IsGivenBy : List Row → Job → Type 0
IsGivenBy rows (Cut rate path) = (1 ≤ rate) × (rate ≤ 2048) × IsNumberAt (codes "rate") rows rate
    × IsTextAt (codes "blocks") rows (string_bytes path)
IsGivenBy rows (Check path) = IsTextAt (codes "table") rows (string_bytes path)
IsGivenBy rows (Send files) = IsGivenOnce rows files
IsGivenBy rows (Run files) = IsGivenOnce rows files
IsGivenBy rows (Audit files) = IsGivenOnce rows files

-- the words ask for this job: the first is its command, and clap reads its options in them
unfoldable pub IsJobOf : List Text → Job → Type 0
IsJobOf words job = (slice_get words 0 ≡ Some (app_of job).top.name) × IsGivenBy (matches_of (app_of job) words) job

-- the faults that clap finds in the words as those of the job's command
unfoldable pub faults_at : List Text → Job → Kinds
faults_at words job = fault_of (app_of job) words

-- clap takes the words as those of the job's command, by its test or because it finds no fault in them
unfoldable pub IsTakenAs : List Text → Job → Type 0
IsTakenAs words job = (takes (app_of job) words ≡ true) ⊎ (faults_at words job ≡ [])

-- the job if there are no words: `cut` of standard input, at the highest rate
abbrev pub IsDefaultJob : Job → Type 0
IsDefaultJob (Cut rate path) = (rate ≡ 2048) × (string_bytes path ≡ codes "-")
IsDefaultJob job = ⊥
