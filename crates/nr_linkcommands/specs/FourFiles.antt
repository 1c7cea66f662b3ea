-- The one contract of the commands over four files: `send`, `run` and `audit`. They differ only in their text.
use Rattle.std.specs.Prelude.{◌≡◌, ◌⊎◌, ◌+◌, ℕ, List, length, Option, Result, Ok, Err, IfErr, IfOk, IfSome}
use Rattle.nr_refusal.specs.Refusal.{◌>>=◌, FailsAs}
use Rattle.nr_streams.specs.declared.sink.Sink as sink
use Rattle.nr_streams.specs.declared.source.Source as source
use Rattle.nr_shifttable.specs.Accepted.{table_said}
use Rattle.nr_shifttable.specs.declared.fault.TableFault.TheVariants as table_fault
use Rattle.nr_blockdesk.specs.Sent.{SenderView}
use Rattle.nr_files.specs.Blocks.{blocks_said}
use Rattle.nr_files.specs.Schedule.{Timetable, schedule_said}
use Rattle.nr_files.specs.Settings.{settings_said}
use Rattle.nr_files.specs.declared.blocks.BlocksFault.TheVariants as blocks_fault
use Rattle.nr_files.specs.declared.schedule.ScheduleFault.TheVariants as schedule_fault
use Rattle.nr_files.specs.declared.settings.SettingsFault.TheVariants as settings_fault
use Rattle.nr_commands.specs.Command.{Delivers}
use Rattle.nr_commands.specs.declared.fault.RunFault.{RunFault}
use Rattle.nr_commands.specs.declared.fault.RunFault.TheVariants as faults
use Rattle.nr_linkcommands.specs.Inputs.{Files, LeavesLater, inputs_said}

-- what a command says for its four files: the text for the senders of the transport blocks and the schedule, or the
-- first refusal
unfoldable pub said_over : (List SenderView → Timetable → List ℕ) → Files → Result (List ℕ) RunFault
said_over text files = do
  inputs ← inputs_said files
  Ok (text inputs.senders inputs.schedule)

-- a Source or a Sink before a call and after it, with what it holds and its count of failures
pub record Used (X : Type 0) : Type 0 where
  pub octets : X → Option (List ℕ)
  pub failures : X → ℕ
  pub old : X
  pub new : X

-- the pulls of a call from a Source, and its puts into a Sink
abbrev pub pulls : {X : Type 0} → source.Ghosts X → X → X → Used X
pulls s old new = record { octets = s.remaining; failures = s.failures; old = old; new = new }

abbrev pub puts : {X : Type 0} → sink.Ghosts X → X → X → Used X
puts s old new = record { octets = s.written; failures = s.failures; old = old; new = new }

-- the octets that it held before the call, and those that it holds after it, if they are known
abbrev pub before : {X : Type 0} → Used X → Option (List ℕ)
before u = u.octets u.old

abbrev pub after : {X : Type 0} → Used X → Option (List ℕ)
after u = u.octets u.new

-- What is known of a file's result. If its Source failed, the result is its Read. Otherwise it is what the octets say that
-- the Source held, if they are known.
abbrev pub Says : {S X E : Type 0} → Used S → (List ℕ → Result X E) → E → Result X E → Type 0
Says u said unread answer = ((u.failures u.new ≡ u.failures u.old + 1) × (answer ≡ Err unread))
    ⊎ ((u.failures u.new ≡ u.failures u.old) × IfSome (before u) (λ octets. answer ≡ said octets))

-- Four files are those of these Sources. The result of one depends on no other, except that a schedule is read for the
-- number of blocks.
pub record HaveOctets {T S B D : Type 0} (files : Files) (t : Used T) (s : Used S) (b : Used B) (d : Used D) : Type 0 where
  pub table : Says t table_said table_fault.Read files.table
  pub settings : Says s settings_said settings_fault.Read files.settings
  pub blocks : Says b blocks_said blocks_fault.Read files.blocks
  pub schedule : IfOk files.blocks (λ blocks. Says d (schedule_said (length blocks)) schedule_fault.Read files.schedule)

-- this is true of some four files that are those of these Sources
abbrev pub OfFour : {T S B D : Type 0} → Used T → Used S → Used B → Used D → (Files → Type 0) → Type 0
OfFour t s b d holds = (files : Files) × (HaveOctets files t s b d) × holds files

-- this fault is returned exactly if it failed
abbrev pub FailsBy : {X Y E : Type 0} → E → Result Y E → Used X → Type 0
FailsBy told result u = FailsAs told result (u.failures u.old) (u.failures u.new)

-- What a command does to the Sources of a table, settings, blocks and a schedule, and to a Sink.
pub record IsOverFourFiles {T S B D O X : Type 0} (said : Files → Result (List ℕ) RunFault) (result : Result X RunFault)
    (t : Used T) (s : Used S) (b : Used B) (d : Used D) (out : Used O) : Type 0 where
  -- the text, or the fault, for the four files of the Sources is delivered
  pub text : OfFour t s b d (λ files. Delivers (before out) (after out) result (said files))
  -- a file cannot be read exactly if its Source failed
  pub table : FailsBy (faults.Table table_fault.Read) result t
  pub settings : FailsBy (faults.Settings settings_fault.Read) result s
  pub blocks : FailsBy (faults.Blocks blocks_fault.Read) result b
  pub schedule : FailsBy (faults.Schedule schedule_fault.Read) result d
  -- no file is read after one that is refused
  pub later : IfErr result (λ e. LeavesLater e s.old s.new b.old b.new d.old d.new)
  -- the output cannot be written exactly if a put failed
  pub put : FailsBy faults.Write result out
