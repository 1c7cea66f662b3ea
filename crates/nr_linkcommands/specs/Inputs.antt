-- What the four files of a command over a schedule say, both for `send` and for the commands that follow its schedule.
use Rattle.std.specs.Prelude.{◌≡◌, ℕ, ◌+◌, List, [], ◌∷◌, map, Result, Ok}
use Rattle.nr_bitvec.specs.BitList.{bits_of}
use Rattle.nr_refusal.specs.Refusal.{◌>>=◌, with_fault}
use Rattle.nr_shifttable.specs.Accepted.{Entries}
use Rattle.nr_files.specs.Schedule.{Timetable, timetable_by}
use Rattle.nr_blockdesk.specs.Sent.{SenderView, sending_said}
use Rattle.nr_transmission.specs.declared.settings.Settings.{Settings}
use Rattle.nr_files.specs.declared.blocks.BlocksFault.{BlocksFault}
use Rattle.nr_linkcommands.specs.declared.inputs.Inputs.{Inputs}
use Rattle.nr_files.specs.declared.schedule.ScheduleFault.{ScheduleFault}
use Rattle.nr_files.specs.declared.settings.SettingsFault.{SettingsFault}
use Rattle.nr_shifttable.specs.declared.fault.TableFault.{TableFault}
use Rattle.nr_commands.specs.declared.fault.RunFault.{RunFault}
use Rattle.nr_commands.specs.declared.fault.RunFault.TheVariants as faults

-- what each of four files says: transport blocks as octets
pub record Files : Type 0 where
  pub table : Result Entries TableFault
  pub settings : Result Settings SettingsFault
  pub blocks : Result (List (List ℕ)) BlocksFault
  pub schedule : Result Timetable ScheduleFault

-- what four files without a fault say
pub record Given : Type 0 where
  pub table : Entries
  pub settings : Settings
  pub blocks : List (List ℕ)
  pub schedule : Timetable

-- what four files that were read say
abbrev pub given_by : Inputs → Given
given_by inputs = record {
  table = inputs.table;
  settings = inputs.settings;
  blocks = map (λ block. block.items) inputs.blocks.items;
  schedule = timetable_by inputs.schedule;
}

-- the four files, or the first fault: in this order the table, the settings, the blocks, and the schedule
unfoldable pub files_said : Files → Result Given RunFault
files_said files = do
  table ← with_fault faults.Table files.table
  settings ← with_fault faults.Settings files.settings
  blocks ← with_fault faults.Blocks files.blocks
  schedule ← with_fault faults.Schedule files.schedule
  Ok (record { table = table; settings = settings; blocks = blocks; schedule = schedule })

-- the sender of transport block n, or the reason to refuse that block
abbrev pub sender_said : Entries → Settings → ℕ → List ℕ → Result SenderView RunFault
sender_said table settings n octets = with_fault (faults.Desk n) (sending_said table settings (bits_of octets))

-- a sender for each transport block from block n on, or the first fault
unfoldable pub senders_from : Entries → Settings → ℕ → List (List ℕ) → Result (List SenderView) RunFault
senders_from table settings n [] = Ok []
senders_from table settings n (octets ∷ blocks) = do
  sender ← sender_said table settings n octets
  more ← senders_from table settings (n + 1) blocks
  Ok (sender ∷ more)

-- a sender for each transport block, and the schedule
pub record Ready : Type 0 where
  pub senders : List SenderView
  pub schedule : Timetable

-- what a command over a schedule works from, or the first fault: that of a file, or of a transport block
unfoldable pub inputs_said : Files → Result Ready RunFault
inputs_said files = do
  given ← files_said files
  senders ← senders_from given.table given.settings 1 given.blocks
  Ok (record { senders = senders; schedule = given.schedule })

-- No file is read after one that is refused: their Sources are unchanged.
abbrev pub LeavesLater : {S B D : Type 0} → RunFault → S → S → B → B → D → D → Type 0
LeavesLater (faults.Table e) s s_new b b_new d d_new = (s_new ≡ s) × (b_new ≡ b) × (d_new ≡ d)
LeavesLater (faults.Settings e) s s_new b b_new d d_new = (b_new ≡ b) × (d_new ≡ d)
LeavesLater (faults.Blocks e) s s_new b b_new d d_new = d_new ≡ d
LeavesLater e s s_new b b_new d d_new = Unit {0}
