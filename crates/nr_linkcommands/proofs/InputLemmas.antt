-- What the four files of a command over a schedule say, step by step, and the one contract of the commands over them.
use Rattle.nr_linkcommands.proofs.Common.{DeskFault, Entries, Err, List, None, Ok, Option, Result, SenderView, Settings, Some}
use Rattle.nr_linkcommands.proofs.Common.{Timetable, [], ap, append_assoc, arith, drop, get_or, length, refl, senders_from}
use Rattle.nr_linkcommands.proofs.Common.{subst, sym, ℕ, ◌++◌, ◌+◌, ◌<◌, ◌>>=◌, ◌∷◌, ◌≡◌}
use Rattle.std.proofs.Common.{◌≢◌, ◌⊎◌, inl, inr, IfSome}
use Rattle.std.proofs.Common.{IsErrOf, IsErrAnd, IfErr, IfOk}
use Rattle.std.proofs.Common.{⊎_elim}
use Rattle.std.proofs.lemmas.Option.{IfSome_then}
use Rattle.nr_refusal.specs.Refusal.{Gives, FailsAs}
use Rattle.nr_shifttable.specs.Accepted.{TellsTable, table_said}
use Rattle.nr_shifttable.specs.declared.fault.TableFault.{TableFault}
use Rattle.nr_shifttable.specs.declared.fault.TableFault.TheVariants as table_fault
use Rattle.nr_files.specs.Blocks.{blocks_said}
use Rattle.nr_commands.specs.Command.{IsBlockFault, Writes}
use Rattle.nr_commands.specs.Faults.{blocks_refusal, schedule_refusal, settings_refusal, table_refusal}
use Rattle.nr_linkcommands.specs.Inputs.{Files, Given, files_said, sender_said, inputs_said}
use Rattle.nr_files.specs.Schedule.{schedule_said}
use Rattle.nr_files.specs.Settings.{settings_said}
use Rattle.nr_files.specs.declared.settings.SettingsFault.{SettingsFault}
use Rattle.nr_files.specs.declared.settings.SettingsFault.TheVariants as settings_fault
use Rattle.nr_files.specs.declared.schedule.ScheduleFault.{ScheduleFault}
use Rattle.nr_files.specs.declared.schedule.ScheduleFault.TheVariants as schedule_fault
use Rattle.nr_files.specs.declared.blocks.BlocksFault.{BlocksFault}
use Rattle.nr_files.specs.declared.blocks.BlocksFault.TheVariants as blocks_fault
use Rattle.nr_commands.specs.declared.fault.RunFault.{RunFault}
use Rattle.nr_commands.specs.declared.fault.RunFault.TheVariants as faults
use Rattle.nr_linkcommands.proofs.RoundTextFacts.{left-turn}
use Rattle.nr_commands.specs.declared.fault.RunFault.TheVariants.{Memory}
use Rattle.nr_linkcommands.specs.FourFiles.{HaveOctets, OfFour, Says, Used, before, said_over}

-- what is true of four files, if something else is
pub of_four_then : {T S B D : Type 0} (t : Used T) (s : Used S) (b : Used B) (d : Used D) {P Q : Files → Type 0}
    → OfFour t s b d P → ((files : Files) → P files → Q files) → OfFour t s b d Q
of_four_then t s b d holds next = (holds.0, holds.1, next holds.0 holds.2)

-- no pull of a Source failed
abbrev Unmoved : {S : Type 0} → Used S → Type 0
Unmoved u = u.failures u.new ≡ u.failures u.old

-- a pull failed exactly if the fault is the Read
abbrev Moves : {S E : Type 0} → Used S → E → E → Type 0
Moves u unread e = ((e ≡ unread) × (u.failures u.new ≡ u.failures u.old + 1)) ⊎ ((e ≢ unread) × Unmoved u)

unmoved : {S E : Type 0} (u : Used S) (unread e : E) → Moves u unread e → e ≢ unread → Unmoved u
unmoved u unread e (inl p) other = absurd (other p.0)
unmoved u unread e (inr p) other = p.1

-- a file that was read has its value
pub says : {S X E : Type 0} (u : Used S) (said : List ℕ → Result X E) (unread : E) (x : X) → Unmoved u
    → IfSome (before u) (λ octets. said octets ≡ Ok x) → Says u said unread (Ok x)
says u said unread x same is = inr (same, IfSome_then (before u) is (λ octets e. sym e))

-- a file that is refused has its fault, which is its Read if its Source failed
says-fault : {S X E : Type 0} (u : Used S) (said : List ℕ → Result X E) (unread memory e : E) → Moves u unread e
    → (Unmoved u → IfSome (before u) (λ octets. (e ≡ memory) ⊎ (said octets ≡ Err e))) → e ≢ memory
    → Says u said unread (Err e)
says-fault u said unread memory e (inl p) told other = inl (p.1, ap Err p.0)
says-fault u said unread memory e (inr p) told other =
    inr (p.1, IfSome_then (before u) (told p.1) (λ octets is. ⊎_elim (λ same. absurd (other same)) (λ same. sym same) is))

-- a table of a Source that did not fail is what its file says
pub says-table : {S X : Type 0} (u : Used S) (r : Result X TableFault) (table : Entries) → Unmoved u
    → (IsErrOf r table_fault.Read → ⊥)
    → IfSome (before u) (λ text. IsErrOf r table_fault.Read ⊎ (table_said text ≡ Ok table))
    → Says u table_said table_fault.Read (Ok table)
says-table u r table same sound said =
    inr (same, IfSome_then (before u) said (λ text is. ⊎_elim (λ read. absurd (sound read)) (λ e. sym e) is))

-- what a table that is refused tells, if its Source did not fail
tells-fault : (file : Option (List ℕ)) (e : TableFault) → TellsTable file (Err e) → e ≢ table_fault.Read
    → IfSome file (λ octets. (e ≡ table_fault.Memory) ⊎ (table_said octets ≡ Err e))
tells-fault None e told other = tt
tells-fault (Some octets) e (inl read) other = let same : e ≡ table_fault.Read = cc in absurd (other same)
tells-fault (Some octets) e (inr gives) other = gives

-- a table that is refused has its fault
says-table-fault : {S : Type 0} (u : Used S) (e : TableFault) → Moves u table_fault.Read e → TellsTable (before u) (Err e)
    → e ≢ table_fault.Memory → Says u table_said table_fault.Read (Err e)
says-table-fault u e (inl p) told other = inl (p.1, ap Err p.0)
says-table-fault u e (inr p) told other =
    says-fault u table_said table_fault.Read table_fault.Memory e (inr p) (λ same. tells-fault (before u) e told p.0) other

-- a file that is not read has what its octets say, if they are known
abbrev untouched : {X E : Type 0} → Option (List ℕ) → (List ℕ → Result X E) → E → Result X E
untouched None said unread = Err unread
untouched (Some octets) said unread = said octets

untouched-is : {X E : Type 0} (file : Option (List ℕ)) (said : List ℕ → Result X E) (unread : E)
    → IfSome file (λ octets. untouched file said unread ≡ said octets)
untouched-is None said unread = tt
untouched-is (Some octets) said unread = refl

says-untouched : {S X E : Type 0} (u : Used S) (said : List ℕ → Result X E) (unread : E) → Unmoved u
    → Says u said unread (untouched (before u) said unread)
says-untouched u said unread same = inr (same, untouched-is (before u) said unread)

-- a schedule that is not read, after these blocks
abbrev after_blocks : Result (List (List ℕ)) BlocksFault → Option (List ℕ) → Result Timetable ScheduleFault
after_blocks (Ok blocks) file = untouched file (schedule_said (length blocks)) schedule_fault.Read
after_blocks (Err e) file = Err schedule_fault.Read

says-after : {D : Type 0} (d : Used D) (said : Result (List (List ℕ)) BlocksFault) → Unmoved d
    → IfOk said (λ blocks. Says d (schedule_said (length blocks)) schedule_fault.Read (after_blocks said (before d)))
says-after d (Ok blocks) same = says-untouched d (schedule_said (length blocks)) schedule_fault.Read same
says-after d (Err e) same = tt

-- a fault of a file is the command's, whatever the files after it say
module _ {X T S B D : Type 0} (view : X → Given) (t : Used T) (s : Used S) (b : Used B) (d : Used D) where
  abbrev IsSaid : RunFault → Type 0
  IsSaid told = OfFour t s b d (λ files. Gives faults.Memory view (Err told) (files_said files))

  -- files of which no more was read
  abbrev to_blocks : Result Entries TableFault → Result Settings SettingsFault → Result (List (List ℕ)) BlocksFault → Files
  to_blocks table settings blocks =
      record { table = table; settings = settings; blocks = blocks; schedule = after_blocks blocks (before d) }

  abbrev to_settings : Result Entries TableFault → Result Settings SettingsFault → Files
  to_settings table settings = to_blocks table settings (untouched (before b) blocks_said blocks_fault.Read)

  abbrev to_table : Result Entries TableFault → Files
  to_table table = to_settings table (untouched (before s) settings_said settings_fault.Read)

  have_blocks : (table : Result Entries TableFault) (settings : Result Settings SettingsFault)
      (blocks : Result (List (List ℕ)) BlocksFault) → Says t table_said table_fault.Read table
      → Says s settings_said settings_fault.Read settings → Says b blocks_said blocks_fault.Read blocks → Unmoved d
      → HaveOctets (to_blocks table settings blocks) t s b d
  have_blocks table settings blocks first second third same =
      record { table = first; settings = second; blocks = third; schedule = says-after d blocks same }

  have_settings : (table : Result Entries TableFault) (settings : Result Settings SettingsFault)
      → Says t table_said table_fault.Read table → Says s settings_said settings_fault.Read settings → Unmoved b → Unmoved d
      → HaveOctets (to_settings table settings) t s b d
  have_settings table settings first second third same =
      have_blocks table settings (untouched (before b) blocks_said blocks_fault.Read) first second
      (says-untouched b blocks_said blocks_fault.Read third) same

  have_table : (table : Result Entries TableFault) → Says t table_said table_fault.Read table → Unmoved s → Unmoved b
      → Unmoved d → HaveOctets (to_table table) t s b d
  have_table table first second third same = have_settings table (untouched (before s) settings_said settings_fault.Read)
      first (says-untouched s settings_said settings_fault.Read second) third same

  pub refused-table : (e : TableFault) → Moves t table_fault.Read e → TellsTable (before t) (Err e) → Unmoved s → Unmoved b
      → Unmoved d → IsSaid (table_refusal e)
  unfolding files_said
  refused-table table_fault.Memory moves told second third same = (
    to_table (untouched (before t) table_said table_fault.Read),
    have_table (untouched (before t) table_said table_fault.Read)
        (says-untouched t table_said table_fault.Read (unmoved t table_fault.Read table_fault.Memory moves (λ is. cc)))
        second third same,
    inl refl,
  )
  refused-table e moves told second third same = (
    to_table (Err e),
    have_table (Err e) (says-table-fault t e moves told (λ is. cc)) second third same,
    inr refl,
  )

  pub refused-settings : (table : Entries) (e : SettingsFault) → Says t table_said table_fault.Read (Ok table)
      → Moves s settings_fault.Read e
      → (Unmoved s → IfSome (before s) (λ octets. (e ≡ settings_fault.Memory) ⊎ (settings_said octets ≡ Err e)))
      → Unmoved b → Unmoved d → IsSaid (settings_refusal e)
  unfolding files_said
  refused-settings table settings_fault.Memory first moves told third same = (
    to_settings (Ok table) (untouched (before s) settings_said settings_fault.Read),
    have_settings (Ok table) (untouched (before s) settings_said settings_fault.Read) first
        (says-untouched s settings_said settings_fault.Read
        (unmoved s settings_fault.Read settings_fault.Memory moves (λ is. cc)))
        third same,
    inl refl,
  )
  refused-settings table e first moves told third same = (
    to_settings (Ok table) (Err e),
    have_settings (Ok table) (Err e) first
        (says-fault s settings_said settings_fault.Read settings_fault.Memory e moves told (λ is. cc)) third same,
    inr refl,
  )

  pub refused-blocks : (table : Entries) (settings : Settings) (e : BlocksFault) → Says t table_said table_fault.Read (Ok table)
      → Says s settings_said settings_fault.Read (Ok settings) → Moves b blocks_fault.Read e
      → (Unmoved b → IfSome (before b) (λ octets. (e ≡ blocks_fault.Memory) ⊎ (blocks_said octets ≡ Err e)))
      → Unmoved d → IsSaid (blocks_refusal e)
  unfolding files_said
  refused-blocks table settings blocks_fault.Memory first second moves told same = (
    to_blocks (Ok table) (Ok settings) (untouched (before b) blocks_said blocks_fault.Read),
    have_blocks (Ok table) (Ok settings) (untouched (before b) blocks_said blocks_fault.Read) first second
        (says-untouched b blocks_said blocks_fault.Read (unmoved b blocks_fault.Read blocks_fault.Memory moves (λ is. cc)))
        same,
    inl refl,
  )
  refused-blocks table settings e first second moves told same = (
    to_blocks (Ok table) (Ok settings) (Err e),
    have_blocks (Ok table) (Ok settings) (Err e) first second
        (says-fault b blocks_said blocks_fault.Read blocks_fault.Memory e moves told (λ is. cc)) same,
    inr refl,
  )

  pub refused-schedule : (table : Entries) (settings : Settings) (blocks : List (List ℕ)) (e : ScheduleFault)
      → Says t table_said table_fault.Read (Ok table) → Says s settings_said settings_fault.Read (Ok settings)
      → Says b blocks_said blocks_fault.Read (Ok blocks) → Moves d schedule_fault.Read e
      → (Unmoved d → IfSome (before d)
      (λ octets. (e ≡ schedule_fault.Memory) ⊎ (schedule_said (length blocks) octets ≡ Err e)))
      → IsSaid (schedule_refusal e)
  unfolding files_said
  refused-schedule table settings blocks schedule_fault.Memory first second third moves told = (
    to_blocks (Ok table) (Ok settings) (Ok blocks),
    have_blocks (Ok table) (Ok settings) (Ok blocks) first second third
        (unmoved d schedule_fault.Read schedule_fault.Memory moves (λ is. cc)),
    inl refl,
  )
  refused-schedule table settings blocks e first second third moves told = (
    record { table = Ok table; settings = Ok settings; blocks = Ok blocks; schedule = Err e },
    record {
      table = first;
      settings = second;
      blocks = third;
      schedule = says-fault d (schedule_said (length blocks)) schedule_fault.Read schedule_fault.Memory e moves told (λ is. cc);
    },
    inr refl,
  )

-- a sender for each block, one by one
abbrev pub after_senders : List SenderView → Result (List SenderView) RunFault → Result (List SenderView) RunFault
after_senders front said = said >>= λ more. Ok (front ++ more)

after_senders-more : (front : List SenderView) (sender : SenderView) (said : Result (List SenderView) RunFault)
    → after_senders front (said >>= λ more. Ok (sender ∷ more)) ≡ after_senders (front ++ sender ∷ []) said
after_senders-more front sender (Ok more) = ap Ok (sym (append_assoc front (sender ∷ []) more))
after_senders-more front sender (Err e) = refl

-- the block at index n is the first of those from n on, and has a sender
pub senders_turn-ok : (table : Entries) (settings : Settings) (front : List SenderView) (n : ℕ) (blocks : List (List ℕ))
    (octets : List ℕ) (sender : SenderView) → n < length blocks → octets ≡ get_or blocks n octets
    → sender_said table settings (n + 1) octets ≡ Ok sender
    → after_senders (front ++ sender ∷ []) (senders_from table settings (n + 1 + 1) (drop (n + 1) blocks))
    ≡ after_senders front (senders_from table settings (n + 1) (drop n blocks))
unfolding senders_from
senders_turn-ok table settings front n blocks octets sender h is said = grind (arith, left-turn, after_senders-more)

-- or it is refused
pub senders_turn-err : (table : Entries) (settings : Settings) (front : List SenderView) (n : ℕ) (blocks : List (List ℕ))
    (octets : List ℕ) (whole : Result (List SenderView) RunFault) (e : RunFault)
    → after_senders front (senders_from table settings (n + 1) (drop n blocks)) ≡ whole → n < length blocks
    → octets ≡ get_or blocks n octets → (e ≡ faults.Memory) ⊎ (sender_said table settings (n + 1) octets ≡ Err e)
    → (e ≡ faults.Memory) ⊎ (whole ≡ Err e)
unfolding senders_from
senders_turn-err table settings front n blocks octets whole e so_far h is (inl memory) = inl memory
senders_turn-err table settings front n blocks octets whole e so_far h is (inr said) = grind (arith, left-turn)

-- a fault of a transport block is none of the other faults but `Memory`
pub of_block_or_memory : (e told : RunFault) → (e ≢ faults.Memory → IsBlockFault e) → told ≢ faults.Memory
    → (IsBlockFault told → ⊥) → e ≢ told
of_block_or_memory e told of_block memory other same = grind arith

-- what is true of a returned refusal, if it is of `Memory` and of each other fault of the file
pub by_table : {X : Type 0} (P : RunFault → Type 0) (r : Result X RunFault) (e : TableFault)
    → IsErrAnd r (λ told. told ≡ table_refusal e) → P faults.Memory → (e ≢ table_fault.Memory → P (faults.Table e))
    → IfErr r P
by_table P (Ok x) e is memory other = tt
by_table P (Err told) table_fault.Memory is memory other = subst P (sym is) memory
by_table P (Err told) e is memory other = subst P (sym is) (other (λ same. cc))

pub by_settings : {X : Type 0} (P : RunFault → Type 0) (r : Result X RunFault) (e : SettingsFault)
    → IsErrAnd r (λ told. told ≡ settings_refusal e) → P faults.Memory
    → (e ≢ settings_fault.Memory → P (faults.Settings e)) → IfErr r P
by_settings P (Ok x) e is memory other = tt
by_settings P (Err told) settings_fault.Memory is memory other = subst P (sym is) memory
by_settings P (Err told) e is memory other = subst P (sym is) (other (λ same. cc))

pub by_blocks : {X : Type 0} (P : RunFault → Type 0) (r : Result X RunFault) (e : BlocksFault)
    → IsErrAnd r (λ told. told ≡ blocks_refusal e) → P faults.Memory → (e ≢ blocks_fault.Memory → P (faults.Blocks e))
    → IfErr r P
by_blocks P (Ok x) e is memory other = tt
by_blocks P (Err told) blocks_fault.Memory is memory other = subst P (sym is) memory
by_blocks P (Err told) e is memory other = subst P (sym is) (other (λ same. cc))

pub by_schedule : {X : Type 0} (P : RunFault → Type 0) (r : Result X RunFault) (e : ScheduleFault)
    → IsErrAnd r (λ told. told ≡ schedule_refusal e) → P faults.Memory
    → (e ≢ schedule_fault.Memory → P (faults.Schedule e)) → IfErr r P
by_schedule P (Ok x) e is memory other = tt
by_schedule P (Err told) schedule_fault.Memory is memory other = subst P (sym is) memory
by_schedule P (Err told) e is memory other = subst P (sym is) (other (λ same. cc))

-- what is true of a fault of a transport block
pub by_desk : (P : RunFault → Type 0) (e : RunFault) → (e ≢ faults.Memory → IsBlockFault e) → P faults.Memory
    → ((n : ℕ) (f : DeskFault) → P (faults.Desk n f)) → P e
by_desk P faults.Memory of_block memory desk = memory
by_desk P (faults.Desk n f) of_block memory desk = desk n f
by_desk P e of_block memory desk = absurd (of_block (λ is. cc))

-- what is true of a fault of a call that writes
pub by_written : {X : Type 0} (P : RunFault → Type 0) (r : Result X RunFault) (old new : Option (List ℕ)) (text : List ℕ)
    → Writes old new r text → P faults.Write → P faults.Memory → IfErr r P
by_written P (Ok x) old new text writes write memory = tt
by_written P (Err faults.Write) old new text writes write memory = write
by_written P (Err faults.Memory) old new text writes write memory = memory
by_written P (Err e) old new text writes write memory = absurd writes

-- ---- what a command gives for what it works from

-- a refusal of the files, and of a transport block
pub said-refused : (text : List SenderView → Timetable → List ℕ) (files : Files) (e : RunFault)
    → (e ≡ Memory) ⊎ (files_said files ≡ Err e) → (e ≡ Memory) ⊎ (said_over text files ≡ Err e)
unfolding said_over inputs_said
said-refused text files e (inl is) = inl is
said-refused text files e (inr is) = inr (rw is refl)

pub said-unsent : (text : List SenderView → Timetable → List ℕ) (files : Files) (given : Given) (e : RunFault)
    → files_said files ≡ Ok given → (e ≡ Memory) ⊎ (senders_from given.table given.settings 1 given.blocks ≡ Err e)
    → (e ≡ Memory) ⊎ (said_over text files ≡ Err e)
unfolding said_over inputs_said
said-unsent text files given e first (inl is) = inl is
said-unsent text files given e first (inr is) = inr (rw (first, is) refl)

-- the text
pub said-ready : (text : List SenderView → Timetable → List ℕ) (files : Files) (given : Given) (senders : List SenderView)
    → files_said files ≡ Ok given → senders_from given.table given.settings 1 given.blocks ≡ Ok senders
    → said_over text files ≡ Ok (text senders given.schedule)
unfolding said_over inputs_said
said-ready text files given senders first is = rw (first, is) refl

-- no file failed if a transport block is refused
pub unread-block : (X : Type 0) (e told : RunFault) (old new : ℕ) → (e ≢ Memory → IsBlockFault e) → told ≢ Memory
    → (IsBlockFault told → ⊥) → new ≡ old → FailsAs {X = X} told (Err e) old new
unread-block X e told old new of_block memory other same = inr (of_block_or_memory e told of_block memory other, same)
