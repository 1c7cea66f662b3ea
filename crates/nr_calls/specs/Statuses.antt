-- The status that a refused call returns, one number for each fault. 0 is no fault, and 1 is out of memory.
use Rattle.std.specs.Prelude.{◌≡◌, ◌⊎◌, ℕ, Result, Ok, Err}
use Rattle.nr_transmission.specs.declared.fault.DeskFault.{DeskFault}
use Rattle.nr_transmission.specs.declared.fault.DeskFault.TheVariants as desk
use Rattle.nr_graphpick.specs.declared.PickFault.{PickFault}
use Rattle.nr_graphpick.specs.declared.PickFault.TheVariants as pick
use Rattle.nr_ratematch.specs.declared.fault.RmFault.{RmFault}
use Rattle.nr_ratematch.specs.declared.fault.RmFault.TheVariants as rate
use Rattle.nr_segment.specs.declared.numbers.SegFault.{SegFault}
use Rattle.nr_segment.specs.declared.numbers.SegFault.TheVariants as plan
use Rattle.nr_shifttable.specs.declared.fault.TableFault.{TableFault}
use Rattle.nr_shifttable.specs.declared.fault.TableFault.TheVariants as table
use Rattle.nr_calls.specs.declared.fault.Fault.{Fault}
use Rattle.nr_calls.specs.declared.fault.Fault.TheVariants as fault

-- of a shift table
abbrev pub table_status : TableFault → ℕ
table_status table.Memory = 1
table_status table.Read = 20
table_status (table.Csv k) = 21
table_status table.Fields = 22
table_status (table.Number k) = 23
table_status (table.Range k) = 24
table_status (table.Twice k) = 25
table_status (table.Core graph) = 26
table_status (table.Extension graph) = 27
table_status (table.MissingRow graph) = 28
table_status table.Empty = 29
table_status table.TooLong = 30

-- of a block's size and code rate
abbrev pub block_status : PickFault → ℕ
block_status pick.RateRange = 41
block_status pick.SizeRange = 42

-- of a plan
abbrev pub plan_status : SegFault → ℕ
plan_status plan.Short = 43
plan_status plan.Long = 44
plan_status plan.Uneven = 45

-- of rate matching
abbrev pub rate_status : RmFault → ℕ
rate_status rate.NoBuffer = 47
rate_status rate.Order = 51
rate_status rate.Layers = 52
rate_status rate.Total = 53
rate_status rate.Ragged = 54
rate_status rate.NoneScheduled = 55

-- of a transport block, or of a transmission
abbrev pub desk_status : DeskFault → ℕ
desk_status desk.Memory = 1
desk_status desk.Size = 40
desk_status (desk.Pick e) = block_status e
desk_status (desk.Seg e) = plan_status e
desk_status desk.Graph = 46
desk_status desk.Rv = 50
desk_status (desk.Rm e) = rate_status e
desk_status desk.Length = 56

-- of any call
abbrev pub fault_number : Fault → ℕ
fault_number fault.Memory = 1
fault_number fault.Room = 2
fault_number fault.Many = 3
fault_number fault.Poly = 4
fault_number fault.Bit = 5
fault_number fault.Lifting = 6
fault_number fault.CodeBlock = 7
fault_number fault.State = 8
fault_number fault.Entries = 31
fault_number (fault.Table e) = table_status e
fault_number (fault.Desk e) = desk_status e

-- whether a call takes memory: never, only if nothing refuses it, or at any step
pub data Memory : Type 0 where
  no_memory : Memory
  memory_last : Memory
  memory_anywhere : Memory

-- A call ends like this, or memory runs out: then it returns 1, and its caller's places are unchanged.
abbrev pub OrOutOfMemory : {P : Type 0} → ℕ → P → P → Type 0 → Type 0
OrOutOfMemory status old new Ends = Ends ⊎ ((status ≡ 1) × (new ≡ old))

-- A call returns 0 and writes the result to its caller's places, or returns the number of the first fault. It can also
-- run out of memory, if it takes any. Unless it returns 0 the places are unchanged.
abbrev pub Returns : {P X : Type 0} → Memory → ℕ → P → P → (X → P → Type 0) → Result X Fault → Type 0
Returns no_memory status old new Written (Ok x) = (status ≡ 0) × Written x new
Returns memory_last status old new Written (Ok x) = OrOutOfMemory status old new ((status ≡ 0) × Written x new)
Returns memory_anywhere status old new Written (Ok x) = OrOutOfMemory status old new ((status ≡ 0) × Written x new)
Returns no_memory status old new Written (Err e) = (status ≡ fault_number e) × (new ≡ old)
Returns memory_last status old new Written (Err e) = (status ≡ fault_number e) × (new ≡ old)
Returns memory_anywhere status old new Written (Err e) =
    OrOutOfMemory status old new ((status ≡ fault_number e) × (new ≡ old))

-- a place has this value
abbrev pub HasValue : {X : Type 0} → X → X → Type 0
HasValue x new = new ≡ x
