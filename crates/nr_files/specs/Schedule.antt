-- The schedule file of comma-separated records. The first record is a header, and each other one a transmission.
use Rattle.std.specs.Prelude.{◌≡◌, ℕ, ◌+◌, ◌-◌, ◌<◌, ◌≤◌, ◌==◌, ◌&&◌, Bool, true, false, not}
use Rattle.std.specs.Prelude.{nat_lt, nat_le, if◌then◌else◌, List, [], ◌∷◌, ◌++◌, length, take, slice_index_or}
use Rattle.std.specs.Prelude.{codes, bytes_eq, All, Option, Some, None, option_and_then, Result, Ok, Err}
use Rattle.nr_refusal.specs.Refusal.{◌>>=◌, or_fault}
use Rattle.nr_streams.specs.{Fields.short_number, Records.Record, Records.records_of}
use Rattle.nr_files.specs.{Columns.field, Columns.has_column, Columns.is_schedule_header, Masks.mask_of}
use Rattle.nr_files.specs.{PlaceLists.below, PlaceLists.erasure_of, PlaceLists.places_of, declared.erasure.Erasure.Erasure}
use Rattle.nr_files.specs.{Rounds.IsOfBlock, Rounds.fresh_block, Rounds.round_of, declared.erasure.Places.Places}
use Rattle.nr_files.specs.declared.erasure.Places.TheVariants.{Nothing}
use Rattle.nr_ratematch.specs.declared.mask.Mask.{Mask}
use Rattle.nr_ratematch.specs.declared.mask.Mask.TheVariants as mask
use Rattle.nr_files.specs.declared.schedule.{Schedule.Schedule, record.Harq.Harq, record.Numbers.Numbers, record.OverLink.OverLink}
use Rattle.nr_files.specs.declared.schedule.ScheduleFault.{ScheduleFault}
use Rattle.nr_files.specs.declared.schedule.ScheduleFault.TheVariants as fault
use Rattle.nr_files.specs.declared.schedule.Transmission.{Transmission}

-- what a field says, or a given value if there is no such column
abbrev pub said_or : {X : Type 0} → X → (List ℕ → Result X ScheduleFault) → Option (List ℕ) → Result X ScheduleFault
said_or without read None = Ok without
said_or without read (Some text) = read text

-- a number of 32 bits, in at most ten digits
abbrev pub number_in_field : ℕ → Record → List ℕ → Result ℕ ScheduleFault
number_in_field k r name =
    or_fault (fault.Number k) (option_and_then (λ text. below 4294967296 (short_number text)) (field r name))

-- the number of one of the blocks, from 1
abbrev pub block_in : ℕ → ℕ → ℕ → Result ℕ ScheduleFault
block_in k blocks block = if nat_le 1 block && nat_le block blocks then Ok block else Err (fault.Block k)

-- the erasure that a record says
abbrev pub erasure_at : ℕ → Record → Result Erasure ScheduleFault
erasure_at k r = or_fault (fault.Erase k) (option_and_then erasure_of (field r (codes "erase")))

-- the flipped places that a record names; none if there is no such column
abbrev pub flip_at : ℕ → Record → Result Places ScheduleFault
flip_at k r = said_or Nothing (λ text. or_fault (fault.Flip k) (places_of text)) (field r (codes "flip"))

-- the code blocks that a record schedules; all if there is no such column
abbrev pub mask_at : ℕ → Record → Result Mask ScheduleFault
mask_at k r = said_or mask.All (λ text. or_fault (fault.Mask k) (mask_of text)) (field r (codes "mask"))

-- the HARQ process that a record names, 0 to 15; if there is no such column block n has process n - 1
abbrev pub process_at : ℕ → Record → ℕ → Result ℕ ScheduleFault
process_at k r block =
    said_or (block - 1) (λ text. or_fault (fault.Process k) (below 16 (short_number text))) (field r (codes "process"))

-- a transmission of this block began the round
abbrev pub is_of_block : ℕ → Option ℕ → Bool
is_of_block block (Some begun) = begun == block
is_of_block block None = false

-- Whether a field says that a transmission is fresh, by the block of the round that its process is in. One that is not
-- goes on with that round, and so with its block.
abbrev pub fresh_of : ℕ → ℕ → Option ℕ → List ℕ → Result Bool ScheduleFault
fresh_of k block begun text =
    if bytes_eq text (codes "1") then Ok true
    else if bytes_eq text (codes "0") && is_of_block block begun then Ok false
    else Err (fault.Fresh k)

-- whether a record says that it is fresh; no record does if there is no such column
abbrev pub fresh_at : ℕ → Record → ℕ → Option ℕ → Result Bool ScheduleFault
fresh_at k r block begun = said_or false (fresh_of k block begun) (field r (codes "fresh"))

-- the five numbers of a record
unfoldable pub numbers_at : ℕ → Record → Result Numbers ScheduleFault
numbers_at k r = do
  block ← number_in_field k r (codes "block")
  rv ← number_in_field k r (codes "rv")
  g ← number_in_field k r (codes "g")
  qm ← number_in_field k r (codes "qm")
  nl ← number_in_field k r (codes "nl")
  Ok (record { block = block; rv = rv; g = g; qm = qm; nl = nl })

-- what the link does to the bits that a record sends
unfoldable pub link_at : ℕ → Record → Result OverLink ScheduleFault
link_at k r = do
  erasure ← erasure_at k r
  flip ← flip_at k r
  Ok (record { erasure = erasure; flip = flip })

-- the HARQ process of a record, and whether it is fresh, after these transmissions
unfoldable pub harq_at : ℕ → Record → ℕ → List Transmission → Result Harq ScheduleFault
harq_at k r block before = do
  process ← process_at k r block
  fresh ← fresh_at k r block (fresh_block (round_of process before))
  Ok (record { process = process; fresh = fresh })

-- what record k, counted from 1, says in a schedule of this width for so many blocks, after these transmissions
unfoldable pub transmission_of : ℕ → ℕ → ℕ → List Transmission → Record → Result Transmission ScheduleFault
transmission_of blocks width k before r =
    if not (length r == width) then Err (fault.Csv k)
    else if nat_lt 4097 k then Err fault.TooMany
    else do
      numbers ← numbers_at k r
      block ← block_in k blocks numbers.block
      link ← link_at k r
      mask ← mask_at k r
      harq ← harq_at k r block before
      Ok (record {
        number = k - 1;
        block = block;
        tx = record { rv = numbers.rv; g = numbers.g; qm = numbers.qm; nl = numbers.nl; mask = mask };
        erasure = link.erasure;
        flip = link.flip;
        process = harq.process;
        fresh = harq.fresh;
      })

-- the transmissions of the records from record k on, after those before them, or the first fault
unfoldable pub transmissions_from : ℕ → ℕ → ℕ → List Transmission → List Record
    → Result (List Transmission) ScheduleFault
transmissions_from blocks width k before [] = Ok []
transmissions_from blocks width k before (r ∷ rs) = do
  transmission ← transmission_of blocks width k before r
  more ← transmissions_from blocks width (k + 1) (before ++ transmission ∷ []) rs
  Ok (transmission ∷ more)

-- what a schedule says: whether it names HARQ processes, and its transmissions
pub record Timetable : Type 0 where
  pub by_process : Bool
  pub transmissions : List Transmission

-- what a schedule that was read says
abbrev pub timetable_by : Schedule → Timetable
timetable_by schedule = record { by_process = schedule.by_process; transmissions = schedule.transmissions.items }

-- the transmissions of a schedule, and whether it names HARQ processes
abbrev pub timetable_of : Bool → Result (List Transmission) ScheduleFault → Result Timetable ScheduleFault
timetable_of by_process said = do
  transmissions ← said
  Ok (record { by_process = by_process; transmissions = transmissions })

-- what a schedule's records say, or the first fault
unfoldable pub schedule_of : ℕ → List Record → Result Timetable ScheduleFault
schedule_of blocks [] = Err fault.Header
schedule_of blocks (r ∷ rs) =
    if is_schedule_header r then timetable_of (has_column r (codes "process")) (transmissions_from blocks (length r) 2 [] rs)
    else Err fault.Header

-- what a schedule file says for so many blocks, or the first fault
unfoldable pub schedule_said : ℕ → List ℕ → Result Timetable ScheduleFault
schedule_said blocks text =
    if nat_lt 16777216 (length text) then Err fault.TooLong else schedule_of blocks (records_of text)

-- the transmission's block is one of so many
abbrev pub HasBlock : ℕ → Transmission → Type 0
HasBlock blocks transmission = (1 ≤ transmission.block) × (transmission.block ≤ blocks)

-- a transmission has one of sixteen processes; if the schedule names none, it has its block's own and is not fresh
abbrev pub IsPlaced : Bool → Transmission → Type 0
IsPlaced true x = x.process < 16
IsPlaced false x = IsOfBlock x

-- a transmission that is not fresh goes on with a round that a fresh one of its block began
abbrev pub GoesOn : List Transmission → Transmission → Type 0
GoesOn before x = x.fresh ≡ false → fresh_block (round_of x.process before) ≡ Some x.block

-- this is true of each of these transmissions
abbrev pub EachGoesOn : List Transmission → Type 0
EachGoesOn xs = (i : ℕ) (x : Transmission) → i < length xs → x ≡ slice_index_or xs i x → GoesOn (take i xs) x

-- what is true of a schedule that was read for so many blocks
pub record IsTimetable (blocks : ℕ) (s : Timetable) : Type 0 where
  pub few : length s.transmissions ≤ 4096
  pub named : All (HasBlock blocks) s.transmissions
  pub placed : All (IsPlaced s.by_process) s.transmissions
  pub rounds : s.by_process ≡ true → EachGoesOn s.transmissions
