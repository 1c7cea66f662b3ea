-- The records of a schedule, one by one, and what is true of its transmissions.
use Rattle.nr_files.proofs.Common.{◌≡◌, ◌≢◌, ℕ, ◌+◌, ◌<◌, inl, inr, Bool, Option, None, Some, Result, Ok, Err}
use Rattle.nr_files.proofs.Common.{List, [], ◌∷◌, ◌++◌, length, sym, arith, zero, suc, ◌-◌, ◌≤◌, true, false}
use Rattle.nr_files.proofs.Common.{cond, IfOk, All, map, take, get_or, ap, refl, ◌∙◌, append_assoc, nat_lt, nat_tests}
use Rattle.nr_files.proofs.Common.{append-nil, Record, records_of, Timetable, schedule_of, schedule_said}
use Rattle.nr_files.proofs.Common.{transmissions_from, ScheduleFault, Transmission, ◌==◌, ◌&&◌, range_with_len, option_map}
use Rattle.nr_files.proofs.Common.{◌>>=◌, or_fault, field_at, text_of_field, fresh_block, round_of}
use Rattle.nr_files.specs.Schedule.{harq_at, link_at, numbers_at, said_or, transmission_of, GoesOn, HasBlock, IsPlaced, block_in}
use Rattle.nr_files.specs.Schedule.{fresh_at, fresh_of, is_of_block, mask_at, process_at}
use Rattle.nr_files.proofs.RefusalFacts.{never_if, never_or, never_then, with_front, with_front-more, holds_if, holds_then}
use Rattle.nr_files.{proofs.RefusalFacts.holds_with, specs.PlaceLists.below, specs.Columns.field, specs.Columns.is_schedule_header}
use Rattle.nr_files.specs.declared.schedule.record.Harq.{Harq}
use Rattle.std.{proofs.Common.◌⊎◌, specs.Prelude.codes, specs.Prelude.not, specs.Option.is_some}
use Rattle.std.proofs.lemmas.List.Elements.{All-nil, All-cons}
use Rattle.nr_streams.specs.Fields.{short_number}
use Rattle.nr_files.specs.declared.schedule.ScheduleFault.TheVariants as fault

-- a turn of the loop over the records after the header, after the transmissions of those before record k
module _ (blocks width k : ℕ) (front : List Transmission) (records : List Record)
    (all : Result (List Transmission) ScheduleFault)
    (so_far : with_front front (transmissions_from blocks width k front records) ≡ all) where
  pub turn-ok : (rest : List Record) (r : Record) (t : Transmission) → records ≡ r ∷ rest
      → transmission_of blocks width k front r ≡ Ok t
      → with_front (front ++ t ∷ []) (transmissions_from blocks width (k + 1) (front ++ t ∷ []) rest) ≡ all
  unfolding transmissions_from
  turn-ok rest r t some is = rw (some, is, with_front-more front (t ∷ [])) at so_far

  -- the first fault of record k is the schedule's, unless memory ran out
  pub turn-refused : (rest : List Record) (r : Record) (e : ScheduleFault) → records ≡ r ∷ rest
      → (e ≡ fault.Memory) ⊎ (transmission_of blocks width k front r ≡ Err e) → (e ≡ fault.Memory) ⊎ (all ≡ Err e)
  unfolding transmissions_from
  turn-refused rest r e some (inl memory) = inl memory
  turn-refused rest r e some (inr is) = inr (sym (rw (some, is) at so_far))

  pub turn-end : records ≡ [] → all ≡ Ok front
  unfolding transmissions_from
  turn-end none = sym (rw (none, append-nil) at so_far)

-- a fault behind a header is the schedule's
pub headed-refused : (blocks : ℕ) (records rest : List Record) (r : Record) (e : ScheduleFault) → records ≡ r ∷ rest
    → is_schedule_header r ≡ true → (e ≡ fault.Memory) ⊎ (transmissions_from blocks (length r) 2 [] rest ≡ Err e)
    → (e ≡ fault.Memory) ⊎ (schedule_of blocks records ≡ Err e)
unfolding schedule_of
headed-refused blocks records rest r e some is (inl memory) = inl memory
headed-refused blocks records rest r e some is (inr said) = inr (rw (some, is, said) refl)

-- what a field says, or the value if there is no such column, is never this fault
never_said : {X : Type 0} (told : ScheduleFault) (without : X) (read : List ℕ → Result X ScheduleFault) (o : Option (List ℕ))
    → ((text : List ℕ) → read text ≢ Err told) → said_or without read o ≢ Err told
never_said told without read None never = λ is. cc
never_said told without read (Some text) never = never text

-- the text of a schedule is never unread
numbers_at-unread : (k : ℕ) (r : Record) → numbers_at k r ≢ Err fault.Read
unfolding numbers_at
numbers_at-unread k r = grind (arith, never_then, never_or)

link_at-unread : (k : ℕ) (r : Record) → link_at k r ≢ Err fault.Read
unfolding link_at
link_at-unread k r = grind (arith, never_then, never_or, never_said)

harq_at-unread : (k block : ℕ) (before : List Transmission) (r : Record) → harq_at k r block before ≢ Err fault.Read
unfolding harq_at
harq_at-unread k block before r = grind (arith, never_then, never_said, never_or, never_if)

transmission_of-unread : (blocks width k : ℕ) (before : List Transmission) (r : Record)
    → transmission_of blocks width k before r ≢ Err fault.Read
unfolding transmission_of
transmission_of-unread blocks width k before r =
    grind (arith, nat_tests, never_if, never_then, numbers_at-unread, link_at-unread, never_said, never_or, harq_at-unread)

transmissions_from-unread : (blocks width k : ℕ) (before : List Transmission) (rs : List Record)
    → transmissions_from blocks width k before rs ≢ Err fault.Read
unfolding transmissions_from
transmissions_from-unread blocks width k before [] = λ is. cc
transmissions_from-unread blocks width k before (r ∷ rs) = grind (
  arith,
  never_then,
  transmission_of-unread,
  λ (k : ℕ) (before : List Transmission). transmissions_from-unread blocks width k before rs,
)

pub schedule_said-unread : (blocks : ℕ) (text : List ℕ) → schedule_said blocks text ≢ Err fault.Read
unfolding schedule_said schedule_of
schedule_said-unread blocks text = grind (arith, nat_tests, never_if, never_then, transmissions_from-unread)

-- a file that is too long
pub schedule_said-too_long : (blocks : ℕ) (text : List ℕ) → 16777216 < length text
    → schedule_said blocks text ≡ Err fault.TooLong
unfolding schedule_said
schedule_said-too_long blocks text long = grind (arith, nat_tests)

-- ---- what is true of the transmissions

-- a record has a column if it is that long
column_is : (r : Record) (i : ℕ) → is_some (option_map text_of_field (field_at r i)) ≡ nat_lt i (length r)
unfolding field_at
column_is [] i = grind (arith, nat_tests)
column_is (f ∷ r) zero = grind (arith, nat_tests)
column_is (f ∷ r) (suc i) = grind (arith, nat_tests, column_is r i)

header-columns : (r : Record) → is_schedule_header r ≡ true → nat_lt 9 (length r) ≡ nat_lt 8 (length r)
unfolding is_schedule_header
header-columns r header = grind (arith, nat_tests)

-- ---- the process of a record, and whether it is fresh

-- a number that is below a limit
below-inside : (limit : ℕ) (e : ScheduleFault) (o : Option ℕ) (n : ℕ) → or_fault e (below limit o) ≡ Ok n → n < limit
below-inside limit e None n is = absurd (cc)
below-inside limit e (Some m) n is = grind (arith, nat_tests)

-- what a record says of being fresh depends on the round of its process alone if that is one of the sixteen
fresh-begun : (k block process : ℕ) (begun round : Option ℕ) (p f : Option (List ℕ))
    → (is_some p ≡ false → is_some f ≡ false)
    → said_or (block - 1) (λ text. or_fault (fault.Process k) (below 16 (short_number text))) p ≡ Ok process
    → (process < 16 → begun ≡ round)
    → said_or false (fresh_of k block begun) f ≡ said_or false (fresh_of k block round) f
fresh-begun k block process begun round p None none is same = refl
fresh-begun k block process begun round (Some p) (Some f) none is same =
    ap (λ b. fresh_of k block b f) (same (below-inside 16 (fault.Process k) (short_number p) process is))
fresh-begun k block process begun round None (Some f) none is same = absurd (cc (none refl))

-- the two steps, if the block of the round is known of the sixteen processes
pub harq_at-said : (k block process : ℕ) (r : Record) (before : List Transmission) (begun : Option ℕ)
    (said : Result Bool ScheduleFault) → Ok process ≡ process_at k r block
    → (process < 16 → begun ≡ fresh_block (round_of process before)) → said ≡ fresh_at k r block begun
    → harq_at k r block before ≡ (said >>= λ fresh. Ok (record { process = process; fresh = fresh }))
unfolding harq_at
harq_at-said k block process r before begun said is same fresh_is = grind (arith, nat_tests, fresh-begun, column_is)

-- a field that says that a transmission is not fresh
stale-of : (k block : ℕ) (begun : Option ℕ) (one nought : Bool)
    → cond one (Ok true) (cond (nought && is_of_block block begun) (Ok false) (Err (fault.Fresh k))) ≡ Ok false
    → begun ≡ Some block
stale-of k block None one nought is = grind arith
stale-of k block (Some n) one nought is = grind (arith, nat_tests)

harq_at-steps : (k block : ℕ) (r : Record) (before : List Transmission)
    → IfOk (harq_at k r block before)
    (λ (h : Harq). (process_at k r block ≡ Ok h.process)
    × (fresh_at k r block (fresh_block (round_of h.process before)) ≡ Ok h.fresh))
unfolding harq_at
harq_at-steps k block r before = grind (arith, holds_then)

-- ---- all that a record says, and all records

block_in-inside : (k blocks n m : ℕ) → block_in k blocks n ≡ Ok m → (1 ≤ m) × (m ≤ blocks)
block_in-inside k blocks n m is = (grind (arith, nat_tests), grind (arith, nat_tests))

-- every later transmission continues a round begun earlier
abbrev EachBehind : List Transmission → List Transmission → Type 0
EachBehind before ts = (i : ℕ) (x : Transmission) → i < length ts → x ≡ get_or ts i x → GoesOn (before ++ take i ts) x

each-more : (before : List Transmission) (t : Transmission) (more : List Transmission) → GoesOn before t
    → EachBehind (before ++ t ∷ []) more → EachBehind before (t ∷ more)
each-more before t more first others zero x within is = rw (append-nil, is) first
each-more before t more first others (suc i) x within is = rw append_assoc at (others i x (omega (arith, within)) is)

-- what is true of the transmission of record k, whether the columns name processes or not
record IsSaid (blocks : ℕ) (named : Bool) (k : ℕ) (before : List Transmission) (x : Transmission) : Type 0 where
  pub block : HasBlock blocks x
  pub number : x.number ≡ k - 1
  pub few : k ≤ 4097
  pub placed : IsPlaced named x
  pub goes_on : named ≡ true → GoesOn before x

-- its record has both fields of processes, or neither
said-by : (blocks k : ℕ) (before : List Transmission) (x : Transmission) (p f : Option (List ℕ)) → is_some f ≡ is_some p
    → HasBlock blocks x → x.number ≡ k - 1 → k ≤ 4097
    → said_or (x.block - 1) (λ text. or_fault (fault.Process k) (below 16 (short_number text))) p ≡ Ok x.process
    → said_or false (fresh_of k x.block (fresh_block (round_of x.process before))) f ≡ Ok x.fresh
    → IsSaid blocks (is_some p) k before x
said-by blocks k before x (Some p) (Some f) both block number few process_is fresh_is = grind (arith, below-inside, stale-of)
said-by blocks k before x None None both block number few process_is fresh_is =
    let process : x.block - 1 ≡ x.process = cc in
    record {
      block = block;
      number = number;
      few = few;
      placed = record { process = omega (arith, process, block.0); stale = cc };
      goes_on = λ named. absurd (cc);
    }
said-by blocks k before x (Some p) None both block number few process_is fresh_is = absurd (cc)
said-by blocks k before x None (Some f) both block number few process_is fresh_is = absurd (cc)

-- what is true of the transmissions of the records from record k on
pub record AreSaid (blocks : ℕ) (named : Bool) (k : ℕ) (before ts : List Transmission) : Type 0 where
  pub blocks_are : All (HasBlock blocks) ts
  pub numbers : map (λ t. t.number) ts ≡ range_with_len (k - 1) (length ts)
  pub few : k + length ts ≤ 4098
  pub placed : All (IsPlaced named) ts
  pub goes_on : named ≡ true → EachBehind before ts

module _ (blocks width : ℕ) (named : Bool) (eight : nat_lt 8 width ≡ named) (nine : nat_lt 9 width ≡ named) where
  transmission_of-said : (k : ℕ) (before : List Transmission) (r : Record)
      → IfOk (transmission_of blocks width k before r) (IsSaid blocks named k before)
  unfolding transmission_of
  transmission_of-said k before r =
      holds_if _ (not (length r == width)) _ _ (λ other. tt) (λ same.
      holds_if _ (nat_lt 4097 k) _ _ (λ many. tt) (λ last.
      let few : k ≤ 4097 = grind (arith, nat_tests) in
      let process : is_some (field r (codes "process")) ≡ named = grind (arith, nat_tests, column_is) in
      let fresh : is_some (field r (codes "fresh")) ≡ is_some (field r (codes "process")) = grind (arith, nat_tests, column_is) in
      holds_then _ (numbers_at k r) _ (λ numbers numbers_is.
      holds_then _ (block_in k blocks numbers.block) _ (λ block block_is.
      holds_then _ (link_at k r) _ (λ link link_is.
      holds_then _ (mask_at k r) _ (λ mask mask_is.
      holds_with _ _ (harq_at k r block before) _ (harq_at-steps k block r before) (λ harq steps.
      rw (sym process) (said-by blocks k before _ (field r (codes "process")) (field r (codes "fresh")) fresh
      (block_in-inside k blocks numbers.block block block_is) refl few steps.0 steps.1))))))))

  transmissions_from-said : (k : ℕ) (before : List Transmission) (rs : List Record) → 1 ≤ k → k ≤ 4098
      → IfOk (transmissions_from blocks width k before rs) (AreSaid blocks named k before)
  unfolding transmissions_from
  transmissions_from-said k before [] some few = record {
    blocks_are = All-nil (HasBlock blocks);
    numbers = refl;
    few = omega arith;
    placed = All-nil (IsPlaced named);
    goes_on = λ is i x within here. absurd (omega (arith, within));
  }
  transmissions_from-said k before (r ∷ rs) some few =
      holds_with _ _ (transmission_of blocks width k before r) _ (transmission_of-said k before r) (λ t first.
      holds_with _ _ (transmissions_from blocks width (k + 1) (before ++ t ∷ []) rs) _
      (transmissions_from-said (k + 1) (before ++ t ∷ []) rs (omega arith) (omega (arith, first.few))) (λ more others.
      let next : k + 1 - 1 ≡ k - 1 + 1 = omega arith in
      record {
        blocks_are = All-cons (HasBlock blocks) t more first.block others.blocks_are;
        numbers = rw (first.number, others.numbers, next) refl;
        few = omega (arith, others.few);
        placed = All-cons (IsPlaced named) t more first.placed others.placed;
        goes_on = λ is. each-more before t more (first.goes_on is) (others.goes_on is);
      }))

pub schedule_said-holds : (blocks : ℕ) (text : List ℕ)
    → IfOk (schedule_said blocks text) (λ (said : Timetable). AreSaid blocks said.by_process 2 [] said.transmissions)
unfolding schedule_said schedule_of
schedule_said-holds blocks text = holds_if _ (nat_lt 16777216 (length text)) _ _ (λ long. tt) (λ short. all (records_of text))
  where
    all : (rs : List Record)
        → IfOk (schedule_of blocks rs) (λ (said : Timetable). AreSaid blocks said.by_process 2 [] said.transmissions)
    all [] = tt
    all (r ∷ rs) =
        holds_if _ (is_schedule_header r) _ _ (λ header.
        holds_with _ _ (transmissions_from blocks (length r) 2 [] rs) _
        (transmissions_from-said blocks (length r) _ (sym (column_is r 8)) (header-columns r header ∙ sym (column_is r 8)) 2 [] rs
        (omega arith) (omega arith)) (λ ts are. are)) (λ other. tt)
