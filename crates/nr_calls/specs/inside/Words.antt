-- Definitions that only the proofs need.
use Rattle.std.specs.Prelude.{ℕ, ◌<◌, slice_index_or, nat_le, if◌then◌else◌, ◌≡◌, ◌⊎◌, ◌*◌, ◌==◌}
use Rattle.std.specs.Prelude.{◌&&◌, Bool, true, List}
use Rattle.std.specs.Prelude.{length, map, flat_map, ◌++◌, Option, Some, None, Result, Ok, Err, [], ◌∷◌}
use Rattle.std.specs.{Int.bit_at, List.range_with_len}
use Rattle.nr_segment.specs.CodeBlock.{numbers}
use Rattle.nr_graphpick.specs.declared.Graph.{Graph}
use Rattle.nr_graphpick.specs.declared.Graph.TheVariants.{One, Two}
use Rattle.nr_blockdesk.specs.Outcome.{IsDecided, Verdict, contradiction, delivered, open_still, outcome_of}
use Rattle.nr_blockdesk.specs.Receiving.{AreStoresFor, verdict}
use Rattle.nr_segment.specs.declared.numbers.Plan.{Plan}
use Rattle.nr_refusal.specs.Refusal.{◌>>=◌, with_fault}
use Rattle.nr_blockdesk.specs.Explains.{Reception, reception, reception_said}
use Rattle.nr_blockdesk.specs.Link.{IsLink, Link}
use Rattle.nr_calls.specs.Codeword.{Codeword}
use Rattle.nr_calls.specs.declared.coded_block.CodedBlock.{CodedBlock}
use Rattle.nr_calls.specs.Encoding.{Encoded}
use Rattle.nr_harqbuf.specs.Record.{HeardBits}
use Rattle.nr_blockdesk.specs.Heard.{IsRecordOf}
use Rattle.nr_calls.specs.Findings.{Findings, lefts}
use Rattle.nr_calls.specs.Keeping.{Arriving, after_taking}
use Rattle.nr_calls.specs.Receiving.{heard_octet}
use Rattle.nr_calls.specs.Rooms.{room_of}
use Rattle.nr_transmission.specs.declared.tx.Tx.{Tx}
use Rattle.nr_calls.specs.declared.taken.KeptRoom.{KeptRoom}
use Rattle.nr_calls.specs.declared.taken.Taken.{Taken}
use Rattle.nr_calls.specs.declared.findings.Found.{Found}
use Rattle.nr_calls.specs.declared.findings.Room.{Room}
use Rattle.nr_bitvec.specs.BitList.{BitList}
use Rattle.nr_calls.specs.Many.{ManyFindings, nth_row}
use Rattle.nr_calls.specs.Plan.{Planned}
use Rattle.nr_calls.specs.declared.many.ManyFound.{ManyFound}
use Rattle.nr_calls.specs.declared.fault.Fault.{Fault}
use Rattle.nr_calls.specs.declared.fault.Fault.TheVariants as fault

-- what a call has encoded, as a codeword with the numbers of its plan
abbrev pub coded_of : CodedBlock → Codeword
coded_of c = record { plan = numbers c.plan; word = c.word }

-- what a call has encoded, with its base graph and Zc
abbrev pub encoded_of : CodedBlock → Encoded
encoded_of c = record { graph = c.plan.graph; z = c.plan.z; word = c.word }

-- Kb such that a code block of Kb z bits has the lifting size z (5.2.2), if any code block has it
abbrev pub held_columns : Graph → ℕ → ℕ
held_columns One z = 22
held_columns Two z = if nat_le z 32 then 6 else (if nat_le z 64 then 8 else 10)

-- what a call has found, as findings
abbrev pub findings_of : Found → Findings
findings_of f = record { outcomes = f.outcomes.items; left = f.left.items; last = verdict f.last }

-- a block that is delivered fills so many octets
abbrev pub block_fits : ℕ → Verdict → Bool
block_fits octets (delivered block) = length block == 8 * octets
block_fits octets open_still = true
block_fits octets contradiction = true

-- a block that is delivered has a bits
abbrev pub IsLastBlock : ℕ → Verdict → Type 0
IsLastBlock a v = (block : List Bool) → v ≡ delivered block → length block ≡ a

-- what is found fills the room
abbrev pub has_room : Room → Findings → Bool
has_room room f = (length f.outcomes == room.outcomes) && (length f.left == room.left) && block_fits room.block f.last

-- the bits of lists of bits, one list after the other
abbrev pub joined : List BitList → List Bool
joined lists = flat_map (λ (b : BitList). b.items) lists

-- what rows of outcomes, rows of what is left and the last outcomes say is found of block k
abbrev pub row_found : Room → List ℕ → List ℕ → List Verdict → ℕ → Findings
row_found each outcomes left lasts k = record {
  outcomes = nth_row each.outcomes k outcomes;
  left = nth_row each.left k left;
  last = slice_index_or lasts k open_still;
}

-- what they say of each block
abbrev pub rows_found : Room → List ℕ → List ℕ → List Verdict → List Findings
rows_found each outcomes left lasts = map (row_found each outcomes left lasts) (range_with_len 0 (length lasts))

-- what a call has found of each block
abbrev pub found_of_each : ManyFound → List Findings
found_of_each m = rows_found m.each m.outcomes.items m.left.items (map verdict m.last.items)

-- and how much room each has
abbrev pub many_findings_of : ManyFound → ManyFindings
many_findings_of m = record { each = m.each; found = found_of_each m }

-- nothing is found of any block yet
pub record HasNone (m : ManyFound) : Type 0 where
  pub outcomes : m.outcomes.items ≡ []
  pub left : m.left.items ≡ []
  pub last : m.last.items ≡ []

-- what is said to be found of one block more is added, and fills its room
pub record IsAdded (said : Result Findings Fault) (each : Room) (old new : ManyFound) : Type 0 where
  pub found : Findings
  pub is : said ≡ Ok found
  pub fills : has_room each found ≡ true
  pub outcomes : new.outcomes.items ≡ old.outcomes.items ++ found.outcomes
  pub left : new.left.items ≡ old.left.items ++ found.left
  pub last : map verdict new.last.items ≡ map verdict old.last.items ++ found.last ∷ []

-- what is found of all blocks fills the caller's room, and each block that is delivered its own
pub record FillEach (all : Room) (m : ManyFound) : Type 0 where
  pub outcomes : all.outcomes ≡ length m.outcomes.items
  pub left : all.left ≡ length m.left.items
  pub block : all.block ≡ length m.last.items * m.each.block
  pub filled : (k : ℕ) (d : Verdict) → k < length m.last.items
      → block_fits m.each.block (slice_index_or (map verdict m.last.items) k d) ≡ true

-- the base graph and the numbers of a plan
abbrev pub planned_of : Plan → Planned
planned_of p = record { graph = p.graph; plan = numbers p }

-- the outcome of a list of receptions and one more, or its fault
abbrev pub one_more_said : Link → List Reception → Reception → Result Verdict Fault
one_more_said link list x = with_fault fault.Desk (reception_said link x) >>= λ _. Ok (outcome_of link (list ++ x ∷ []))

-- what was taken up fills its places
abbrev pub taken_room : KeptRoom → Taken → Bool
taken_room k t = (length t.room.items == k.room) && ((length t.left.items == k.left) && block_fits k.block (verdict t.last))

-- a receiver that was read from its room, and a reception that it takes
abbrev pub arriving : Link → ℕ → List HeardBits → Tx → List ℕ → Arriving
arriving link digest records tx octets =
    record { link = link; digest = digest; records = records; reception = reception tx (map heard_octet octets) }

-- what a call has taken up
pub record IsTaken (x : Arriving) (t : Taken) : Type 0 where
  pub sound : IsLink x.link
  pub fit : AreStoresFor x.link (after_taking x)
  pub room : t.room.items ≡ room_of x.digest x.link (after_taking x)
  pub left : t.left.items ≡ lefts x.link (after_taking x)
  pub decided : IsDecided x.link (after_taking x) (verdict t.last)
  pub settled : (list : List Reception) → IsRecordOf x.link list x.records
      → verdict t.last ≡ outcome_of x.link (list ++ x.reception ∷ [])

-- what it has taken up, or why it is refused
abbrev pub TakesSaid : Result Taken Fault → Result Arriving Fault → Type 0
TakesSaid (Ok t) said = (x : Arriving) × (said ≡ Ok x) × IsTaken x t
TakesSaid (Err e) said = (e ≡ fault.Memory) ⊎ (said ≡ Err e)

-- the first bit of position k of 64, by a word of marks and one of bits
abbrev pub first_of : ℕ → ℕ → ℕ → Option Bool
first_of marks bits k = if bit_at marks k == 1 then Some (bit_at bits k == 1) else None
