-- What the calls on a receiver in its caller's room return.
use Rattle.std.specs.Prelude.{◌≡◌, ℕ, ◌/◌, ◌==◌, ◌&&◌, Bool, Result, Ok, List, [], ◌∷◌, ◌++◌, length}
use Rattle.std.specs.Prelude.{map}
use Rattle.nr_harqbuf.specs.Record.{HeardBits}
use Rattle.nr_refusal.specs.Refusal.{◌>>=◌, or_fault, with_fault}
use Rattle.nr_shifttable.specs.{Accepted.Entries, declared.entry.KeptEntry.KeptEntry}
use Rattle.nr_blockdesk.specs.{Explains.Reception, Explains.reception, Explains.reception_said, Receiving.AreStoresFor}
use Rattle.nr_blockdesk.specs.Heard.{IsRecordOf, heard_more, heard_record}
use Rattle.nr_blockdesk.specs.Link.{IsLink, Link, err_unless, link_said}
use Rattle.nr_blockdesk.specs.Outcome.{IsDecided, Verdict, outcome_of}
use Rattle.nr_transmission.specs.declared.{settings.Settings.Settings, tx.Tx.Tx}
use Rattle.nr_calls.specs.{Entries.table_by, Findings.IsHandedUp, Findings.lefts, Findings.outcome_number, Receiving.heard_octet}
use Rattle.nr_calls.specs.{Plan.Planned, Plan.planned_said, Rooms.digest_of, Rooms.records_in, Rooms.room_length, Rooms.room_of}
use Rattle.nr_calls.specs.declared.fault.Fault.{Fault}
use Rattle.nr_calls.specs.declared.fault.Fault.TheVariants as fault
use Rattle.nr_calls.specs.declared.taken.KeptRoom.{KeptRoom}

-- how many octets the room of a receiver of transport blocks of a bits has, or the first fault
abbrev pub room_said : ℕ → ℕ → Result ℕ Fault
room_said rate2048 a = planned_said rate2048 a >>= λ p. Ok (room_length p.graph p.plan)

-- the room of a receiver that has received nothing, for a room of so many octets, by a shift table, or the first fault
unfoldable pub start_by : Entries → ℕ → Settings → ℕ → ℕ → Result (List ℕ) Fault
start_by table digest settings a room = do
  p ← planned_said settings.rate2048 a
  fits ← err_unless fault.Room (room == room_length p.graph p.plan)
  link ← with_fault fault.Desk (link_said table settings a)
  Ok (room_of digest link (heard_record link []))

-- by a shift table's entries
unfoldable pub start_said : List KeptEntry → Settings → ℕ → ℕ → Result (List ℕ) Fault
start_said entries settings a room = table_by entries >>= λ table. start_by table (digest_of entries) settings a room

-- a caller's places: the receiver's room, the outcome, what is left of each code block, and the octets of a transport block
pub record KeptPlaces : Type 0 where
  pub room : List ℕ
  pub outcome : ℕ
  pub left : List ℕ
  pub block : List ℕ

abbrev pub kept_places : List ℕ → ℕ → List ℕ → List ℕ → KeptPlaces
kept_places room outcome left block = record { room = room; outcome = outcome; left = left; block = block }

-- how much room they have
abbrev pub kept_room : KeptPlaces → KeptRoom
kept_room k = record { room = length k.room; left = length k.left; block = length k.block }

-- the room that a receiver of a plan needs
abbrev pub is_kept_room : KeptRoom → Planned → ℕ → Bool
is_kept_room k p a = (k.room == room_length p.graph p.plan) && ((k.left == p.plan.c) && (k.block == a / 8))

-- a receiver that was read from its room, with its link, the digest of the table and the records; and a reception that
-- it takes
pub record Arriving : Type 0 where
  pub link : Link
  pub digest : ℕ
  pub records : List HeardBits
  pub reception : Reception

-- the receiver of a room, and what it takes of a transmission, by a shift table, or the first fault
unfoldable pub arriving_by : Entries → ℕ → Settings → ℕ → List ℕ → KeptRoom → Tx → List ℕ
    → Result Arriving Fault
arriving_by table digest settings a room places tx octets = do
  p ← planned_said settings.rate2048 a
  fits ← err_unless fault.Room (is_kept_room places p a)
  link ← with_fault fault.Desk (link_said table settings a)
  records ← or_fault fault.State (records_in digest link room)
  lengths ← with_fault fault.Desk (reception_said link (reception tx (map heard_octet octets)))
  Ok (record { link = link; digest = digest; records = records; reception = reception tx (map heard_octet octets) })

-- by a shift table's entries
unfoldable pub arriving_said : List KeptEntry → Settings → ℕ → List ℕ → KeptRoom → Tx → List ℕ
    → Result Arriving Fault
arriving_said entries settings a room places tx octets =
    table_by entries >>= λ table. arriving_by table (digest_of entries) settings a room places tx octets

-- the records of the room after the reception, whatever they were before
abbrev pub after_taking : Arriving → List HeardBits
after_taking x = heard_more x.link x.records x.reception

-- A receiver took up a reception, and its caller's places say so. The room has the records after it, which fit, so that it
-- is read again (`RoomsAreRead`). The outcome is what these decide. If the room was of a list, this is the outcome of that
-- list with the reception. Its place for a transport block had these octets before.
pub record IsKept (before : List ℕ) (x : Arriving) (new : KeptPlaces) : Type 0 where
  pub verdict : Verdict
  pub sound : IsLink x.link
  pub fit : AreStoresFor x.link (after_taking x)
  pub room : new.room ≡ room_of x.digest x.link (after_taking x)
  pub outcome : new.outcome ≡ outcome_number verdict
  pub left : new.left ≡ lefts x.link (after_taking x)
  pub block : IsHandedUp verdict before new.block
  pub decided : IsDecided x.link (after_taking x) verdict
  pub settled : (list : List Reception) → IsRecordOf x.link list x.records
      → verdict ≡ outcome_of x.link (list ++ x.reception ∷ [])

-- what a receiver's caller has then is a function of the room and the reception, whatever the room had
abbrev pub KeptIsOnly : Type 0
KeptIsOnly = (before : List ℕ) (x : Arriving) (new other : KeptPlaces)
    → IsKept before x new → IsKept before x other → new ≡ other
