-- The octets of the room that a caller in C keeps a receiver in, and how they are read.
use Rattle.std.specs.Prelude.{◌≡◌, ℕ, ◌+◌, ◌*◌, ◌==◌, nat_eq, bit_xor, ◌&&◌, ◌^◌, ◌%◌, ◌/◌}
use Rattle.std.specs.Prelude.{zero, suc, Bool, if◌then◌else◌, Option, Some, None, option_and_then, List, [], ◌∷◌}
use Rattle.std.specs.Prelude.{◌++◌, length, map, flat_map, fold, take, drop}
use Rattle.std.specs.Int.{to_le_bytes, w32}
use Rattle.std.specs.List.{list_all, starts_with}
use Rattle.nr_graphpick.specs.declared.Graph.{Graph}
use Rattle.nr_harqbuf.specs.Record.{HeardBits}
use Rattle.nr_segment.specs.Plan.{Numbers, word_size}
use Rattle.nr_shifttable.specs.Listed.{graph_number}
use Rattle.nr_shifttable.specs.Tails.{value_in}
use Rattle.nr_shifttable.specs.declared.entry.KeptEntry.{KeptEntry}
use Rattle.nr_blockdesk.specs.Hearing.{heard_bit}
use Rattle.nr_blockdesk.specs.Link.{Link}
use Rattle.nr_blockdesk.specs.Receiving.{AreStoresFor}
use Rattle.nr_calls.specs.Codeword.{is_digit}
use Rattle.nr_calls.specs.Crossing.{digit}
use Rattle.nr_calls.specs.Encoding.{is_coded}
use Rattle.nr_calls.specs.Receiving.{heard_octet}

-- four numbers of 16 bits as one of 64, the first lowest
abbrev pub four : ℕ → ℕ → ℕ → ℕ → ℕ
four a b c d = a + 2 ^ 16 * (b + 2 ^ 16 * (c + 2 ^ 16 * d))

-- One more number in a digest of 64 bits. It is the step of FNV-1a, whose higher half is then brought down: the next step
-- moves all of it up again. For each digest this is one to one in the number, and for each number in the digest.
abbrev pub digest_with : ℕ → ℕ → ℕ
digest_with d n = let product = bit_xor d n * 1099511628211 % 2 ^ 64 in bit_xor product (product / 2 ^ 32)

-- the numbers of an entry, four at a step: its place and its eight values
abbrev pub fours_of : KeptEntry → List ℕ
fours_of e =
    four e.graph e.entry.row e.entry.col (value_in 0 e.entry)
    ∷ four (value_in 1 e.entry) (value_in 2 e.entry) (value_in 3 e.entry) (value_in 4 e.entry)
    ∷ four (value_in 5 e.entry) (value_in 6 e.entry) (value_in 7 e.entry) 0 ∷ []

-- one more entry
abbrev pub digest_entry : ℕ → KeptEntry → ℕ
digest_entry d e = fold digest_with d (fours_of e)

-- the digest of a shift table's entries, by which a room of another table is recognized: the higher half of the digest
-- of all
unfoldable pub digest_of : List KeptEntry → ℕ
digest_of entries = fold digest_entry 14695981039346656037 entries / 2 ^ 32

-- what a room's first octets say: the version of its layout, the link, and the table
abbrev pub room_numbers : ℕ → Link → List ℕ
room_numbers digest link =
    2 ∷ link.a ∷ graph_number link.graph ∷ link.plan.z ∷ link.plan.kdash ∷ link.plan.c ∷ link.buffer.ncb
    ∷ digest ∷ []

-- the octets of these numbers: four for each, the lowest first
abbrev pub room_header : ℕ → Link → List ℕ
room_header digest link = flat_map (to_le_bytes w32) (room_numbers digest link)

-- the bit that was heard first at a position, as an octet: 2 if none was
abbrev pub position_octet : Option Bool → ℕ
position_octet None = 2
position_octet (Some b) = digit b

-- the record of a code block: whether some position was heard with both bits, and then the positions
abbrev pub record_octets : HeardBits → List ℕ
record_octets s = digit s.clash ∷ map position_octet s.first

-- the room of a receiver that has these records, code block by code block
unfoldable pub room_of : ℕ → Link → List HeardBits → List ℕ
room_of digest link records = room_header digest link ++ flat_map record_octets records

-- how many octets a room has
abbrev pub room_length : Graph → Numbers → ℕ
room_length graph p = 32 + p.c * (word_size graph p + 1)

-- the bit that an octet says was heard first at a position
abbrev pub first_in : ℕ → Option Bool
first_in o = heard_bit (heard_octet o)

-- the record of a code block of n positions that octets have, if they have one
unfoldable pub record_in : ℕ → List ℕ → Option HeardBits
record_in n [] = None
record_in n (o ∷ octets) =
    if (length octets == n) && (is_digit o && list_all is_coded octets)
    then Some (record { first = map first_in octets; clash = o == 1 }) else None

-- the records of c code blocks of n positions each that octets have, if they have exactly those
unfoldable pub records_from : ℕ → ℕ → List ℕ → Option (List HeardBits)
records_from n zero [] = Some []
records_from n zero (o ∷ octets) = None
records_from n (suc c) octets =
    option_and_then (λ s. option_and_then (λ records. Some (s ∷ records)) (records_from n c (drop (n + 1) octets)))
    (record_in n (take (n + 1) octets))

-- the records that a room has, if it is a room of this link and this table
unfoldable pub records_in : ℕ → Link → List ℕ → Option (List HeardBits)
records_in digest link room =
    if starts_with nat_eq room (room_header digest link)
    then records_from (word_size link.graph link.plan) link.plan.c (drop (length (room_header digest link)) room) else None

-- a room of these records, which fit the link
pub record IsRoomOf (digest : ℕ) (link : Link) (room : List ℕ) (records : List HeardBits) : Type 0 where
  pub same : room ≡ room_of digest link records
  pub fit : AreStoresFor link records

-- What reading a room comes to, said by the writer alone. It is records that fit, of which this is the room, whether a
-- call wrote it or not. Or it is nothing, if this is the room of no such records.
abbrev pub ReadsAs : ℕ → Link → List ℕ → Option (List HeardBits) → Type 0
ReadsAs digest link room (Some records) = IsRoomOf digest link room records
ReadsAs digest link room None = (records : List HeardBits) → IsRoomOf digest link room records → ⊥

-- each room is read so: a room that a call has left is never refused, and the records read are those that it has
abbrev pub RoomsAreRead : Type 0
RoomsAreRead = (digest : ℕ) (link : Link) (room : List ℕ) → ReadsAs digest link room (records_in digest link room)
