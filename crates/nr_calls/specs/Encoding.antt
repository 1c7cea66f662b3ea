-- The bits that the K bits of a code block are encoded to, for C. They depend on the base graph and Zc alone (TS
-- 38.212, 5.3.2).
use Rattle.std.specs.Prelude.{if◌then◌else◌, Option, Some, None, unwrap_or, Result, Ok, List, length, map, slice_index_or}
use Rattle.std.specs.Prelude.{◌≡◌, ℕ, ◌+◌, ◌-◌, ◌*◌, ◌<◌, ◌==◌, ◌&&◌, nat_le, Bool}
use Rattle.std.specs.List.{list_all}
use Rattle.nr_bitvec.specs.Bit.{bit}
use Rattle.nr_graphpick.specs.{Graph.cols_of, Graph.info_cols_of, Graph.rows_of, declared.Graph.Graph}
use Rattle.nr_graphpick.specs.declared.Graph.TheVariants.{One, Two}
use Rattle.nr_refusal.specs.Refusal.{◌>>=◌, or_fault}
use Rattle.nr_lifting.specs.Sizes.{is_in, set_index, sizes}
use Rattle.nr_segment.specs.Plan.{info_columns}
use Rattle.nr_shifttable.specs.Accepted.{Entries, entries_in, has_graph}
use Rattle.nr_ldpcenc.specs.{Codeword.word_of, Rows.checks_of}
use Rattle.nr_blockdesk.specs.Link.{err_unless}
use Rattle.nr_transmission.specs.declared.fault.DeskFault.TheVariants as desk
use Rattle.nr_calls.specs.{Codeword.is_one, Crossing.digit, Entries.table_by, declared.fault.Fault.Fault}
use Rattle.nr_shifttable.specs.declared.entry.KeptEntry.{KeptEntry}
use Rattle.nr_calls.specs.declared.fault.Fault.TheVariants as fault

-- the base graph of a number
abbrev pub base_graph : ℕ → Option Graph
base_graph number = if number == 1 then Some One else (if number == 2 then Some Two else None)

-- code blocks of a base graph have this lifting size: its columns hold at least the 24 bits that each code block has
-- (5.2.2)
abbrev pub can_lift : Graph → ℕ → Bool
can_lift graph z = is_in z sizes && nat_le 24 (info_columns graph 24 * z)

-- an octet is 0, 1, or 2 for a filler
abbrev pub is_coded : ℕ → Bool
is_coded o = nat_le o 2

-- the word of a base graph and Zc that begins with K bits and meets every row
unfoldable pub word_for : Entries → Graph → ℕ → List Bool → List Bool
word_for table graph z info =
    word_of (checks_of (entries_in graph table) (unwrap_or (set_index z) 0) z (rows_of graph) (cols_of graph)) info

-- a word, its base graph and Zc
pub record Encoded : Type 0 where
  pub graph : Graph
  pub z : ℕ
  pub word : List Bool

-- the base graph by which K octets are encoded for a room of so many octets, or the first fault
unfoldable pub encode_judged : Entries → ℕ → ℕ → List ℕ → ℕ → Result Graph Fault
encode_judged table number z octets room = do
  graph ← or_fault (fault.Desk desk.Graph) (base_graph number)
  there ← err_unless (fault.Desk desk.Graph) (has_graph graph table)
  lifting ← err_unless fault.Lifting (can_lift graph z)
  whole ← err_unless (fault.Desk desk.Length) (length octets == info_cols_of graph * z)
  bits ← err_unless fault.Bit (list_all is_coded octets)
  fits ← err_unless fault.Room ((cols_of graph - 2) * z == room)
  Ok graph

-- the word that they are encoded into, a filler as 0, or the first fault
unfoldable pub encode_by : Entries → ℕ → ℕ → List ℕ → ℕ → Result Encoded Fault
encode_by table number z octets room =
    encode_judged table number z octets room >>= λ graph.
    Ok (record { graph = graph; z = z; word = word_for table graph z (map is_one octets) })

-- the word that K octets are encoded into, by a shift table's entries, or the first fault
unfoldable pub encode_said : List KeptEntry → ℕ → ℕ → List ℕ → ℕ → Result Encoded Fault
encode_said entries number z octets room = table_by entries >>= λ table. encode_by table number z octets room

-- d_n, as an octet: the bit of column n past the first two, and 2 if the K octets have a filler there
abbrev pub encoded_octet : Encoded → List ℕ → ℕ → ℕ
encoded_octet e octets n = let q = n + 2 * e.z in if slice_index_or octets q 0 == 2 then 2 else digit (bit e.word q)

-- octets that have d of these K octets
pub record AreEncoded (octets : List ℕ) (e : Encoded) (d : List ℕ) : Type 0 where
  pub long : length d ≡ (cols_of e.graph - 2) * e.z
  pub each : (n : ℕ) → n < length d → slice_index_or d n 0 ≡ encoded_octet e octets n
