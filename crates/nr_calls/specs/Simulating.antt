-- Rounds of a transport block over drawn erasures, each heard until the block is delivered, for C. How much is left,
-- and whether the block is delivered, is the same for every transport block.
use Rattle.std.specs.Prelude.{◌≡◌, ℕ, ◌+◌, ◌*◌, ◌==◌, ◌&&◌, find, nat_le, unwrap_or, Bool, true, false}
use Rattle.std.specs.Prelude.{if◌then◌else◌, Result, Ok, List, [], ◌∷◌, length, map, flat_map, take, drop, sum}
use Rattle.std.specs.Prelude.{replicate, count_by, slice_index, slice_index_or, zip}
use Rattle.std.specs.List.{range_with_len}
use Rattle.nr_bitvec.specs.Bit.{bit}
use Rattle.nr_drawing.specs.Drawing.{places_drawn}
use Rattle.nr_refusal.specs.Refusal.{◌>>=◌, with_fault}
use Rattle.nr_shifttable.specs.Accepted.{Entries}
use Rattle.nr_shifttable.specs.declared.entry.KeptEntry.{KeptEntry}
use Rattle.nr_blockdesk.specs.Explains.{Reception}
use Rattle.nr_blockdesk.specs.Heard.{heard_record}
use Rattle.nr_blockdesk.specs.Link.{IsBlock, Link, err_unless, link_said}
use Rattle.nr_blockdesk.specs.Outcome.{Verdict, contradiction, delivered, open_still, outcome_of}
use Rattle.nr_blockdesk.specs.ReceiverLaws.{what_arrives}
use Rattle.nr_blockdesk.specs.Sent.{matching, tx_said}
use Rattle.nr_transmission.specs.declared.fault.DeskFault.TheVariants as desk
use Rattle.nr_transmission.specs.declared.settings.Settings.{Settings}
use Rattle.nr_transmission.specs.declared.tx.Tx.{Tx}
use Rattle.nr_calls.specs.Crossing.{tx_of}
use Rattle.nr_calls.specs.Entries.{table_by}
use Rattle.nr_calls.specs.Findings.{lefts}
use Rattle.nr_calls.specs.Plan.{planned_said}
use Rattle.nr_calls.specs.declared.crossing.NrTx.{NrTx}
use Rattle.nr_calls.specs.declared.fault.Fault.{Fault}
use Rattle.nr_calls.specs.declared.fault.Fault.TheVariants as fault
use Rattle.nr_calls.specs.declared.simulating.RoundRoom.{RoundRoom}

-- a transmission with its threshold and its seed: marks of the places that are erased
abbrev pub drawn_tx : (NrTx × ℕ) × ℕ → Tx × List Bool
drawn_tx x = (tx_of x.0.0, places_drawn x.1 x.0.1 x.0.0.g)

-- each transmission with its threshold and its seed
abbrev pub drawn_txs : List NrTx → List ℕ → List ℕ → List (Tx × List Bool)
drawn_txs txs thresholds seeds = map drawn_tx (zip (zip txs thresholds) seeds)

-- the transmissions of round i, which has its own seeds
abbrev pub drawn_round : List NrTx → List ℕ → List ℕ → ℕ → List (Tx × List Bool)
drawn_round txs thresholds seeds i = drawn_txs txs thresholds (take (length txs) (drop (i * length txs) seeds))

-- what has arrived of a transport block after the first n transmissions of a round
abbrev pub arrived : Link → List Bool → List (Tx × List Bool) → ℕ → List Reception
arrived link block round n = what_arrives link block (take n round)

-- an outcome is a delivered block
abbrev pub is_handed_up : Verdict → Bool
is_handed_up (delivered block) = true
is_handed_up open_still = false
is_handed_up contradiction = false

-- after how many of the first n transmissions of a round the block is first delivered; 0 if it is not
unfoldable pub delivered_within : Link → List Bool → List (Tx × List Bool) → ℕ → ℕ
delivered_within link block round n =
    unwrap_or (find (λ k. is_handed_up (outcome_of link (arrived link block round k))) (range_with_len 1 n)) 0

-- a row of a round, for transmission k, counted from 0: zeros if the block was delivered before it
abbrev pub row_unless : Link → List Bool → List (Tx × List Bool) → ℕ → List ℕ → List ℕ
row_unless link block round k row = if delivered_within link block round k == 0 then row else replicate link.plan.c 0

-- how many positions below K' of each code block are left after transmission k
abbrev pub left_row : Link → List Bool → List (Tx × List Bool) → ℕ → List ℕ
left_row link block round k = row_unless link block round k (lefts link (heard_record link (arrived link block round (k + 1))))

-- how many places of code block r a transmission has erased: the places of each code block follow those of the one
-- before it
abbrev pub erased_in : Link → Tx × List Bool → ℕ → ℕ
erased_in link x r =
    let lengths = (matching link x.0).lengths in count_by (bit x.1) (range_with_len (sum (take r lengths)) (slice_index lengths r))

-- how many places of each code block it has erased
abbrev pub erased_counts : Link → Tx × List Bool → List ℕ
erased_counts link x = map (erased_in link x) (range_with_len 0 link.plan.c)

-- how many places of each code block transmission k has erased
abbrev pub erased_row : Link → List Bool → List (Tx × List Bool) → ℕ → List ℕ
erased_row link block round k = row_unless link block round k (slice_index_or (map (erased_counts link) round) k [])

-- A caller's places. They say after how many transmissions each round was delivered. Then they say for each
-- transmission of each round how much of each code block was left, and how many of its places were erased.
pub record Simulation : Type 0 where
  pub delivered : List ℕ
  pub left : List ℕ
  pub erased : List ℕ

abbrev pub simulation : List ℕ → List ℕ → List ℕ → Simulation
simulation after left erased = record { delivered = after; left = left; erased = erased }

-- the result of n rounds, for a transport block
unfoldable pub simulated : Link → List Bool → (ℕ → List (Tx × List Bool)) → ℕ → ℕ → Simulation
simulated link block rounds t n = record {
  delivered = map (λ i. delivered_within link block (rounds i) t) (range_with_len 0 n);
  left = flat_map (λ i. flat_map (left_row link block (rounds i)) (range_with_len 0 t)) (range_with_len 0 n);
  erased = flat_map (λ i. flat_map (erased_row link block (rounds i)) (range_with_len 0 t)) (range_with_len 0 n);
}

-- the first fault of some transmissions
unfoldable pub txs_said : Link → List NrTx → Result (Unit {0}) Fault
txs_said link [] = Ok tt
txs_said link (t ∷ ts) = with_fault fault.Desk (tx_said link (tx_of t)) >>= λ _. txs_said link ts

-- how much room they have
abbrev pub simulation_room : Simulation → RoundRoom
simulation_room s = record { delivered = length s.delivered; left = length s.left; erased = length s.erased }

-- a threshold for each transmission, and for each of n rounds as many seeds
abbrev pub are_seeds : List NrTx → List ℕ → List ℕ → ℕ → Bool
are_seeds txs thresholds seeds n = (length thresholds == length txs) && (length seeds == n * length txs)

-- room for n rows of c code blocks
abbrev pub is_row_room : RoundRoom → ℕ → ℕ → Bool
is_row_room room n c = (room.left == n * c) && (room.erased == n * c)

-- the first fault of the lists of rounds over c code blocks
unfoldable pub lists_said : List NrTx → List ℕ → List ℕ → RoundRoom → ℕ → Result (Unit {0}) Fault
lists_said txs thresholds seeds room c = do
  few ← err_unless fault.Many (nat_le (length txs) 1000)
  drawn ← err_unless (fault.Desk desk.Length) (are_seeds txs thresholds seeds room.delivered)
  fits ← err_unless fault.Room (is_row_room room (length seeds) c)
  Ok tt

-- the link over which rounds are simulated, by a shift table, or the first fault
unfoldable pub simulating_by : Entries → Settings → ℕ → List NrTx → List ℕ → List ℕ → RoundRoom
    → Result Link Fault
simulating_by table settings a txs thresholds seeds room = do
  p ← planned_said settings.rate2048 a
  lists ← lists_said txs thresholds seeds room p.plan.c
  link ← with_fault fault.Desk (link_said table settings a)
  sound ← txs_said link txs
  Ok link

-- by a shift table's entries
unfoldable pub simulating_said : List KeptEntry → Settings → ℕ → List NrTx → List ℕ → List ℕ → RoundRoom
    → Result Link Fault
simulating_said entries settings a txs thresholds seeds room =
    table_by entries >>= λ table. simulating_by table settings a txs thresholds seeds room

-- a caller's places have the result of n rounds, for every transport block
abbrev pub AreSimulated : List NrTx → List ℕ → List ℕ → ℕ → Link → Simulation → Type 0
AreSimulated txs thresholds seeds n link new = (block : List Bool) → IsBlock link block
    → new ≡ simulated link block (drawn_round txs thresholds seeds) (length txs) n
