-- The bits that are sent of a transport block, and which codeword bit is at each of their places (TS 38.212, 5.4.2 and
-- 5.5).
use Rattle.std.specs.Prelude.{◌≡◌, ℕ, ◌%◌, ◌<◌, Bool, nat_le, Result, Ok, Err, IsOk, List, [], length, flat_map}
use Rattle.std.specs.{Prelude.take, Prelude.All, Prelude.sum, Prelude.slice_index, List.range_with_len}
use Rattle.nr_bitvec.specs.Bit.{bit}
use Rattle.nr_cbconcat.specs.Concatenation.{IsOwner, owner_of}
use Rattle.nr_refusal.specs.Refusal.{◌>>=◌, with_fault}
use Rattle.nr_interleave.specs.Interleaving.{interleaving_of, seat_of}
use Rattle.nr_ratematch.specs.Lengths.{IsShared, lengths_said, is_scheduled}
use Rattle.nr_ratematch.specs.Selection.{Circular, IsCircular, IsSent, place_of, selection_of}
use Rattle.nr_segment.specs.CodeBlock.{joined_blocks}
use Rattle.nr_shifttable.specs.Accepted.{Entries}
use Rattle.nr_blockdesk.specs.Link.{Link, IsLink, err_unless, link_said, word}
use Rattle.nr_transmission.specs.declared.fault.DeskFault.{DeskFault}
use Rattle.nr_transmission.specs.declared.fault.DeskFault.TheVariants as fault
use Rattle.nr_transmission.specs.declared.{settings.Settings.Settings, tx.Tx.Tx}

-- E_r, how many bits of each of c code blocks a transmission sends, or its first fault
unfoldable pub tx_said_of : ℕ → Tx → Result (List ℕ) DeskFault
tx_said_of c tx = do
  version ← err_unless fault.Rv (nat_le tx.rv 3)
  with_fault fault.Rm (lengths_said (is_scheduled tx.mask) c tx.g tx.qm tx.nl)

-- E_r of each code block of a link's transmission, or its first fault
abbrev pub tx_said : Link → Tx → Result (List ℕ) DeskFault
tx_said link tx = tx_said_of link.plan.c tx

-- how a transmission matches its rate: the buffer, the redundancy version, Qm, and E_r of each code block
pub record RateMatching : Type 0 where
  pub buffer : Circular
  pub rv : ℕ
  pub qm : ℕ
  pub lengths : List ℕ

-- the lengths that are returned, and none if there is a fault
abbrev pub lengths_or_none : Result (List ℕ) DeskFault → List ℕ
lengths_or_none (Ok lengths) = lengths
lengths_or_none (Err e) = []

-- how a transmission with these lengths matches its rate
abbrev pub matching_of : Circular → Tx → List ℕ → RateMatching
matching_of buffer tx lengths = record { buffer = buffer; rv = tx.rv; qm = tx.qm; lengths = lengths }

-- how a transmission over a link matches its rate
abbrev pub matching : Link → Tx → RateMatching
matching link tx = matching_of link.buffer tx (lengths_or_none (tx_said link tx))

-- f of one code block: e bits of its codeword, selected and interleaved (5.4.2.1 and 5.4.2.2)
abbrev pub block_sent : RateMatching → List Bool → ℕ → List Bool
block_sent t codeword e = interleaving_of t.qm (selection_of t.buffer codeword t.rv e)

-- the bits sent: f of each code block, one after the other (5.5); `words r` is the codeword of code block r
unfoldable pub sent_of : RateMatching → (ℕ → List Bool) → List Bool
sent_of t words = flat_map (λ r. block_sent t (words r) (slice_index t.lengths r)) (range_with_len 0 (length t.lengths))

-- the bits sent of a transport block
unfoldable pub sent : Link → Tx → List Bool → List Bool
sent link tx block = sent_of (matching link tx) (word link block)

-- the bits sent of a transport block, or the transmission's first fault
abbrev pub sent_said : Link → Tx → List Bool → Result (List Bool) DeskFault
sent_said link tx block = tx_said link tx >>= λ lengths. Ok (sent link tx block)

-- what contracts see of a `Sender`: the link, and the transport block
pub record SenderView : Type 0 where
  pub link : Link
  pub block : List Bool

-- the transport block that the codewords of its code blocks carry: each begins with its code block (5.2.2)
abbrev pub carried : Link → List (List Bool) → List Bool
carried link words = take link.a (joined_blocks link.plan words)

-- the sender of a transport block, or the first fault
abbrev pub sending_said : Entries → Settings → List Bool → Result SenderView DeskFault
sending_said table settings block = link_said table settings (length block) >>= λ link. Ok (record { link = link; block = block })

-- the code block of place m of the sent bits
abbrev pub block_at : RateMatching → ℕ → ℕ
block_at t m = (owner_of t.lengths m).0

-- the position of that bit in the code block's codeword
unfoldable pub position_at : RateMatching → ℕ → ℕ
position_at t m = place_of t.buffer t.rv (seat_of t.qm (slice_index t.lengths (block_at t m)) (owner_of t.lengths m).1)

-- what is true of an accepted transmission's matching
pub record IsMatching (t : RateMatching) : Type 0 where
  pub circular : IsCircular t.buffer
  pub version : t.rv < 4
  pub order_some : 0 < t.qm
  pub whole : All (λ e. e % t.qm ≡ 0) t.lengths

-- an accepted transmission: these are its lengths, which share out its G bits, and its matching is sound
pub record IsMatched (link : Link) (tx : Tx) (lengths : List ℕ) : Type 0 where
  pub same : (matching link tx).lengths ≡ lengths
  pub matched : IsMatching (matching link tx)
  pub shared : IsShared link.plan.c tx.g tx.qm lengths

-- this is true of every accepted transmission over a sound link
abbrev pub AcceptedAreMatched : Type 0
AcceptedAreMatched = (link : Link) (tx : Tx) (lengths : List ℕ) → IsLink link → tx_said link tx ≡ Ok lengths
    → IsMatched link tx lengths

-- as many bits are sent as the lengths say
abbrev pub SentIsLong : Type 0
SentIsLong = (t : RateMatching) (words : ℕ → List Bool) → length (sent_of t words) ≡ sum t.lengths

-- an accepted transmission sends G bits
abbrev pub AcceptedSendAll : Type 0
AcceptedSendAll = (link : Link) (tx : Tx) (block : List Bool) → IsOk (tx_said link tx) → length (sent link tx block) ≡ tx.g

-- place m of the sent bits is a position of a code block that can be sent, and has its codeword's bit
pub record IsBitAt (t : RateMatching) (m : ℕ) : Type 0 where
  pub block : block_at t m < length t.lengths
  pub position : IsSent t.buffer (position_at t m)
  pub value : (words : ℕ → List Bool) → bit (sent_of t words) m ≡ bit (words (block_at t m)) (position_at t m)

-- this is true of every place of the sent bits
abbrev pub SentBitsAreAt : Type 0
SentBitsAreAt = (t : RateMatching) (m : ℕ) → IsMatching t → m < sum t.lengths → IsBitAt t m

-- what is at place p of code block r's part of the sent bits, which is place m of all
abbrev pub PartsAreAt : Type 0
PartsAreAt = (t : RateMatching) (m r p : ℕ) → IsOwner t.lengths m r p
    → (block_at t m ≡ r) × (position_at t m ≡ place_of t.buffer t.rv (seat_of t.qm (slice_index t.lengths r) p))
