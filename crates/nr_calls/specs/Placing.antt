-- Which bit of which code block is at each place of a transmission (TS 38.212, 5.4.2 and 5.5), for C. A receiver that keeps
-- N numbers for each code block, one after the other, has that of bit d_n of code block r at index r N + n.
use Rattle.std.specs.Prelude.{◌≡◌, ℕ, ◌+◌, ◌-◌, ◌*◌, ◌/◌, ◌%◌, ◌<◌, ◌==◌, Bool, Result, Ok}
use Rattle.std.specs.Prelude.{List, length}
use Rattle.std.specs.Prelude.{slice_index_or}
use Rattle.nr_bitvec.specs.Bit.{bit}
use Rattle.nr_refusal.specs.Refusal.{◌>>=◌, with_fault}
use Rattle.nr_ratematch.specs.Selection.{Circular, buffer_said}
use Rattle.nr_blockdesk.specs.{Link.err_unless, Sent.RateMatching, Sent.block_at, Sent.matching_of, Sent.position_at}
use Rattle.nr_blockdesk.specs.Sent.{sent_of, tx_said_of}
use Rattle.nr_transmission.specs.declared.{settings.Settings.Settings, tx.Tx.Tx}
use Rattle.nr_calls.specs.{Plan.planned_said, declared.fault.Fault.Fault}
use Rattle.nr_calls.specs.declared.fault.Fault.TheVariants as fault
use Rattle.nr_transmission.specs.declared.fault.DeskFault.TheVariants as desk

-- N, the bits d that each code block is coded into, and how a transmission matches its rate
pub record Placing : Type 0 where
  pub n : ℕ
  pub matching : RateMatching

abbrev pub placing : ℕ → Circular → Tx → List ℕ → Placing
placing n buffer tx lengths = record { n = n; matching = matching_of buffer tx lengths }

-- these of a transport block of a bits, if there is room for its places, or the first fault
unfoldable pub placing_said : Settings → ℕ → Tx → ℕ → Result Placing Fault
placing_said settings a tx room = do
  p ← planned_said settings.rate2048 a
  buffer ← with_fault (λ e. fault.Desk (desk.Rm e)) (buffer_said p.graph p.plan settings.lbrm)
  lengths ← with_fault fault.Desk (tx_said_of p.plan.c tx)
  fits ← err_unless fault.Room (tx.g == room)
  Ok (placing p.plan.n buffer tx lengths)

-- the index of bit d_n of code block r, by its position in the codeword, which has 2 Zc bits before d
abbrev pub index_by : Placing → ℕ → ℕ → ℕ
index_by p r position = r * p.n + (position - 2 * p.matching.buffer.z)

-- the index of the bit at place m
abbrev pub index_at : Placing → ℕ → ℕ
index_at p m = index_by p (block_at p.matching m) (position_at p.matching m)

-- the bit of an index, which is d_n of code block r; `words r` is its codeword
abbrev pub bit_by : Placing → (ℕ → List Bool) → ℕ → Bool
bit_by p words index = bit (words (index / p.n)) (index % p.n + 2 * p.matching.buffer.z)

-- Numbers that are the index at each place: of any codewords, the bit of the index is sent there.
pub record AreBitIndexes (p : Placing) (numbers : List ℕ) : Type 0 where
  pub each : (m : ℕ) → m < length numbers → slice_index_or numbers m 0 ≡ index_at p m
  pub inside : (m : ℕ) → m < length numbers → slice_index_or numbers m 0 < length p.matching.lengths * p.n
  pub carried : (words : ℕ → List Bool) (m : ℕ) → m < length numbers
      → bit (sent_of p.matching words) m ≡ bit_by p words (slice_index_or numbers m 0)
