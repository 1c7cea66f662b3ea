-- Which transport blocks explain all that arrived: those whose sent bits equal every bit received, of every transmission.
use Rattle.std.specs.Prelude.{◌≡◌, ℕ, ◌==◌, Bool, true, not, Result, Ok, List, length, slice_index_or}
use Rattle.std.specs.List.{list_all, range_with_len}
use Rattle.nr_bitvec.specs.Bit.{bit}
use Rattle.nr_refusal.specs.Refusal.{◌>>=◌}
use Rattle.nr_blockdesk.specs.{Link.Link, Link.err_unless, Sent.sent, Sent.tx_said_of}
use Rattle.nr_transmission.specs.declared.fault.DeskFault.{DeskFault}
use Rattle.nr_transmission.specs.declared.fault.DeskFault.TheVariants as fault
use Rattle.nr_blockdesk.specs.declared.heard.Heard.{Heard}
use Rattle.nr_blockdesk.specs.declared.heard.Heard.TheVariants as heard
use Rattle.nr_transmission.specs.declared.tx.Tx.{Tx}

-- a transmission, and what was received of it, place by place
pub record Reception : Type 0 where
  pub tx : Tx
  pub heard : List Heard

-- a reception from its two parts
abbrev pub reception : Tx → List Heard → Reception
reception tx places = record { tx = tx; heard = places }

-- what was received at a place
abbrev pub heard_at : List Heard → ℕ → Heard
heard_at places m = slice_index_or places m heard.Erased

-- what was received at a place is the bit sent there; an erased place agrees with any bit
abbrev pub agrees : Heard → Bool → Bool
agrees heard.Zero b = not b
agrees heard.One b = b
agrees heard.Erased b = true

-- what was received agrees with the bits at every place
abbrev pub all_agree : List Heard → List Bool → Bool
all_agree places bits = list_all (λ m. agrees (heard_at places m) (bit bits m)) (range_with_len 0 (length places))

-- a transport block explains all that arrived
unfoldable pub explains : Link → List Reception → List Bool → Bool
explains link list block = list_all (λ x. all_agree x.heard (sent link x.tx block)) list

abbrev pub Explains : Link → List Reception → List Bool → Type 0
Explains link list block = explains link list block ≡ true

-- E_r of each code block of a transmission of which n places are received, or the first fault: n must be G
abbrev pub hearing_said_of : ℕ → Tx → ℕ → Result (List ℕ) DeskFault
hearing_said_of c tx n = do
  lengths ← tx_said_of c tx
  whole ← err_unless fault.Length (n == tx.g)
  Ok lengths

-- E_r of each code block of a reception, or the first fault
abbrev pub reception_said_of : ℕ → Reception → Result (List ℕ) DeskFault
reception_said_of c x = hearing_said_of c x.tx (length x.heard)

-- E_r of each code block of a reception over a link, or the first fault
abbrev pub reception_said : Link → Reception → Result (List ℕ) DeskFault
reception_said link x = reception_said_of link.plan.c x

-- a reception that a receiver takes
abbrev pub IsAccepted : Link → Reception → Type 0
IsAccepted link x = (lengths : List ℕ) × (reception_said link x ≡ Ok lengths)
