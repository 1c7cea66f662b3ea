-- What is found over a list of receptions, and what a call writes of it to its caller's memory.
use Rattle.std.specs.Prelude.{◌≡◌, ℕ, ◌+◌, ◌/◌, ◌==◌, ◌&&◌, Bool, List, length, map, take}
use Rattle.std.specs.List.{range_with_len}
use Rattle.nr_harqbuf.specs.Record.{HeardBits}
use Rattle.nr_blockdesk.specs.{Explains.Reception, Heard.heard_record, Link.Link}
use Rattle.nr_blockdesk.specs.Outcome.{Verdict, contradiction, delivered, left, open_still, outcome_of}
use Rattle.nr_calls.specs.{Crossing.AreOctets, declared.findings.Room.Room}

-- the number of an outcome
abbrev pub outcome_number : Verdict → ℕ
outcome_number open_still = 0
outcome_number (delivered block) = 1
outcome_number contradiction = 2

-- the number of the outcome after each reception of a list
abbrev pub outcomes_of : Link → List Reception → List ℕ
outcomes_of link list = map (λ k. outcome_number (outcome_of link (take (k + 1) list))) (range_with_len 0 (length list))

-- how many positions below K' of each code block are not fixed
abbrev pub lefts : Link → List HeardBits → List ℕ
lefts link records = map (left link records) (range_with_len 0 link.plan.c)

-- What is found over a list of receptions: the number of the outcome after each reception, and the last outcome. Then
-- how many positions below K' of each code block are left after the last reception.
pub record Findings : Type 0 where
  pub outcomes : List ℕ
  pub left : List ℕ
  pub last : Verdict

abbrev pub findings : Link → List Reception → Findings
findings link list =
    record { outcomes = outcomes_of link list; left = lefts link (heard_record link list); last = outcome_of link list }

-- a caller's places: for the outcomes, for what is left of each code block, and for the octets of a transport block
pub record Places : Type 0 where
  pub outcomes : List ℕ
  pub left : List ℕ
  pub block : List ℕ

abbrev pub places : List ℕ → List ℕ → List ℕ → Places
places outcomes left block = record { outcomes = outcomes; left = left; block = block }

-- how much room they have
abbrev pub room_in : Places → Room
room_in p = record { outcomes = length p.outcomes; left = length p.left; block = length p.block }

-- room for what is found over n transmissions of a transport block of a bits in c code blocks
abbrev pub is_room : Room → ℕ → ℕ → ℕ → Bool
is_room room c a n = (room.outcomes == n) && (room.left == c) && (room.block == a / 8)

-- a block that is delivered is in its place; with any other outcome the place is unchanged
abbrev pub IsHandedUp : Verdict → List ℕ → List ℕ → Type 0
IsHandedUp open_still old new = new ≡ old
IsHandedUp (delivered block) old new = AreOctets block new
IsHandedUp contradiction old new = new ≡ old

-- a caller's places have what is found; the place for a transport block had these octets before
pub record AreWritten (before : List ℕ) (f : Findings) (new : Places) : Type 0 where
  pub outcomes : new.outcomes ≡ f.outcomes
  pub left : new.left ≡ f.left
  pub block : IsHandedUp f.last before new.block
