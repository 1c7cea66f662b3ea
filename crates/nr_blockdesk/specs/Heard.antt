-- What a list of receptions gives each code block: the bits received of its codeword in turn, and the record of them.
use Rattle.std.specs.Prelude.{◌≡◌, ℕ, ◌==◌, false, if◌then◌else◌, List, [], length, map, flat_map, All, Option}
use Rattle.std.specs.{Prelude.None, Prelude.fold, Prelude.option_map, Prelude.slice_index_or, List.filter_map, List.range_with_len}
use Rattle.nr_harqbuf.specs.Record.{Hearing, HeardBits, record_of, with_hearing}
use Rattle.nr_segment.specs.Plan.{word_size}
use Rattle.nr_blockdesk.specs.{Explains.IsAccepted, Explains.Reception, Explains.heard_at, Hearing.heard_bit, Link.Link}
use Rattle.nr_blockdesk.specs.{Sent.RateMatching, Sent.block_at, Sent.matching, Sent.position_at, declared.heard.Heard.Heard}

-- what place m tells code block r: the position in the codeword, and the bit received
abbrev pub hearing_at : RateMatching → List Heard → ℕ → ℕ → Option Hearing
hearing_at t places r m =
    if block_at t m == r then option_map (λ b. (position_at t m, b)) (heard_bit (heard_at places m)) else None

-- what a reception tells code block r
unfoldable pub hearings_in : Link → ℕ → Reception → List Hearing
hearings_in link r x = filter_map (hearing_at (matching link x.tx) x.heard r) (range_with_len 0 (length x.heard))

-- what a list of receptions tells code block r
unfoldable pub hearings : Link → List Reception → ℕ → List Hearing
hearings link list r = flat_map (hearings_in link r) list

-- the record of each code block
unfoldable pub heard_record : Link → List Reception → List HeardBits
heard_record link list =
    map (λ r. record_of (word_size link.graph link.plan) (hearings link list r)) (range_with_len 0 link.plan.c)

-- the record of code block r
abbrev pub heard_of : List HeardBits → ℕ → HeardBits
heard_of records r = slice_index_or records r (record { first = []; clash = false })

-- the record of each code block after one more reception, whatever the records were before: what it tells the code block
-- is heard in turn
unfoldable pub heard_more : Link → List HeardBits → Reception → List HeardBits
heard_more link records x =
    map (λ r. fold with_hearing (heard_of records r) (hearings_in link r x)) (range_with_len 0 link.plan.c)

-- a list of accepted receptions that has this record
pub record IsRecordOf (link : Link) (list : List Reception) (records : List HeardBits) : Type 0 where
  pub accepted : All (IsAccepted link) list
  pub same : records ≡ heard_record link list
