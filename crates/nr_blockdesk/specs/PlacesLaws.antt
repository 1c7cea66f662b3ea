-- What the received positions decide by themselves, whatever their bits are. Over erasures the places alone decide it.
use Rattle.std.specs.Prelude.{◌≡◌, ◌↔◌, ℕ, ◌<◌, Bool, List, All, map}
use Rattle.nr_harqbuf.specs.Record.{first_at, is_heard}
use Rattle.nr_blockdesk.specs.{Explains.IsAccepted, Explains.Reception, Heard.heard_of, Heard.heard_record, Hearing.heard_bit}
use Rattle.nr_blockdesk.specs.{Link.IsBlock, Link.IsLink, Link.Link, ReceiverLaws.what_arrives, declared.heard.Heard.Heard}
use Rattle.nr_blockdesk.specs.Outcome.{delivered, left, open_still, outcome_of}
use Rattle.nr_transmission.specs.declared.tx.Tx.{Tx}

-- a bit was received at position p of code block r
abbrev pub is_heard_at : Link → List Reception → ℕ → ℕ → Bool
is_heard_at link list r p = is_heard (first_at (heard_of (heard_record link list) r) p)

-- two lists of receptions tell of the same positions
abbrev pub TellAlike : Link → List Reception → List Reception → Type 0
TellAlike link x y = (r p : ℕ) → r < link.plan.c → is_heard_at link x r p ≡ is_heard_at link y r p

-- as many positions are left of each code block, and one outcome is open exactly if the other is
pub record AreLeftAlike (link : Link) (x y : List Reception) : Type 0 where
  pub as_many : (r : ℕ) → left link (heard_record link x) r ≡ left link (heard_record link y) r
  pub as_open : (outcome_of link x ≡ open_still) ↔ (outcome_of link y ≡ open_still)

-- two lists that tell of the same positions leave the same number of positions
abbrev pub PositionsDecide : Type 0
PositionsDecide = (link : Link) (x y : List Reception) → TellAlike link x y → AreLeftAlike link x y

-- Two transport blocks are sent over a link that erases the same places of the same transmissions. The same number of
-- positions is left of both, and one is delivered exactly if the other is.
pub record ArriveAlike (link : Link) (x y : List Bool) (txs : List (Tx × List Bool)) : Type 0 where
  pub leaves : AreLeftAlike link (what_arrives link x txs) (what_arrives link y txs)
  pub delivers : IsLink link → IsBlock link x → IsBlock link y → All (IsAccepted link) (what_arrives link x txs)
      → All (IsAccepted link) (what_arrives link y txs)
      → (outcome_of link (what_arrives link x txs) ≡ delivered x)
      ↔ (outcome_of link (what_arrives link y txs) ≡ delivered y)

abbrev pub PlacesDecide : Type 0
PlacesDecide = (link : Link) (x y : List Bool) (txs : List (Tx × List Bool)) → ArriveAlike link x y txs

-- a bit was received at a place
abbrev pub is_received : Heard → Bool
is_received h = is_heard (heard_bit h)

-- the transmissions, each with marks of the places at which a bit was received
abbrev pub places_in : List Reception → List (Tx × List Bool)
places_in list = map (λ x. (x.tx, map is_received x.heard)) list

-- two lists of the same transmissions with the same erased places leave the same number of positions, whatever bits
-- they have
abbrev pub ErasuresDecide : Type 0
ErasuresDecide = (link : Link) (x y : List Reception) → places_in x ≡ places_in y → AreLeftAlike link x y
