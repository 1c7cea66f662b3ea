-- What the received positions decide by themselves. Over erasures, the places decide it.
use Rattle.nr_blockdesk.proofs.Common.{◌≡◌, ℕ, zero, suc, ◌+◌, ◌==◌, ◌||◌, Bool, not, cond, List, [], ◌∷◌}
use Rattle.nr_blockdesk.proofs.Common.{length, map, refl, sym, ap, ◌∙◌, arith, Option, option_map, count_by, filter_map}
use Rattle.nr_blockdesk.proofs.Common.{list_all, list_any, range_with_len, cases_lt, get_or_past, map-append, length-map, Hearing}
use Rattle.nr_blockdesk.proofs.Common.{first_heard, is_heard, record_of-at, filler, block_checks, closure, Reception, heard_at}
use Rattle.nr_blockdesk.proofs.Common.{reception, heard_of, heard_record, hearings, hearings_in, heard_bit, Link, word, all_fixed}
use Rattle.nr_blockdesk.proofs.Common.{given, left, is_received, is_heard_at, ExplainedIsDelivered, what_arrives, SentIsLong}
use Rattle.nr_blockdesk.proofs.Common.{matching, sent, Heard, Tx, nat_tests, length-zip}
use Rattle.nr_blockdesk.specs.PlacesLaws.{ErasuresDecide, places_in, AreLeftAlike, PlacesDecide, PositionsDecide, TellAlike}
use Rattle.nr_blockdesk.proofs.OutcomeFacts.{arrived-explained, open-exactly, delivered-fixed}
use Rattle.nr_blockdesk.proofs.{ReceptionFacts.length-record, RecordFacts.first-past, RecordFacts.record-at}
use Rattle.nr_blockdesk.proofs.LinkFacts.{arrived, arrived-place}
use Rattle.nr_blockdesk.specs.declared.heard.Heard.TheVariants as heard

-- the positions of hearings
abbrev pub positions : List Hearing → List ℕ
positions hs = map (λ (h : Hearing). h.0) hs

abbrev position : Option Hearing → Option ℕ
position o = option_map (λ (h : Hearing). h.0) o

-- whether a bit was received at a position, by the positions alone
pub heard-by : (hs : List Hearing) (p : ℕ) → is_heard (first_heard hs p) ≡ list_any (λ q. q == p) (positions hs)
unfolding first_heard
heard-by [] p = refl
heard-by (h ∷ hs) p = grind (arith, heard-by hs p)

same-told : (f g : ℕ → Option Hearing) (a n : ℕ) → ((m : ℕ) → position (f m) ≡ position (g m))
    → positions (filter_map f (range_with_len a n)) ≡ positions (filter_map g (range_with_len a n))
same-told f g a zero each = refl
same-told f g a (suc n) each = grind (arith, each a, same-told f g (a + 1) n each)

-- lists that tell the same positions tell alike
told-tell : (link : Link) (x y : List Reception)
    → ((r : ℕ) → positions (hearings link x r) ≡ positions (hearings link y r)) → TellAlike link x y
told-tell link x y same r p block = grind (arith, cases_lt, record-at, record_of-at, first-past, heard-by)

-- receptions of one transmission that are as long, and received at the same places, tell the same positions
told-beside : (link : Link) (tx : Tx) (H K : List Heard) (r : ℕ) → length H ≡ length K
    → ((m : ℕ) → is_heard (heard_bit (heard_at H m)) ≡ is_heard (heard_bit (heard_at K m)))
    → positions (hearings_in link r (reception tx H)) ≡ positions (hearings_in link r (reception tx K))
unfolding hearings_in
told-beside link tx H K r long same = grind (arith, same-told)

arrived-alike : (marks us vs : List Bool) (m : ℕ) → length us ≡ length vs
    → is_heard (heard_bit (heard_at (arrived marks us) m)) ≡ is_heard (heard_bit (heard_at (arrived marks vs) m))
arrived-alike marks us vs m long = grind (arith, nat_tests, cases_lt, arrived-place, get_or_past, length-map, length-zip)

-- the same number of bits is sent for any transport block
sent-alike : SentIsLong → (link : Link) (tx : Tx) (x y : List Bool) → length (sent link tx x) ≡ length (sent link tx y)
unfolding sent
sent-alike long link tx x y = long (matching link tx) (word link x) ∙ sym (long (matching link tx) (word link y))

-- what all of them tell
all-alike : SentIsLong → (link : Link) (x y : List Bool) (txs : List (Tx × List Bool)) (r : ℕ)
    → positions (hearings link (what_arrives link x txs) r) ≡ positions (hearings link (what_arrives link y txs) r)
unfolding hearings
all-alike long link x y [] r = refl
all-alike long link x y (t ∷ ts) r =
    grind (arith, map-append, told-beside, arrived-alike, length-map, length-zip, sent-alike, all-alike long link x y ts r)

tell-alike : SentIsLong → (link : Link) (x y : List Bool) (txs : List (Tx × List Bool))
    → TellAlike link (what_arrives link x txs) (what_arrives link y txs)
tell-alike long link x y txs = grind (arith, told-tell, all-alike)

-- two lists that tell of the same positions
module _ (link : Link) (x y : List Reception) (alike : TellAlike link x y) where
  heard-same : (r p : ℕ) → is_heard_at link x r p ≡ is_heard_at link y r p
  heard-same r p = grind (arith, get_or_past, length-record, cases_lt)

  given-same : (r : ℕ) → given link (heard_of (heard_record link x) r) ≡ given link (heard_of (heard_record link y) r)
  given-same r = λ i p. (ap (λ b. b || filler link.plan.kdash link.plan.k p) (heard-same r p)) i

  left-same : (r : ℕ) → left link (heard_record link x) r ≡ left link (heard_record link y) r
  left-same r =
      ap (λ (S : ℕ → Bool). count_by (λ p. not (closure (block_checks link.table link.graph link.plan) S p))
      (range_with_len 0 link.plan.kdash)) (given-same r)

  pub fixed-same : all_fixed link (heard_record link x) ≡ all_fixed link (heard_record link y)
  fixed-same = ap (λ (f : ℕ → ℕ). list_all (λ r. f r == 0) (range_with_len 0 link.plan.c)) (λ i r. left-same r i)

  pub left-alike : AreLeftAlike link x y
  left-alike = record {
    as_many = left-same;
    as_open = (
      λ e. (open-exactly link y).1 (sym fixed-same ∙ (open-exactly link x).0 e),
      λ e. (open-exactly link x).1 (fixed-same ∙ (open-exactly link y).0 e),
    );
  }

pub positions-decide : PositionsDecide
positions-decide link x y alike = left-alike link x y alike

pub places-decide : SentIsLong → ExplainedIsDelivered → PlacesDecide
places-decide long delivers link x y txs =
    let X = what_arrives link x txs in
    let Y = what_arrives link y txs in
    let alike : TellAlike link X Y = tell-alike long link x y txs in
    let same : all_fixed link (heard_record link X) ≡ all_fixed link (heard_record link Y) = fixed-same link X Y alike in
    record {
      leaves = positions-decide link X Y alike;
      delivers = λ is whole-x whole-y accepted-x accepted-y. (
        λ e. delivers link Y y is accepted-y whole-y (arrived-explained link y txs) (sym same ∙ delivered-fixed link X x e),
        λ e. delivers link X x is accepted-x whole-x (arrived-explained link x txs) (same ∙ delivered-fixed link Y y e),
      );
    }

-- zeros at the places of received bits
abbrev zeros_at : List Bool → List Heard
zeros_at marks = map (λ b. cond b heard.Zero heard.Erased) marks

zeros-alike : (places : List Heard) (m : ℕ)
    → is_heard (heard_bit (heard_at (zeros_at (map is_received places)) m)) ≡ is_heard (heard_bit (heard_at places m))
zeros-alike [] m = refl
zeros-alike (h ∷ hs) zero = grind arith
zeros-alike (h ∷ hs) (suc m) = zeros-alike hs m

abbrev zeros_of : Tx × List Bool → Reception
zeros_of at = reception at.0 (zeros_at at.1)

-- what a reception tells is what zeros at its places tell
all-zeros : (link : Link) (list : List Reception) (r : ℕ)
    → positions (hearings link (map zeros_of (places_in list)) r) ≡ positions (hearings link list r)
unfolding hearings
all-zeros link [] r = refl
all-zeros link (x ∷ xs) r = grind (arith, map-append, told-beside, zeros-alike, length-map, all-zeros link xs r)

pub erasures-decide : ErasuresDecide
erasures-decide link x y same =
    positions-decide link x y (told-tell link x y (λ r.
    sym (all-zeros link x r) ∙ ap (λ (ps : List (Tx × List Bool)). positions (hearings link (map zeros_of ps) r)) same
    ∙ all-zeros link y r))
