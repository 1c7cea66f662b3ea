-- When each outcome is that of a list of receptions, and what later receptions can make of it.
use Rattle.std.specs.Prelude.{◌≡◌, ◌≢◌, ◌⊎◌, ◌↔◌, ℕ, ◌<◌, ◌==◌, ◌&&◌, ◌||◌, Bool}
use Rattle.std.specs.Prelude.{true, false, List, ◌++◌, length, All}
use Rattle.std.specs.List.{list_any, range_with_len}
use Rattle.nr_ldpcenc.specs.{Codeword.filler, Rows.block_checks}
use Rattle.nr_peel.specs.Closure.{closure}
use Rattle.nr_blockdesk.specs.Explains.{Explains, IsAccepted, Reception, heard_at}
use Rattle.nr_blockdesk.specs.{Link.IsBlock, Link.IsLink, Link.Link, PlacesLaws.is_received, declared.heard.Heard.Heard}
use Rattle.nr_blockdesk.specs.Outcome.{contradiction, delivered, open_still, outcome_of}
use Rattle.nr_blockdesk.specs.Sent.{RateMatching, block_at, matching, position_at}

-- a bit was received at place m of a transmission, and the place has position p of code block r
abbrev pub brings : RateMatching → List Heard → ℕ → ℕ → ℕ → Bool
brings t places r p m = is_received (heard_at places m) && ((block_at t m == r) && (position_at t m == p))

-- position p of code block r was received, at some place of some transmission
abbrev pub was_received : Link → List Reception → ℕ → ℕ → Bool
was_received link list r p =
    list_any (λ x. list_any (brings (matching link x.tx) x.heard r p) (range_with_len 0 (length x.heard))) list

-- position p of code block r is fixed: the parity rows fix it from the positions received and the fillers, one unknown position
-- at a time
abbrev pub is_fixed : Link → List Reception → ℕ → ℕ → Bool
is_fixed link list r p =
    closure (block_checks link.table link.graph link.plan)
    (λ q. was_received link list r q || filler link.plan.kdash link.plan.k q) p

-- every position below K' is fixed, in every code block
abbrev pub AreAllFixed : Link → List Reception → Type 0
AreAllFixed link list = (r p : ℕ) → r < link.plan.c → p < link.plan.kdash → is_fixed link list r p ≡ true

-- a position below K' of a code block is not fixed
pub record IsOneLeft (link : Link) (list : List Reception) : Type 0 where
  pub block : ℕ
  pub position : ℕ
  pub inside : block < link.plan.c
  pub below : position < link.plan.kdash
  pub left : is_fixed link list block position ≡ false

-- a transport block of the link's size explains all that arrived
abbrev pub IsExplainer : Link → List Reception → List Bool → Type 0
IsExplainer link list x = IsBlock link x × Explains link list x

-- no transport block explains all that arrived
abbrev pub NoneExplains : Link → List Reception → Type 0
NoneExplains link list = (x : List Bool) → IsExplainer link list x → ⊥

-- When each outcome occurs, exactly: a transport block is delivered if all is fixed and it explains all that arrived.
-- It is open if some position is left. It is a contradiction if all is fixed and no transport block explains all that
-- arrived.
pub record IsExact (link : Link) (list : List Reception) : Type 0 where
  pub delivers : (x : List Bool) → (outcome_of link list ≡ delivered x) ↔ (AreAllFixed link list × IsExplainer link list x)
  pub opens : (outcome_of link list ≡ open_still) ↔ IsOneLeft link list
  pub contradicts : (outcome_of link list ≡ contradiction) ↔ (AreAllFixed link list × NoneExplains link list)

abbrev pub OutcomesAreExact : Type 0
OutcomesAreExact = (link : Link) (list : List Reception) → IsLink link → All (IsAccepted link) list → IsExact link list

-- The outcome settles: with more receptions it is never open again, and a contradiction stays one. A transport block
-- that was delivered is delivered again or contradicted.
pub record Settles (link : Link) (list more : List Reception) : Type 0 where
  pub never_open : outcome_of link list ≢ open_still → outcome_of link (list ++ more) ≢ open_still
  pub contradicted : outcome_of link list ≡ contradiction → outcome_of link (list ++ more) ≡ contradiction
  pub delivered_again : (x : List Bool) → outcome_of link list ≡ delivered x
      → (outcome_of link (list ++ more) ≡ delivered x) ⊎ (outcome_of link (list ++ more) ≡ contradiction)

abbrev pub OutcomesSettle : Type 0
OutcomesSettle = (link : Link) (list more : List Reception) → IsLink link → All (IsAccepted link) (list ++ more)
    → Settles link list more
