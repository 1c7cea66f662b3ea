-- What rounds side by side are told by a code block's part of a transmission. Bit j of word m says whether a bit was received at
-- place m in round j.
use Rattle.std.specs.Prelude.{◌≡◌, ℕ, ◌+◌, ◌<◌, ◌==◌, ◌||◌, ◌&&◌, Bool, Ok, List, [], ◌∷◌}
use Rattle.std.specs.Prelude.{◌++◌, length, count_by, not, slice_index, sum, take}
use Rattle.std.specs.List.{range_with_len}
use Rattle.nr_ldpcenc.specs.{Codeword.filler, Rows.block_checks}
use Rattle.nr_interleave.specs.Interleaving.{seat_of}
use Rattle.nr_peel.specs.{Closure.Within, Closure.any_below, Closure.closure, Slices.slice}
use Rattle.nr_ratematch.specs.Selection.{Circular, place_of}
use Rattle.nr_segment.specs.Plan.{word_size}
use Rattle.nr_blockdesk.specs.{Explains.Reception, Explains.heard_at, Explains.reception, Heard.heard_of, Heard.heard_record}
use Rattle.nr_blockdesk.specs.{Link.IsLink, Link.Link, Outcome.given, Outcome.is_fixed_at, Outcome.left, Sent.tx_said}
use Rattle.nr_blockdesk.specs.{PlacesLaws.is_heard_at, PlacesLaws.is_received, declared.heard.Heard.Heard}
use Rattle.nr_transmission.specs.declared.tx.Tx.{Tx}

-- one of the first n places of a part of e places that pass a test is a position
abbrev pub is_brought : Circular → ℕ → ℕ → ℕ → (ℕ → Bool) → ℕ → ℕ → Bool
is_brought b rv qm e arrived n p = any_below (λ m. arrived m && (place_of b rv (seat_of qm e m) == p)) n

-- each round is told the positions of the places that arrived in it
abbrev pub AreTold : Circular → ℕ → ℕ → List ℕ → List ℕ → List ℕ → Type 0
AreTold b rv qm arrived old new = (j p : ℕ) → j < 64
    → slice new j p ≡ (slice old j p || is_brought b rv qm (length arrived) (slice arrived j) (length arrived) p)

-- After one more reception the positions of a code block are heard that were heard before it. So are those of the places of
-- the code block's part at which a bit was received.
abbrev pub ReceptionsTell : Type 0
ReceptionsTell = (link : Link) (list : List Reception) (tx : Tx) (lengths : List ℕ) (heard : List Heard) (r p : ℕ)
    → IsLink link → tx_said link tx ≡ Ok lengths → length heard ≡ tx.g → r < link.plan.c
    → p < word_size link.graph link.plan
    → is_heard_at link (list ++ reception tx heard ∷ []) r p
    ≡ (is_heard_at link list r p || is_brought link.buffer tx.rv tx.qm (slice_index lengths r)
    (λ m. is_received (heard_at heard (sum (take r lengths) + m))) (slice_index lengths r) p)

-- A set has the positions of code block r that are fixed after some receptions. It takes the positions that one more reception
-- tells, and is closed. Then it has those that are fixed after that reception too.
abbrev pub SlicesFollow : Type 0
SlicesFollow = (link : Link) (list : List Reception) (tx : Tx) (lengths : List ℕ) (heard : List Heard) (r : ℕ)
    (known told closed : ℕ → Bool) → IsLink link → tx_said link tx ≡ Ok lengths → length heard ≡ tx.g
    → r < link.plan.c
    → ((p : ℕ) → known p ≡ is_fixed_at link (heard_of (heard_record link list) r) p)
    → ((p : ℕ) → told p ≡ (known p || is_brought link.buffer tx.rv tx.qm (slice_index lengths r)
    (λ m. is_received (heard_at heard (sum (take r lengths) + m))) (slice_index lengths r) p))
    → ((p : ℕ) → closed p ≡ closure (block_checks link.table link.graph link.plan) told p)
    → (p : ℕ) → closed p ≡ is_fixed_at link (heard_of (heard_record link (list ++ reception tx heard ∷ [])) r) p

-- a set has the positions of a code block that were given, and none that isn't fixed
pub record IsBetween (link : Link) (list : List Reception) (r : ℕ) (known : ℕ → Bool) : Type 0 where
  pub given : Within (given link (heard_of (heard_record link list) r)) known
  pub fixed : Within known (is_fixed_at link (heard_of (heard_record link list) r))

-- Such a set takes the positions that one more reception tells, and more that are fixed by it. Then it is such a set after that
-- reception. Where it has what its closure has, it has what is fixed.
abbrev pub SlicesFollowBetween : Type 0
SlicesFollowBetween = (link : Link) (list : List Reception) (tx : Tx) (lengths : List ℕ) (heard : List Heard) (r : ℕ)
    (known told closed : ℕ → Bool) → IsLink link → tx_said link tx ≡ Ok lengths → length heard ≡ tx.g
    → r < link.plan.c
    → IsBetween link list r known
    → ((p : ℕ) → told p ≡ (known p || is_brought link.buffer tx.rv tx.qm (slice_index lengths r)
    (λ m. is_received (heard_at heard (sum (take r lengths) + m))) (slice_index lengths r) p))
    → Within told closed → Within closed (closure (block_checks link.table link.graph link.plan) told)
    → IsBetween link (list ++ reception tx heard ∷ []) r closed
    × ((p : ℕ) → closed p ≡ closure (block_checks link.table link.graph link.plan) told p
    → closed p ≡ is_fixed_at link (heard_of (heard_record link (list ++ reception tx heard ∷ [])) r) p)

-- how many positions a set lacks, if it has what is fixed below K', is how many are left
abbrev pub LackingIsLeft : Type 0
LackingIsLeft = (link : Link) (list : List Reception) (r : ℕ) (known : ℕ → Bool)
    → ((p : ℕ) → p < link.plan.kdash → known p ≡ is_fixed_at link (heard_of (heard_record link list) r) p)
    → left link (heard_record link list) r ≡ count_by (λ p. not (known p)) (range_with_len 0 link.plan.kdash)

-- before any reception the fillers are such a set
abbrev pub FillersAreBetween : Type 0
FillersAreBetween = (link : Link) (r : ℕ) → IsLink link → r < link.plan.c
    → IsBetween link [] r (filler link.plan.kdash link.plan.k)
