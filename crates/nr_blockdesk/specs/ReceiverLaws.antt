-- Laws of receptions and their outcome, whoever receives.
use Rattle.std.specs.Prelude.{◌≡◌, ◌≢◌, ◌↔◌, ℕ, ◌<◌, Bool, true, false, Ok, IsOk, List, [], length, map}
use Rattle.std.specs.Prelude.{◌∷◌, ◌++◌, All, zip}
use Rattle.nr_bitvec.specs.Bit.{bit}
use Rattle.nr_harqbuf.specs.Record.{HeardBits}
use Rattle.nr_peel.specs.Closure.{AgreeOn}
use Rattle.nr_shifttable.specs.Accepted.{Entries, IsTable}
use Rattle.nr_blockdesk.specs.Outcome.{ExplainedBy, IsDecided, Verdict, all_fixed, contradiction, delivered, is_fixed_at, left}
use Rattle.nr_blockdesk.specs.Explains.{Explains, IsAccepted, Reception, reception}
use Rattle.nr_blockdesk.specs.{Heard.IsRecordOf, Heard.heard_more, Heard.heard_of, Heard.heard_record, declared.heard.Heard.Heard}
use Rattle.nr_blockdesk.specs.Link.{IsBlock, IsLink, Link, link_said, word}
use Rattle.nr_blockdesk.specs.{Outcome.open_still, Outcome.outcome_of, Sent.SenderView, Sent.sending_said, Sent.sent, Sent.tx_said}
use Rattle.nr_blockdesk.specs.declared.heard.Heard.TheVariants as heard
use Rattle.nr_transmission.specs.declared.{settings.Settings.Settings, tx.Tx.Tx}

-- the record says which transport blocks explain all that arrived
abbrev pub ExplainsByRecord : Type 0
ExplainsByRecord = (link : Link) (list : List Reception) (block : List Bool) → IsLink link → All (IsAccepted link) list
    → IsBlock link block → Explains link list block ↔ ExplainedBy link (heard_record link list) block

-- one more accepted reception makes the record of the longer list
abbrev pub RecordsContinue : Type 0
RecordsContinue = (link : Link) (list : List Reception) (records : List HeardBits) (x : Reception) → IsLink link
    → IsAccepted link x → IsRecordOf link list records
    → IsRecordOf link (list ++ x ∷ []) (heard_more link records x)

-- two transport blocks that explain all that arrived have the same bits wherever a position is fixed
abbrev pub ExplainersAgree : Type 0
ExplainersAgree = (link : Link) (list : List Reception) (x y : List Bool) (r : ℕ) → IsLink link
    → All (IsAccepted link) list → IsBlock link x → IsBlock link y → Explains link list x → Explains link list y
    → r < link.plan.c
    → AgreeOn (is_fixed_at link (heard_of (heard_record link list) r)) (bit (word link x r)) (bit (word link y r))

-- if every position below K' is fixed, at most one transport block explains all that arrived
abbrev pub OneExplains : Type 0
OneExplains = (link : Link) (list : List Reception) (x y : List Bool) → IsLink link → All (IsAccepted link) list
    → IsBlock link x → IsBlock link y → Explains link list x → Explains link list y
    → all_fixed link (heard_record link list) ≡ true → x ≡ y

-- a record decides one outcome, whether some list has it or not
abbrev pub DecidedIsOnly : Type 0
DecidedIsOnly = (link : Link) (records : List HeardBits) (v w : Verdict) → IsLink link
    → IsDecided link records v → IsDecided link records w → v ≡ w

-- the outcome of a list of receptions is what its record decides
abbrev pub OutcomesAreDecided : Type 0
OutcomesAreDecided = (link : Link) (list : List Reception) → IsLink link → All (IsAccepted link) list
    → IsDecided link (heard_record link list) (outcome_of link list)

-- what is delivered is a transport block that explains all that arrived, and the only one
pub record IsOnlyExplainer (link : Link) (list : List Reception) (x : List Bool) : Type 0 where
  pub is_block : IsBlock link x
  pub explains : Explains link list x
  pub only : (y : List Bool) → IsBlock link y → Explains link list y → y ≡ x

abbrev pub DeliveredIsOnly : Type 0
DeliveredIsOnly = (link : Link) (list : List Reception) (x : List Bool) → IsLink link → All (IsAccepted link) list
    → outcome_of link list ≡ delivered x → IsOnlyExplainer link list x

-- if every position below K' is fixed and a transport block explains all that arrived, it is delivered
abbrev pub ExplainedIsDelivered : Type 0
ExplainedIsDelivered = (link : Link) (list : List Reception) (y : List Bool) → IsLink link → All (IsAccepted link) list
    → IsBlock link y → Explains link list y → all_fixed link (heard_record link list) ≡ true
    → outcome_of link list ≡ delivered y

-- if a transport block explains all that arrived, the outcome is no contradiction
abbrev pub ExplainedNeverContradicts : Type 0
ExplainedNeverContradicts = (link : Link) (list : List Reception) (y : List Bool)
    → IsBlock link y → Explains link list y → outcome_of link list ≢ contradiction

-- what arrives of a bit over a link that erases: the bit, or nothing if the place is marked
abbrev pub arrived_bit : Bool → Bool → Heard
arrived_bit true b = heard.Erased
arrived_bit false true = heard.One
arrived_bit false false = heard.Zero

-- what arrives of a transport block's transmissions, each with the marks of its erased places
abbrev pub what_arrives : Link → List Bool → List (Tx × List Bool) → List Reception
what_arrives link block txs =
    map (λ x. reception x.0 (map (λ at. arrived_bit at.0 at.1) (zip x.1 (sent link x.0 block)))) txs

-- over erasures alone the outcome is no contradiction, and a block that is delivered is the one sent
pub record IsSafeOverErasures (link : Link) (block : List Bool) (txs : List (Tx × List Bool)) : Type 0 where
  pub no_contradiction : outcome_of link (what_arrives link block txs) ≢ contradiction
  pub sent_one : (x : List Bool) → outcome_of link (what_arrives link block txs) ≡ delivered x → x ≡ block

abbrev pub ErasuresAreSafe : Type 0
ErasuresAreSafe = (link : Link) (block : List Bool) (txs : List (Tx × List Bool)) → IsLink link → IsBlock link block
    → All (IsAccepted link) (what_arrives link block txs) → IsSafeOverErasures link block txs

-- a transmission that both ends accept, with a mark for each of its places
abbrev pub IsMarked : Link → Tx × List Bool → Type 0
IsMarked link x = IsOk (tx_said link x.0) × (length x.1 ≡ x.0.g)

-- A receiver has the sender's link and takes all that arrives of what the sender sends. Over erasures alone the outcome
-- is no contradiction, and a block that is delivered is the sender's.
pub record AreEnds (sender : SenderView) (link : Link) (txs : List (Tx × List Bool)) : Type 0 where
  pub same : link ≡ sender.link
  pub accepted : All (IsAccepted link) (what_arrives link sender.block txs)
  pub safe : IsSafeOverErasures link sender.block txs

-- a sender and a receiver that agreed on a table, the settings and the size of a transport block are such ends
abbrev pub EndsAreSafe : Type 0
EndsAreSafe = (table : Entries) (settings : Settings) (block : List Bool) (sender : SenderView) (link : Link)
    (txs : List (Tx × List Bool)) → IsTable table → sending_said table settings block ≡ Ok sender
    → link_said table settings (length block) ≡ Ok link → All (IsMarked link) txs → AreEnds sender link txs

-- if nothing is received the outcome is open
abbrev pub NothingIsOpen : Type 0
NothingIsOpen = (link : Link) → IsLink link → outcome_of link [] ≡ open_still

-- if nothing is received no position below K' of a code block is fixed, so K' are left
abbrev pub NothingLeavesAll : Type 0
NothingLeavesAll = (link : Link) (records : List HeardBits) (r : ℕ) → IsLink link → IsRecordOf link [] records
    → r < link.plan.c → left link records r ≡ link.plan.kdash
