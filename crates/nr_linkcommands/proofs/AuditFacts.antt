-- The lines of `audit`, and its text over the rounds of processes.
use Rattle.nr_linkcommands.proofs.Common.{All, All-head, Bool, HasBlock, Link, List, None, Option, Reception, SenderView, Some}
use Rattle.nr_linkcommands.proofs.Common.{Transmission, [], arith, audit_line, bit, by_sender, cond, false, flat_map-append, get_or}
use Rattle.nr_linkcommands.proofs.Common.{head_of, left, length, length-append, nat_tests, of_process, received_of, receptions_of}
use Rattle.nr_linkcommands.proofs.Common.{◌+◌, ◌<◌, ◌∷◌, ◌≡◌, ◌≤◌, ◌==◌, filter-append, HeardBits}
use Rattle.nr_linkcommands.proofs.Common.{heard_of, heard_record, IsLink, HasHeard, audit_block, order_line, audit_words, IsProcess}
use Rattle.nr_linkcommands.proofs.Common.{refl, round_lines, round_of, sender_of, sym, take, take_more, true, ℕ, ◌++◌}
use Rattle.nr_linkcommands.specs.AuditLines.{steps_of, stuck_line, unfixed_positions}
use Rattle.nr_linkcommands.proofs.{RunLineFacts.some-lines, RoundTextFacts.round-all}
use Rattle.nr_crcattach.specs.Attachment.{attached_length}
use Rattle.nr_segment.specs.Plan.{PlansAreSound}
use Rattle.nr_ldpcenc.specs.Rows.{Checks, block_checks}
use Rattle.nr_peel.specs.Peeling.{IsPeeled, Peeling, checks_for, core_size, gained_in, unknown_in}
use Rattle.std.proofs.Common.{ap, count_by, nat_lt, not, ◌&&◌, ◌∙◌}
use Rattle.std.proofs.lemmas.Bool.{or_left}
use Rattle.std.specs.List.{filter, range_with_len}
unfoldable use Rattle.nr_peel.specs.Closure.{closure}
use Rattle.nr_blockdesk.specs.{Outcome.given, Outcome.is_fixed_at, Receiving.ReceiverView}
use Rattle.nr_files.specs.Rounds.{first_block}

-- the line of a code block that is fixed, and of one that is not
pub audit_line-order : (n : ℕ) (link : Link) (records : List HeardBits) (r : ℕ) → left link records r ≡ 0
    → audit_line n link records r ≡ order_line n r (steps_of link (heard_of records r))
unfolding audit_line
audit_line-order n link records r none = grind (arith, nat_tests)

pub audit_line-stuck : (n : ℕ) (link : Link) (records : List HeardBits) (r : ℕ) → (left link records r == 0) ≡ false
    → audit_line n link records r ≡ stuck_line n r (unfixed_positions link (heard_of records r))
unfolding audit_line
audit_line-stuck n link records r some = grind arith

-- the peeler of a code block, which records its steps: the record of what was received gives its positions
pub record IsPeelerOf (link : Link) (s : HeardBits) (p : Peeling) : Type 0 where
  pub table : p.table ≡ link.table
  pub graph : p.graph ≡ link.graph
  pub numbers : p.numbers ≡ link.plan
  pub positions : (k : ℕ) → bit p.given k ≡ given link s k
  pub peeled : IsPeeled p
  pub recorded : p.recorded ≡ true

checks-are : (link : Link) (s : HeardBits) (p : Peeling) → IsPeelerOf link s p
    → checks_for p ≡ block_checks link.table link.graph link.plan
checks-are link s p of = rw (of.table, of.graph, of.numbers) refl

known-fixed : (link : Link) (s : HeardBits) (p : Peeling) → IsPeelerOf link s p → (k : ℕ)
    → bit p.known k ≡ is_fixed_at link s k
known-fixed link s p of k =
    of.peeled.closed k (or_left p.recorded (nat_lt k (core_size p)) of.recorded)
    ∙ ap (λ (c : Checks). closure c (bit p.given) k) (checks-are link s p of)
    ∙ ap (λ (S : ℕ → Bool). closure (block_checks link.table link.graph link.plan) S k) (λ i q. of.positions q i)

-- the positions that it gained are the steps, and those that it does not know are not fixed
pub gained-steps : (link : Link) (s : HeardBits) (p : Peeling) → IsPeelerOf link s p
    → gained_in p.known p.given ≡ steps_of link s
gained-steps link s p of =
    ap (λ (f : ℕ → Bool). count_by f (range_with_len 0 (length p.given)))
    (λ i q. known-fixed link s p of q i && not (of.positions q i))
    ∙ ap (λ n. count_by (λ q. is_fixed_at link s q && not (given link s q)) (range_with_len 0 n))
    (of.peeled.given_long ∙ ap (λ (c : Checks). c.size) (checks-are link s p of))

pub unknown-unfixed : (link : Link) (s : HeardBits) (p : Peeling) → IsPeelerOf link s p
    → unknown_in p.known ≡ unfixed_positions link s
unknown-unfixed link s p of =
    ap (λ (f : ℕ → Bool). filter f (range_with_len 0 (length p.known))) (λ i q. not (known-fixed link s p of q i))
    ∙ ap (λ n. filter (λ q. not (is_fixed_at link s q)) (range_with_len 0 n))
    (of.peeled.known_long ∙ ap (λ (c : Checks). c.size) (checks-are link s p of))

-- what is received of a process with one more transmission, of this process or of another
pub received-next : (p : ℕ) (sender : SenderView) (xs : List Transmission) (i : ℕ) (x none : Transmission) → i < length xs
    → x ≡ get_or xs i none
    → receptions_of sender (of_process p (take (i + 1) xs)) ≡ receptions_of sender (of_process p (take i xs))
    ++ receptions_of sender (of_process p (x ∷ []))
received-next p sender xs i x none within is =
    rw (take_more xs i none within, sym is, filter-append (λ y. y.process == p) (take i xs) (x ∷ []))
    (flat_map-append (received_of sender) (of_process p (take i xs)) (of_process p (x ∷ [])))

-- a block's lines by the receiver that received this list
pub audit_block-heard : (head : List ℕ) (n : ℕ) (sender : SenderView) (list : List Reception) (receiver : ReceiverView)
    → HasHeard sender list receiver
    → audit_block head n receiver.link receiver.heard ≡ audit_block head n sender.link (heard_record sender.link list)
audit_block-heard head n sender list receiver has = grind arith

-- a line that follows its first words is not empty
pub behind-some : (head : List ℕ) (n : ℕ) (link : Link) (records : List HeardBits) (r : ℕ)
    → 0 < length (head ++ audit_line n link records r)
unfolding audit_line order_line stuck_line
behind-some head n link records r = grind (arith, nat_tests, length-append)

-- a block's lines are not empty, since there is a code block
pub audit_block-some : PlansAreSound → (head : List ℕ) (n : ℕ) (link : Link) (records : List HeardBits) → IsLink link
    → 0 < length (audit_block head n link records)
audit_block-some sound head n link records is =
    some-lines (λ r. head ++ audit_line n link records r) link.plan.c (behind-some head n link records)
    (sound link.graph (attached_length link.a) link.plan is.planned).some

-- ---- the rounds of processes

-- the block of a round of process p
abbrev pub block_of : Bool → ℕ → List Transmission → Option ℕ
block_of b p round = cond b (first_block round) (Some (p + 1))

-- the block that a search names, if the schedule names processes
pub named-block-of : (b : Bool) (named : Option ℕ) (p : ℕ) (round : List Transmission)
    → (b ≡ true → named ≡ first_block round)
    → cond b named (Some (p + 1)) ≡ block_of b p round
named-block-of true named p round is = is refl
named-block-of false named p round is = refl

-- it is one of the blocks
first-named : (blocks number : ℕ) (round : List Transmission) → All (HasBlock blocks) round
    → first_block round ≡ Some number → (1 ≤ number) × (number ≤ blocks)
first-named blocks number [] all is = absurd (cc)
first-named blocks number (x ∷ more) all is =
    let same : number ≡ x.block = cc in
    let named = All-head (HasBlock blocks) x more all in
    (omega (arith, same, named.0), omega (arith, same, named.1))

pub round-named : (b : Bool) (blocks number p : ℕ) (before : List Transmission) → All (HasBlock blocks) before
    → IsProcess b blocks p
    → block_of b p (round_of p before) ≡ Some number → (1 ≤ number) × (number ≤ blocks)
round-named true blocks number p before all placed is =
    first-named blocks number (round_of p before) (round-all (HasBlock blocks) p before all) is
round-named false blocks number p before all placed is =
    let same : number ≡ p + 1 = cc in
    (omega (arith, same), omega (arith, same, placed))

-- the lines of a round, by its block and that block's sender
pub lines-some : (b : Bool) (senders : List SenderView) (p number : ℕ) (round : List Transmission) (sender : SenderView)
    → block_of b p round ≡ Some number → sender_of senders number ≡ Some sender
    → round_lines b (audit_words b) senders p round
    ≡ audit_block (head_of b p) number sender.link (heard_record sender.link (receptions_of sender round))
lines-some true senders p number [] sender is there = absurd (cc)
lines-some true senders p number (x ∷ more) sender is there = grind arith
lines-some false senders p number round sender is there = grind arith

-- a process that is in no round has none
pub lines-none : (b : Bool) (senders : List SenderView) (p : ℕ) (round : List Transmission) → block_of b p round ≡ None
    → round_lines b (audit_words b) senders p round ≡ []
lines-none true senders p [] none = refl
lines-none true senders p (x ∷ more) none = absurd (cc)
lines-none false senders p round none = absurd (cc)

-- the lines of a round are not empty
pub lines-there : PlansAreSound → (b : Bool) (senders : List SenderView) (p number : ℕ) (round : List Transmission)
    (sender : SenderView)
    → block_of b p round ≡ Some number → sender_of senders number ≡ Some sender → IsLink sender.link
    → 0 < length (round_lines b (audit_words b) senders p round)
lines-there sound b senders p number round sender is there linked = grind (arith, lines-some, audit_block-some)

-- a transmission has no lines
pub unsaid : (o : Option SenderView) → by_sender {X = ℕ} o (λ sender. []) ≡ []
unsaid None = refl
unsaid (Some sender) = refl
