-- The laws of the outcome of a list of receptions: what a search through all lists of n bits finds. Then what is true
-- if nothing was received.
use Rattle.nr_blockdesk.proofs.Common.{◌≡◌, ◌<◌, ◌∷◌, outcome_of, verdict_on, OneExplains, arrived_bit, sum_by-cons}
use Rattle.nr_blockdesk.proofs.Common.{zero, ◌∙◌, ◌≤◌, ◌↔◌, bit_lists, and_parts, Reception, all_fixed, delivered}
use Rattle.nr_blockdesk.proofs.Common.{Bool, length, arith, false, Option, eq-eqb, agrees, IsLink, given, filler, IsSound, closure}
use Rattle.nr_blockdesk.proofs.Common.{subst, ◌+◌, All-nil, Explains, explains, heard_of, hearings, IsBlock, first_at, is_heard}
use Rattle.nr_blockdesk.proofs.Common.{◌==◌, true≢false, heard_record, is_fixed_at, what_arrives, block_checks, PlansAreSound}
use Rattle.nr_blockdesk.proofs.Common.{◌||◌, count_by, list_all, All-cons, and_from, eqb-true, HeardBits, record_of, word_size}
use Rattle.nr_blockdesk.proofs.Common.{range_with_len, contradiction, open_still, DeliveredIsOnly, ErasuresAreSafe, attached_length}
use Rattle.nr_blockdesk.proofs.Common.{false_from_ne_true, ExplainedIsDelivered, ExplainedNeverContradicts, list_all-from_AllPass}
use Rattle.nr_blockdesk.proofs.Common.{ℕ, suc, true, cond, List, [], refl, sym, ap, Some, None, find, Link, Tx}
use Rattle.nr_blockdesk.proofs.Common.{ExplainsByRecord, IsDecided}
use Rattle.nr_blockdesk.specs.ReceiverLaws.{OutcomesAreDecided}
use Rattle.nr_blockdesk.{specs.ReceiverLaws.NothingIsOpen, specs.ReceiverLaws.NothingLeavesAll, proofs.RangeTestFacts.range_all}
use Rattle.nr_blockdesk.proofs.{ClosureDecisionFacts.every_fixed, RecordFacts.none_heard, RecordFacts.record-at}
use Rattle.nr_blockdesk.proofs.LinkFacts.{arrived-place}
use Rattle.std.{specs.List.All, specs.List.Contains, proofs.lemmas.List.Elements.All-contains}
use Rattle.nr_bitvec.proofs.BitListFacts.{bit_lists-has, bit_lists-long}
use Rattle.nr_ldpcenc.proofs.CodewordFacts.{has_some}
use Rattle.nr_peel.specs.Laws.{NothingHeardFixesNothing}
use Rattle.nr_shifttable.specs.Accepted.{entries_in}

-- what is found passes the test, and every other test that all pass
pub find_passes : {X : Type 0} (t q : X → Bool) (xs : List X) (x : X) → list_all q xs ≡ true → find t xs ≡ Some x
    → (t x ≡ true) × (q x ≡ true)
find_passes t q [] x all found = cc found
find_passes t q (y ∷ ys) x all found = grind (arith, and_parts, find_passes t q ys x)

abbrev pub is_long : ℕ → List Bool → Bool
is_long n bits = length bits == n

-- each of all lists of n bits has n bits
pub blocks_long : (n : ℕ) → list_all (is_long n) (bit_lists n) ≡ true
blocks_long n = list_all-from_AllPass (is_long n) (bit_lists n)
    (λ k d inside. eq-eqb _ n (bit_lists-long n k d inside))

find_rest : {X : Type 0} (b : Bool) (x : X) (o : Option X) → cond b (Some x) o ≡ None → (b ≡ false) × (o ≡ None)
find_rest b x o none = grind arith

all_fail : {X : Type 0} (t : X → Bool) (xs : List X) → find t xs ≡ None → All (λ x. t x ≡ false) xs
all_fail t [] none = All-nil (λ x. t x ≡ false)
all_fail t (x ∷ xs) none =
    let rest = find_rest (t x) x (find t xs) none in All-cons (λ y. t y ≡ false) x xs rest.0 (all_fail t xs rest.1)

-- if none is found, no list of n bits passes
pub none_passes : (n : ℕ) (t : List Bool → Bool) → find t (bit_lists n) ≡ None → (y : List Bool) → length y ≡ n
    → t y ≡ false
none_passes n t none y long = All-contains (λ bits. t bits ≡ false) (bit_lists n) y (all_fail t (bit_lists n) none)
    (subst (λ m. Contains (bit_lists m) y) long (bit_lists-has y))

-- what an outcome says: if a block is delivered, all is fixed and the block was found
pub was-found : (all : Bool) (o : Option (List Bool)) (x : List Bool) → cond all (verdict_on o) open_still ≡ delivered x
    → (all ≡ true) × (o ≡ Some x)
was-found all o x e = grind arith

was-none : (all : Bool) (o : Option (List Bool)) → cond all (verdict_on o) open_still ≡ contradiction → o ≡ None
was-none all o e = grind arith

pub was-open : (all : Bool) (o : Option (List Bool)) → cond all (verdict_on o) open_still ≡ open_still → all ≡ false
was-open all o e = grind arith

pub open-exactly : (link : Link) (list : List Reception)
    → (outcome_of link list ≡ open_still) ↔ (all_fixed link (heard_record link list) ≡ false)
unfolding outcome_of
open-exactly link list = (λ e. was-open _ _ e, λ e. rw e refl)

pub delivered-fixed : (link : Link) (list : List Reception) (x : List Bool) → outcome_of link list ≡ delivered x
    → all_fixed link (heard_record link list) ≡ true
unfolding outcome_of
delivered-fixed link list x e = (was-found _ _ x e).0

pub delivered-only : OneExplains → DeliveredIsOnly
unfolding outcome_of
delivered-only one link list x is accepted e =
    let parts = was-found (all_fixed link (heard_record link list)) (find (explains link list) (bit_lists link.a)) x e in
    let passes = find_passes (explains link list) (is_long link.a) (bit_lists link.a) x (blocks_long link.a) parts.1 in
    let whole : IsBlock link x = eqb-true (length x) link.a passes.1 in
    record {
      is_block = whole;
      explains = passes.0;
      only = λ y whole-y ey. one link list y x is accepted whole-y whole ey passes.0 parts.0;
    }

pub never_contradicts : ExplainedNeverContradicts
unfolding outcome_of
never_contradicts link list y whole explained e = grind (arith, was-none, none_passes)

pub explained_delivered : OneExplains → ExplainedIsDelivered
unfolding outcome_of
explained_delivered one link list y is accepted whole explained all =
    rw all (go (find (explains link list) (bit_lists link.a)) refl)
  where
    go : (o : Option (List Bool)) → find (explains link list) (bit_lists link.a) ≡ o
        → verdict_on (find (explains link list) (bit_lists link.a)) ≡ delivered y
    go None e = absurd (true≢false (sym explained ∙ none_passes link.a (explains link list) e y whole))
    go (Some x) e =
        let passes = find_passes (explains link list) (is_long link.a) (bit_lists link.a) x (blocks_long link.a) e in
        rw (e, one link list x y is accepted (eqb-true (length x) link.a passes.1) whole passes.0 explained all) refl

-- the outcome of a list is what its record decides
pub outcomes_decided : ExplainsByRecord → OutcomesAreDecided
unfolding outcome_of
outcomes_decided by_record link list is accepted =
    go (all_fixed link (heard_record link list)) (find (explains link list) (bit_lists link.a)) refl refl
  where
    go : (all : Bool) (o : Option (List Bool)) → all_fixed link (heard_record link list) ≡ all
        → find (explains link list) (bit_lists link.a) ≡ o
        → IsDecided link (heard_record link list) (cond all (verdict_on o) open_still)
    go false o none found = none
    go true None all found = (
      all,
      λ y whole by. true≢false (sym ((by_record link list y is accepted whole).1 by)
          ∙ none_passes link.a (explains link list) found y whole),
    )
    go true (Some x) all found =
        let passes = find_passes (explains link list) (is_long link.a) (bit_lists link.a) x (blocks_long link.a) found in
        let whole : IsBlock link x = eqb-true (length x) link.a passes.1 in
        (all, whole, (by_record link list x is accepted whole).0 passes.0)

arrived-agrees : (mark b : Bool) → agrees (arrived_bit mark b) b ≡ true
arrived-agrees mark b = grind arith

-- a transport block explains what arrives of it over a link that erases
pub arrived-explained : (link : Link) (block : List Bool) (txs : List (Tx × List Bool))
    → Explains link (what_arrives link block txs) block
unfolding explains
arrived-explained link block [] = refl
arrived-explained link block (x ∷ xs) =
    grind (arith, and_from, range_all, arrived-place, arrived-agrees, arrived-explained link block xs)

pub erasures_safe : OneExplains → ErasuresAreSafe
erasures_safe one link block txs is whole accepted =
    let explained = arrived-explained link block txs in
    record {
      no_contradiction = never_contradicts link (what_arrives link block txs) block whole explained;
      sent_one = λ x e. sym ((delivered-only one link (what_arrives link block txs) x is accepted e).only block whole explained);
    }

-- no position below K' is fixed
none_fixed : NothingHeardFixesNothing → PlansAreSound → (link : Link) (r p : ℕ) → IsLink link → r < link.plan.c
    → p < link.plan.kdash
    → is_fixed_at link (heard_of (heard_record link []) r) p ≡ false
unfolding hearings
none_fixed nothing plans link r p is block low =
    let s : HeardBits = heard_of (heard_record link []) r in
    let same : s ≡ record_of (word_size link.graph link.plan) [] = record-at link [] r block in
    let sets : given link s ≡ filler link.plan.kdash link.plan.k =
    λ i k. (ap (λ (h : HeardBits). is_heard (first_at h k) || filler link.plan.kdash link.plan.k k) same
    ∙ ap (λ o. is_heard o || filler link.plan.kdash link.plan.k k) (none_heard (word_size link.graph link.plan) k)) i in
    ap (λ (S : ℕ → Bool). closure (block_checks link.table link.graph link.plan) S p) sets
    ∙ nothing link.table link.graph (attached_length link.a) link.plan p is.table
    (has_some (length (entries_in link.graph link.table)) is.there)
    (plans link.graph (attached_length link.a) link.plan is.planned) low

pub nothing_open : NothingHeardFixesNothing → PlansAreSound → NothingIsOpen
unfolding outcome_of
nothing_open nothing plans link is =
    ap (λ b. cond b (verdict_on (find (explains link []) (bit_lists link.a))) open_still) (false_from_ne_true _ never)
  where
    sound : IsSound link.graph (attached_length link.a) link.plan
    sound = plans link.graph (attached_length link.a) link.plan is.planned

    never : all_fixed link (heard_record link []) ≡ true → ⊥
    never all =
        let low : 0 < link.plan.kdash = omega (arith, sound.unpunctured) in
        let is-fixed : is_fixed_at link (heard_of (heard_record link []) 0) 0 ≡ true =
        every_fixed link (heard_record link []) all 0 sound.some 0 low in
        true≢false (sym is-fixed ∙ none_fixed nothing plans link 0 0 is sound.some low)

-- if each number of a range passes a test, all are counted
pub count_full : (t : ℕ → Bool) (a n : ℕ) → ((m : ℕ) → a ≤ m → m < a + n → t m ≡ true)
    → count_by t (range_with_len a n) ≡ n
count_full t a zero each = refl
count_full t a (suc n) each =
    let first : t a ≡ true = each a (omega arith) (omega arith) in
    let one : ◌≡◌ {A = ℕ} (cond (t a) 1 0) 1 = ap (λ b. cond b 1 0) first in
    let rest = count_full t (a + 1) n (λ m low high. each m (omega arith) (omega arith)) in
    omega (arith, sum_by-cons (λ x. cond (t x) 1 0) a (range_with_len (a + 1) n), one, rest)

-- so all K' are left
pub nothing-leaves_all : NothingHeardFixesNothing → PlansAreSound → NothingLeavesAll
nothing-leaves_all nothing plans link records r is of block = grind (arith, count_full, none_fixed)
