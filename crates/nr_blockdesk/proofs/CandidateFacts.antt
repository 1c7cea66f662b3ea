-- What a record decides, the one transport block that can explain it, and how a receiver keeps that.
use Rattle.nr_blockdesk.proofs.Common.{◌≡◌, ◌≢◌, ◌++◌, ◌∷◌, ℕ, ◌+◌, ◌-◌, ◌*◌, ◌/◌, ◌%◌}
use Rattle.nr_blockdesk.proofs.Common.{◌<◌, ◌≤◌, ◌==◌, ◌||◌, ◌&&◌, nat_lt, nat_le, Bool, true, false, not}
use Rattle.nr_blockdesk.proofs.Common.{cond, List, [], length, get_or, map, take, replicate, All, refl, sym, ap, subst, ◌∙◌}
use Rattle.nr_blockdesk.proofs.Common.{⊎_elim, length-append, arith, ◌↔◌, Option, Some, None, count_by, find, list_all}
use Rattle.nr_blockdesk.proofs.Common.{range_with_len, cases_lt, cases_eq, false≢true, nat_tests, ext_get_or, get_or-map}
use Rattle.nr_blockdesk.proofs.Common.{get_or-take, length-map, length-take-le, get_or_append_left, get_or_past, same_lists}
use Rattle.nr_blockdesk.proofs.Common.{fill_by_all, get_or-map-range_with_len, length-map-range_with_len, and-false, bit}
use Rattle.nr_blockdesk.proofs.Common.{BlocksLengthen, attached, block_poly, attached_length, crc_of, degree, high_first, HeardBits}
use Rattle.nr_blockdesk.proofs.Common.{first_at, first_heard, is_heard, record_of, codeword, filler, Checks, Meets, block_checks}
use Rattle.nr_blockdesk.proofs.Common.{word_size, IsSound, Numbers, PlansAreSound, AgreesWith, GivesAll, IsPeeled, IsSameCode}
use Rattle.nr_blockdesk.proofs.Common.{IsStarted, KeepsAllWords, Peeling, checks_for, left_of, CodeBlocksAreLong, code_bits}
use Rattle.nr_blockdesk.proofs.Common.{part_of, share, Explains, Reception, explains, IsRecordOf, heard_of, heard_record, hearings}
use Rattle.nr_blockdesk.proofs.Common.{IsBlock, IsLink, Link, WordsArePlain, word, bit_lists, ExplainedBy, IsDecided, Verdict}
use Rattle.nr_blockdesk.proofs.Common.{DeliveredIsOnly, ExplainedIsDelivered, ExplainsByRecord, AreStoresFor, peelers_of}
use Rattle.nr_blockdesk.proofs.Common.{peeling_of, verdict, Fits, IsDesk, IsNews, IsRead, IsTied, AreWords, IsCandidate, kept_words}
use Rattle.nr_blockdesk.proofs.Common.{word_at, positions_on, CodeBlock, Outcome, get_or-append_seam, take-append_seam, all_fixed}
use Rattle.nr_blockdesk.proofs.Common.{closure, contradiction, delivered, is_fixed_at, left, lt-ltb, outcome_of, verdict_on}
use Rattle.nr_graphpick.specs.Graph.{info_cols_of}
use Rattle.nr_peel.specs.Peeling.{core_size}
use Rattle.std.proofs.lemmas.Bool.{or_right}
use Rattle.nr_blockdesk.{specs.inside.Receiving.IsSized, proofs.ClosureDecisionFacts.every_fixed, proofs.RecordFacts.none_heard}
use Rattle.nr_blockdesk.proofs.EncodingFacts.{code-shared, k-fits, part-inside}
use Rattle.nr_blockdesk.proofs.HearingFacts.{news-kept, same-checks, tied-news, tied-still}
use Rattle.nr_blockdesk.proofs.ReceptionFacts.{none-of, peeler-of}
use Rattle.std.{specs.Prelude.IsTrue, specs.Prelude.unwrap_or, proofs.lemmas.Nat.mod_below}
use Rattle.std.proofs.lemmas.List.Folds.{fold-map, list_all-map}
use Rattle.std.proofs.Math.Nat.{div-lt_iff_lt-mul, mod-add-div, mul_comm}
use Rattle.nr_blockdesk.specs.declared.outcome.Outcome.TheVariants as outcome

-- an outcome that a record decides is that of each list that has this record
pub outcome-of_record : ExplainsByRecord → ExplainedIsDelivered → DeliveredIsOnly → (link : Link) (list : List Reception)
    (records : List HeardBits) (o : Outcome) → IsLink link → IsRecordOf link list records → IsDecided link records (verdict o)
    → verdict o ≡ outcome_of link list
unfolding outcome_of
outcome-of_record by_record delivers only link list records outcome.Open is of decided = rw (← of.same, decided) refl
outcome-of_record by_record delivers only link list records (outcome.Delivered b) is of decided =
    let all : all_fixed link (heard_record link list) ≡ true = rw (← of.same) decided.0 in
    sym (delivers link list b.items is of.accepted decided.1
    ((by_record link list b.items is of.accepted decided.1).1 (rw (← of.same) decided.2)) all)
outcome-of_record by_record delivers only link list records outcome.Contradiction is of decided =
    rw (← of.same, decided.0) (go (find (explains link list) (bit_lists link.a)) refl)
  where
    go : (o : Option (List Bool)) → find (explains link list) (bit_lists link.a) ≡ o
        → contradiction ≡ verdict_on (find (explains link list) (bit_lists link.a))
    go None e = rw e refl
    go (Some x) e =
        let one = only link list x is of.accepted (rw (← of.same, decided.0, e) refl) in
        absurd (decided.1 x one.is_block (rw of.same ((by_record link list x is of.accepted one.is_block).0 one.explains)))

-- what a peeler knows below K' is what its code block's record fixes
pub known-fixed : (link : Link) (s : HeardBits) (p : Peeling) → IsSound link.graph (attached_length link.a) link.plan
    → IsTied link s p → (k : ℕ) → k < link.plan.kdash → bit p.known k ≡ is_fixed_at link s k
known-fixed link s p sane tied k low =
    let core : core_size p ≡ (info_cols_of link.graph + 4) * link.plan.z = rw (tied.graph, tied.numbers) refl in
    let before : k < core_size p = omega (arith, core, sane.columns, sane.held, low) in
    let closed = tied.peeled.closed k (or_right p.recorded (nat_lt k (core_size p)) (lt-ltb k (core_size p) before)) in
    closed
    ∙ ap (λ (c : Checks). closure c (bit p.given) k) (same-checks link s p tied)
    ∙ ap (λ (S : ℕ → Bool). closure (block_checks link.table link.graph link.plan) S k) (λ i q. tied.positions q i)

-- a list of tests, and the numbers that they are of
count-first : (bits : List Bool) (q : ℕ → Bool) (n : ℕ) → n ≤ length bits → ((k : ℕ) → k < n → bit bits k ≡ q k)
    → count_by (λ b. not b) (take n bits) ≡ count_by (λ k. not (q k)) (range_with_len 0 n)
count-first bits q n within each =
    ap (count_by (λ b. not b))
    (fill_by_all q (take n bits) n false (length-take-le n bits within)
    (λ k below. get_or-take n bits k false below ∙ each k below))
    ∙ fold-map (λ a b. a + cond (not b) 1 0) q 0 (range_with_len 0 n)

pub sound-of : PlansAreSound → (link : Link) → IsLink link → IsSound link.graph (attached_length link.a) link.plan
sound-of sound link is = sound link.graph (attached_length link.a) link.plan is.planned

-- the same number is left
pub left-known : PlansAreSound → (link : Link) (s : HeardBits) (p : Peeling) → IsLink link → IsTied link s p
    → left_of p.numbers.kdash p.known ≡ count_by (λ k. not (is_fixed_at link s k)) (range_with_len 0 link.plan.kdash)
left-known sound link s p is tied =
    let sane = sound-of sound link is in
    let fits = k-fits link.graph link.plan sane.columns in
    let size : (checks_for p).size ≡ word_size link.graph link.plan = ap (λ (c : Checks). c.size) (same-checks link s p tied) in
    let long = tied.peeled.known_long in
    let within : link.plan.kdash ≤ length p.known = omega (arith, sane.held, fits, size, long) in
    ap (λ (n : Numbers). left_of n.kdash p.known) tied.numbers
    ∙ count-first p.known (is_fixed_at link s) link.plan.kdash within (λ k low. known-fixed link s p sane tied k low)

all-range : {X : Type 0} (p : X → Bool) (q : ℕ → Bool) (xs : List X) (d : X)
    → ((k : ℕ) → k < length xs → p (get_or xs k d) ≡ q k)
    → list_all p xs ≡ list_all q (range_with_len 0 (length xs))
all-range p q xs d each =
    sym (list_all-map (λ b. b) p xs)
    ∙ ap (list_all (λ b. b))
    (fill_by_all q (map p xs) (length xs) false (length-map xs p) (λ k below. get_or-map p xs k d false below ∙ each k below))
    ∙ list_all-map (λ b. b) q (range_with_len 0 (length xs))

-- each peeler knows all exactly if all is fixed
pub all-known : {K : Type 0} → PlansAreSound → (link : Link) (records : List HeardBits) (blocks : List (CodeBlock K))
    → IsLink link → IsDesk link records (peelers_of blocks)
    → list_all (λ (b : CodeBlock K). left_of b.peeler.numbers.kdash b.peeler.known == 0) blocks ≡ all_fixed link records
all-known sound link records blocks is desk =
    let peelers = peelers_of blocks in
    sym (list_all-map (λ (p : Peeling). left_of p.numbers.kdash p.known == 0) (λ (b : CodeBlock _). b.peeler) blocks)
    ∙ all-range (λ (p : Peeling). left_of p.numbers.kdash p.known == 0) (λ r. left link records r == 0) peelers (none-of link)
    (λ k inside. ap (λ n. n == 0)
    (left-known sound link (heard_of records k) (peeling_of link peelers k) is (desk.tied k (rw (← desk.peelings) inside))))
    ∙ ap (λ n. list_all (λ r. left link records r == 0) (range_with_len 0 n)) desk.peelings

-- each transport block that explains a list has the bits that the peelers know by its record
pub known-bits : WordsArePlain → ExplainsByRecord → (link : Link) (records : List HeardBits) (peelers : List Peeling)
    (list : List Reception) (block : List Bool) (r : ℕ) → IsLink link → IsDesk link records peelers → r < link.plan.c
    → IsRecordOf link list records → IsBlock link block → Explains link list block
    → AgreesWith (peeling_of link peelers r) (bit (word link block r))
known-bits plain by_record link records peelers list block r is desk inside of whole explained =
    let by : ExplainedBy link records block =
    subst (λ (l : List HeardBits). ExplainedBy link l block) (sym of.same)
    ((by_record link list block is of.accepted whole).0 explained) in
    (desk.tied r inside).words (bit (word link block r)) (plain link block r is whole inside).plain (by r inside).1

known-value : (known : Bool) (b : Bool) → known ≡ true → unwrap_or (cond known (Some b) None) false ≡ b
known-value known b e = grind arith

-- if all is fixed, a transport block that explains a record is the one that the peelers know
pub candidate-only : PlansAreSound → WordsArePlain → BlocksLengthen → CodeBlocksAreLong → (link : Link)
    (records : List HeardBits) (peelers : List Peeling) (bits : List Bool) → IsLink link → IsDesk link records peelers
    → all_fixed link records ≡ true → length bits ≡ link.a
    → ((i : ℕ) → i < link.a → IsRead link.plan peelers bits i)
    → (y : List Bool) → IsBlock link y → ExplainedBy link records y → y ≡ bits
candidate-only sound plain blocks codes link records peelers bits is desk all many read y whole by =
    ext_get_or false y bits (whole ∙ sym many) one
  where
    one : (i : ℕ) → i < length y → bit y i ≡ bit bits i
    one i below =
        let sane = sound-of sound link is in
        let check : List Bool = high_first (degree (block_poly y)) (crc_of (block_poly y) y) in
        let b-long : length (attached y) ≡ attached_length link.a = blocks y ∙ ap attached_length whole in
        let s : ℕ = share link.plan in
        let r : ℕ = i / s in
        let k : ℕ = i % s in
        let some : 0 < s = omega (arith, sane.checked) in
        let total : link.plan.c * s ≡ attached_length link.a = sane.shared in
        let low : i < link.plan.c * s = omega (arith, total, b-long, length-append y check, below) in
        let block : r < link.plan.c = (div-lt_iff_lt-mul {k = s} {x = i} {y = link.plan.c} some).1 low in
        let rest : k < s = mod_below i s some in
        let there : k < link.plan.kdash = omega (arith, rest) in
        let fits : part_of link.plan r 0 + s ≤ length (attached y) =
        omega (arith, part-inside link.plan.c s r block, total, b-long) in
        let place : i ≡ part_of link.plan r k = sym (mod-add-div i s) ∙ omega (arith, mul_comm s (i / s)) in
        let code : length (code_bits link.plan (attached y) r) ≡ link.plan.kdash =
        codes link.graph (attached_length link.a) link.plan (attached y) r is.planned b-long block in
        let p : Peeling = peeling_of link peelers r in
        let tied = desk.tied r block in
        let known : bit p.known k ≡ true =
        known-fixed link (heard_of records r) p sane tied k there ∙ every_fixed link records all r block k there in
        let is-word = plain link y r is whole block in
        sym (get_or_append_left y check false i below)
        ∙ ap (bit (attached y)) place
        ∙ code-shared link.plan (attached y) r k fits rest
        ∙ get_or_append_left (code_bits link.plan (attached y) r) (replicate (link.plan.k - link.plan.kdash) false) false k
        (omega (arith, code, there))
        ∙ sym (is-word.begins k there)
        ∙ tied.words (bit (word link y r)) is-word.plain (by r block).1 k known
        ∙ sym (known-value (bit p.known k) (bit p.bits k) known)
        ∙ sym (read i (rw (← whole) below) (none-of link))

-- what the peeler of a code block has, wherever it is read
pub peeler-at : {K : Type 0} (link : Link) (records : List HeardBits) (blocks : List (CodeBlock K))
    → IsDesk link records (peelers_of blocks) → (r : ℕ) (d : CodeBlock K)
    → r < link.plan.c → (get_or blocks r d).peeler ≡ peeling_of link (peelers_of blocks) r
peeler-at link records blocks desk r d block = grind (arith, peeler-of, none-of, length-map)

block-size : {K : Type 0} (link : Link) (records : List HeardBits) (blocks : List (CodeBlock K))
    → IsDesk link records (peelers_of blocks) → (r : ℕ) (d : CodeBlock K)
    → r < link.plan.c → (checks_for (get_or blocks r d).peeler).size ≡ word_size link.graph link.plan
block-size link records blocks desk r d block =
    ap (λ (p : Peeling). (checks_for p).size) (peeler-at link records blocks desk r d block)
    ∙ ap (λ (c : Checks). c.size)
    (same-checks link (heard_of records r) (peeling_of link (peelers_of blocks) r) (desk.tied r block))

pub wide-peelers : {K : Type 0} → PlansAreSound → (link : Link) (records : List HeardBits) (blocks : List (CodeBlock K))
    → IsLink link → IsDesk link records (peelers_of blocks)
    → (r : ℕ) (d : CodeBlock K) → r < link.plan.c → link.plan.kdash ≤ (checks_for (get_or blocks r d).peeler).size
wide-peelers sound link records blocks is desk r d block =
    let sane = sound-of sound link is in
    let fits = k-fits link.graph link.plan sane.columns in
    omega (arith, sane.held, fits, block-size link records blocks desk r d block)

-- a code block's store and its peeler have as many positions as its buffer says
pub sized-of : {K : Type 0} (link : Link) (records : List HeardBits) (blocks : List (CodeBlock K)) → IsLink link
    → IsDesk link records (peelers_of blocks)
    → (r : ℕ) (d : CodeBlock K) → r < length records
    → IsSized (positions_on link.buffer) (heard_of records r) (get_or blocks r d)
sized-of link records blocks is desk r d inside = grind (arith, block-size)

-- a new store and a new peeler
pub started-tied : PlansAreSound → (link : Link) (s : HeardBits) (p : Peeling) → IsLink link
    → IsStarted link.table link.graph link.plan p
    → s ≡ record_of (word_size link.graph link.plan) [] → IsTied link s p
unfolding first_heard
started-tied sound link s p is start s-is = record {
  table = start.table;
  graph = start.graph;
  numbers = start.numbers;
  long = ap (λ (h : HeardBits). length h.first) s-is
      ∙ length-map-range_with_len (first_heard []) 0 (word_size link.graph link.plan);
  positions = λ k.
      ap (λ (g : List Bool). bit g k)
      (start.given ∙ ap (λ (c : Checks). map (filler link.plan.kdash link.plan.k) (range_with_len 0 c.size)) checks)
      ∙ fillers k
      ∙ sym (ap (λ (h : HeardBits). is_heard (first_at h k) || filler link.plan.kdash link.plan.k k) s-is
      ∙ ap (λ o. is_heard o || filler link.plan.kdash link.plan.k k) (none_heard (word_size link.graph link.plan) k));
  words = λ w plain has. start.words w (subst (λ (c : Checks). Meets c w) (sym checks) plain.meets) plain.zero;
  peeled = start.peeled;
}
  where
    checks : checks_for p ≡ block_checks link.table link.graph link.plan
    checks = rw (start.table, start.graph, start.numbers) refl

    fillers : (k : ℕ) → bit (map (filler link.plan.kdash link.plan.k) (range_with_len 0 (word_size link.graph link.plan))) k
        ≡ filler link.plan.kdash link.plan.k k
    fillers k =
        let N : ℕ = word_size link.graph link.plan in
        let fill : ℕ → Bool = filler link.plan.kdash link.plan.k in
        ⊎_elim
        (λ (low : k < N). get_or-map-range_with_len fill 0 N k k false low (omega arith))
        (λ (high : N ≤ k).
        let fits = k-fits link.graph link.plan (sound-of sound link is).columns in
        let past : nat_lt k link.plan.k ≡ false = grind (arith, nat_tests, fits, high) in
        get_or_past (map fill (range_with_len 0 N)) k false (omega (arith, length-map-range_with_len fill 0 N, high))
        ∙ sym (ap (λ b. nat_le link.plan.kdash k && b) past ∙ and-false (nat_le link.plan.kdash k)))
        (cases_lt k N)

-- nothing was received yet
pub record-new : (link : Link) (S : List HeardBits) → length S ≡ link.plan.c
    → All (λ s. s ≡ record_of (word_size link.graph link.plan) []) S
    → IsRecordOf link [] S
unfolding heard_record hearings
record-new link S stores empty = grind (arith, same_lists, length-map-range_with_len, get_or-map-range_with_len)

-- if a block is the only one that can explain a record, it is so for a later record
pub candidate-after : (link : Link) (S T : List HeardBits) (list : List Bool) (words : List (List Bool))
    → ((r : ℕ) (w : ℕ → Bool) → r < link.plan.c → Fits (heard_of T r) w → Fits (heard_of S r) w)
    → IsCandidate link S list words → IsCandidate link T list words
candidate-after link S T list words fewer before = record {
  held = before.held;
  only = λ y whole by. before.only y whole (λ r inside. fewer r (bit (word link y r)) inside (by r inside));
  coded = before.coded;
}

-- the list that has its CRC too begins with a transport block
pub begins : (link : Link) (list bits : List Bool) → list ≡ attached bits → IsBlock link bits → take link.a list ≡ bits
begins link list bits list-is whole = grind (arith, take-append_seam)

-- the one transport block that can explain all, read and encoded, is kept
pub candidate-read : (link : Link) (records : List HeardBits) (list bits : List Bool) (words : List (List Bool))
    → list ≡ attached bits → IsBlock link bits
    → ((y : List Bool) → IsBlock link y → ExplainedBy link records y → y ≡ bits)
    → ((r : ℕ) → r < link.plan.c
    → word_at words r ≡ codeword link.table link.graph link.plan (code_bits link.plan list r))
    → IsCandidate link records list words
unfolding word
candidate-read link records list bits words list-is whole only coded = grind (arith, length-append, begins)

-- it explains all if each word has every first bit, and otherwise no block does
pub compared : {K : Type 0} (link : Link) (S : List HeardBits) (B : List (CodeBlock K)) (list : List Bool) (agreed : Bool)
    → length S ≡ link.plan.c
    → IsCandidate link S list (kept_words B)
    → IsTrue agreed ↔ ((r : ℕ) → r < length S → Fits (heard_of S r) (bit (word_at (kept_words B) r)))
    → (agreed ≡ true → ExplainedBy link S (take link.a list))
    × (agreed ≡ false → (y : List Bool) → IsBlock link y → ExplainedBy link S y → ⊥)
compared link S B list agreed many candidate fits = grind (arith, false≢true)

-- and so the block that is handed up
pub decided-by : (link : Link) (S : List HeardBits) (block : List Bool) (agreed : Bool) (v : Verdict) → all_fixed link S ≡ true
    → IsBlock link block
    → (agreed ≡ true → ExplainedBy link S block)
    → (agreed ≡ false → (y : List Bool) → IsBlock link y → ExplainedBy link S y → ⊥)
    → (agreed ≡ true → v ≡ delivered block) → (agreed ≡ false → v ≡ contradiction) → IsDecided link S v
decided-by link S block true v all whole by none taken refuted = rw (taken refl) (all, whole, by refl)
decided-by link S block false v all whole by none taken refuted = rw (refuted refl) (all, none refl)

-- the code blocks that are compared have a word for each store, of as many positions
pub paired-of : {K : Type 0} (link : Link) (S : List HeardBits) (B : List (CodeBlock K)) → IsDesk link S (peelers_of B)
    → length B ≡ length S
paired-of link S B desk = grind (arith, length-map)

pub worded-of : {K : Type 0} (link : Link) (S : List HeardBits) (B : List (CodeBlock K)) → IsDesk link S (peelers_of B)
    → AreWords link.plan.c (word_size link.graph link.plan) (kept_words B) → (r : ℕ) → r < length S
    → length (heard_of S r).first ≡ length (word_at (kept_words B) r)
worded-of link S B desk words r inside = grind arith

-- a store kept elsewhere, and a new peeler that learned what it tells
module _ (sound : PlansAreSound) (link : Link) (s : HeardBits) (p : Peeling) (marks value : List Bool) (is : IsLink link)
    (start : IsStarted link.table link.graph link.plan p) (long : length s.first ≡ word_size link.graph link.plan)
    (marked : (k : ℕ) → bit marks k ≡ is_heard (first_at s k))
    (valued : (k : ℕ) (b : Bool) → first_at s k ≡ Some b → bit value k ≡ b) where
  abbrev none : HeardBits
  none = record_of (word_size link.graph link.plan) []

  all-news : IsNews none s marks value
  all-news =
      let blank = length-map-range_with_len (first_heard []) 0 (word_size link.graph link.plan) in
      news-kept none s marks value (none_heard (word_size link.graph link.plan)) (long ∙ sym blank) marked valued

  pub taught-tied : (q : Peeling) → IsSameCode p q → GivesAll (bit marks) p q → KeepsAllWords (bit marks) (bit value) p q
      → IsPeeled q → IsTied link s q
  taught-tied q same gives words peeled =
      tied-news none s marks value all-news link p (started-tied sound link none p is start refl) q same gives words peeled

-- if the store has no mark, the peeler stays as it began
pub untaught-tied : PlansAreSound → (link : Link) (s : HeardBits) (p : Peeling) (marks : List Bool) → IsLink link
    → IsStarted link.table link.graph link.plan p → length s.first ≡ word_size link.graph link.plan
    → ((k : ℕ) → bit marks k ≡ is_heard (first_at s k)) → ((k : ℕ) → bit marks k ≡ false) → IsTied link s p
untaught-tied sound link s p marks is start long marked unmarked =
    let news = all-news sound link s p marks [] is start long marked
    (λ k b at. absurd (false≢true (sym (unmarked k) ∙ marked k ∙ ap is_heard at))) in
    tied-still _ s marks [] news link p (started-tied sound link _ p is start refl) unmarked

-- one more code block has its peeler
pub taught-more : (link : Link) (S : List HeardBits) (P : List Peeling) (p : Peeling) (r : ℕ) → length P ≡ r
    → IsTied link (heard_of S r) p
    → ((q : ℕ) (d : Peeling) → q < r → IsTied link (heard_of S q) (get_or P q d))
    → (q : ℕ) (d : Peeling) → q < r + 1 → IsTied link (heard_of S q) (get_or (P ++ p ∷ []) q d)
taught-more link S P p r long here before q d below = ⊎_elim
    (λ (e : q ≡ r). subst (λ x. IsTied link (heard_of S q) x)
    (sym (ap (λ k. get_or (P ++ p ∷ []) k d) (e ∙ sym long) ∙ get_or-append_seam P p [] d)) (rw e here))
    (λ (e : q ≢ r).
    let low : q < r = omega (arith, below, e) in
    subst (λ x. IsTied link (heard_of S q) x) (sym (get_or_append_left P (p ∷ []) d q (omega (arith, low, long))))
    (before q d low))
    (cases_eq q r)

-- stores in which nothing was received yet have a place for each position
pub stores-new : (link : Link) (S : List HeardBits) → length S ≡ link.plan.c
    → All (λ s. s ≡ record_of (word_size link.graph link.plan) []) S
    → AreStoresFor link S
unfolding first_heard
stores-new link S stores empty = grind (arith, length-map-range_with_len)
