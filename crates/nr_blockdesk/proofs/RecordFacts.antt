-- Which transport blocks explain a list of receptions, code block by code block, and that the record says so.
use Rattle.nr_blockdesk.proofs.Common.{◌≡◌, ℕ, ◌*◌, ◌<◌, ◌≤◌, Bool, true, false, cond, nat_lt, List, []}
use Rattle.nr_blockdesk.proofs.Common.{◌∷◌, length, get_or, All, refl, sym, ap, subst, ◌∙◌, ⊎_elim, arith, ◌+◌}
use Rattle.nr_blockdesk.proofs.Common.{◌==◌, Option, None, option_map, Ok, sum, list_all, filter_map, range_with_len, and_from}
use Rattle.nr_blockdesk.proofs.Common.{cases_lt, eqb-true, and_parts, eq-eqb, nat_tests, get_or_past, All-head, All-tail}
use Rattle.nr_blockdesk.proofs.Common.{get_or-map-range_with_len, length-map-range_with_len, bit, cols_of, HasFirsts, HeardBits}
use Rattle.nr_blockdesk.proofs.Common.{Hearing, first_at, first_heard, is_heard, record_of, record_of-at, word_size, Explains}
use Rattle.nr_blockdesk.proofs.Common.{IsAccepted, Reception, agrees, explains, heard_at, heard_of, heard_record, hearings}
use Rattle.nr_blockdesk.proofs.Common.{hearings_in, hearing_at, IsLink, Link, word, ExplainedBy, ExplainsByRecord}
use Rattle.nr_blockdesk.proofs.Common.{AcceptedAreMatched, IsMatched, RateMatching, SentBitsAreAt, matching, position_at, sent}
use Rattle.nr_blockdesk.proofs.Common.{tx_said, beq, bind-ok, heard_bit, Heard, AllPass-from_list_all}
use Rattle.nr_blockdesk.{specs.Explains.all_agree, specs.Sent.block_at, proofs.LinkFacts.demanded-ok, proofs.LinkFacts.link-buffer}
use Rattle.nr_blockdesk.proofs.RangeTestFacts.{flat_all, given_all, holds_if, range_all, range_each}
use Rattle.std.specs.Option.{is_some}
use Rattle.nr_harqbuf.specs.Record.{FitsByRecord}

-- a word's bits are those of a hearing
abbrev pub fits : (ℕ → Bool) → Hearing → Bool
fits w h = beq (w h.0) h.1

agrees-is : (h : Heard) (v : Bool) → agrees h v ≡ holds_if (λ b. beq v b) (heard_bit h)
agrees-is h v = grind arith

own : (w : ℕ → Bool) (p : ℕ) (o : Option Bool)
    → holds_if (fits w) (option_map (λ b. (p, b)) o) ≡ holds_if (λ b. beq (w p) b) o
own w p o = grind arith

-- what a place tells code block r fits its word, if the place agrees with the word of its own code block q
place-tells : (w : ℕ → ℕ → Bool) (q r p : ℕ) (h : Heard) → agrees h (w q p) ≡ true
    → holds_if (fits (w r)) (cond (q == r) (option_map (λ b. (p, b)) (heard_bit h)) None) ≡ true
place-tells w q r p h true-there = grind (arith, nat_tests, own, agrees-is, eqb-true)

place-agrees : (w : ℕ → ℕ → Bool) (q p : ℕ) (h : Heard)
    → holds_if (fits (w q)) (cond (q == q) (option_map (λ b. (p, b)) (heard_bit h)) None) ≡ true → agrees h (w q p) ≡ true
place-agrees w q p h fit = rw (agrees-is h (w q p), ← own (w q) p (heard_bit h)) (rw (eq-eqb q q refl) at fit)

-- the bits sent are those of the words
abbrev pub AreOf : RateMatching → (ℕ → ℕ → Bool) → List Bool → ℕ → Type 0
AreOf t w bits n = (m : ℕ) → m < n → bit bits m ≡ w (block_at t m) (position_at t m)

-- what a reception tells each code block
abbrev pub told_of : RateMatching → List Heard → ℕ → List Hearing
told_of t places r = filter_map (hearing_at t places r) (range_with_len 0 (length places))

pub agree-fits : (t : RateMatching) (places : List Heard) (w : ℕ → ℕ → Bool) (bits : List Bool)
    → AreOf t w bits (length places)
    → all_agree places bits ≡ true → (r : ℕ) → list_all (fits (w r)) (told_of t places r) ≡ true
agree-fits t places w bits are agree r =
    given_all (hearing_at t places r) (fits (w r)) (range_with_len 0 (length places))
    ∙ range_all (λ m. holds_if (fits (w r)) (hearing_at t places r m)) 0 (length places) each
  where
    each : (m : ℕ) → 0 ≤ m → m < 0 + length places → holds_if (fits (w r)) (hearing_at t places r m) ≡ true
    each m low high =
        let inside : m < length places = omega arith in
        let agreed = range_each (λ k. agrees (heard_at places k) (bit bits k)) 0 (length places) agree m low high in
        place-tells w (block_at t m) r (position_at t m) (heard_at places m)
        (ap (agrees (heard_at places m)) (sym (are m inside)) ∙ agreed)

pub fits-agree : (c : ℕ) (t : RateMatching) (places : List Heard) (w : ℕ → ℕ → Bool) (bits : List Bool)
    → AreOf t w bits (length places)
    → ((m : ℕ) → m < length places → block_at t m < c)
    → ((r : ℕ) → r < c → list_all (fits (w r)) (told_of t places r) ≡ true) → all_agree places bits ≡ true
fits-agree c t places w bits are owned fit =
    range_all (λ m. agrees (heard_at places m) (bit bits m)) 0 (length places) each
  where
    each : (m : ℕ) → 0 ≤ m → m < 0 + length places → agrees (heard_at places m) (bit bits m) ≡ true
    each m low high =
        let inside : m < length places = omega arith in
        let q : ℕ = block_at t m in
        let all = sym (given_all (hearing_at t places q) (fits (w q)) (range_with_len 0 (length places)))
        ∙ fit q (owned m inside) in
        let one = range_each (λ k. holds_if (fits (w q)) (hearing_at t places q k)) 0 (length places) all m low high in
        ap (agrees (heard_at places m)) (are m inside) ∙ place-agrees w q (position_at t m) (heard_at places m) one

-- a list of receptions
abbrev pub IsOf : Link → (ℕ → ℕ → Bool) → List Bool → Reception → Type 0
IsOf link w block x = AreOf (matching link x.tx) w (sent link x.tx block) (length x.heard)

abbrev pub IsOwned : Link → Reception → Type 0
IsOwned link x = (m : ℕ) → m < length x.heard → block_at (matching link x.tx) m < link.plan.c

pub explained-fits : (link : Link) (w : ℕ → ℕ → Bool) (block : List Bool) (list : List Reception)
    → All (IsOf link w block) list
    → Explains link list block → (r : ℕ) → list_all (fits (w r)) (hearings link list r) ≡ true
unfolding hearings hearings_in explains
explained-fits link w block [] are explained r = refl
explained-fits link w block (x ∷ xs) are explained r =
    let both = and_parts (all_agree x.heard (sent link x.tx block)) (explains link xs block) explained in
    flat_all (hearings_in link r) (fits (w r)) (x ∷ xs)
    ∙ and_from _ _ (agree-fits (matching link x.tx) x.heard w (sent link x.tx block)
    (All-head (IsOf link w block) x xs are) both.0 r)
    (sym (flat_all (hearings_in link r) (fits (w r)) xs)
    ∙ explained-fits link w block xs (All-tail (IsOf link w block) x xs are) both.1 r)

pub fits-explained : (link : Link) (w : ℕ → ℕ → Bool) (block : List Bool) (list : List Reception)
    → All (IsOf link w block) list
    → All (IsOwned link) list → ((r : ℕ) → r < link.plan.c → list_all (fits (w r)) (hearings link list r) ≡ true)
    → Explains link list block
unfolding hearings hearings_in explains
fits-explained link w block [] are owned fit = refl
fits-explained link w block (x ∷ xs) are owned fit =
    let both = λ (r : ℕ) (inside : r < link.plan.c).
    and_parts _ _ (sym (flat_all (hearings_in link r) (fits (w r)) (x ∷ xs)) ∙ fit r inside) in
    and_from _ _
    (fits-agree link.plan.c (matching link x.tx) x.heard w (sent link x.tx block)
    (All-head (IsOf link w block) x xs are) (All-head (IsOwned link) x xs owned) (λ r inside. (both r inside).0))
    (fits-explained link w block xs (All-tail (IsOf link w block) x xs are) (All-tail (IsOwned link) x xs owned)
    (λ r inside. flat_all (hearings_in link r) (fits (w r)) xs ∙ (both r inside).1))

-- an accepted reception: its transmission is accepted, and as many places are received as it sends
pub record IsTaken (link : Link) (x : Reception) : Type 0 where
  pub lengths : List ℕ
  pub said : tx_said link x.tx ≡ Ok lengths
  pub heard : length x.heard ≡ x.tx.g

pub taken-from : (link : Link) (x : Reception) → IsAccepted link x → IsTaken link x
taken-from link x is = grind (arith, nat_tests, bind-ok, eqb-true, demanded-ok)

-- each place of an accepted reception is a position of a code block, and has its word's bit
pub record IsPlaced (link : Link) (x : Reception) (m : ℕ) : Type 0 where
  pub block : block_at (matching link x.tx) m < link.plan.c
  pub inside : position_at (matching link x.tx) m < word_size link.graph link.plan
  pub value : (block : List Bool)
      → bit (sent link x.tx block) m ≡ bit (word link block (block_at (matching link x.tx) m))
      (position_at (matching link x.tx) m)

pub placed : AcceptedAreMatched → SentBitsAreAt → (link : Link) (x : Reception) → IsLink link → IsAccepted link x
    → (m : ℕ) → m < length x.heard → IsPlaced link x m
unfolding sent
placed matched at link x is accepted m inside =
    let taken = taken-from link x accepted in
    let t : RateMatching = matching link x.tx in
    let is-matched : IsMatched link x.tx taken.lengths = matched link x.tx taken.lengths is taken.said in
    let long : sum t.lengths ≡ x.tx.g = ap sum is-matched.same ∙ is-matched.shared.together in
    let many : length t.lengths ≡ link.plan.c = ap length is-matched.same ∙ is-matched.shared.counted in
    let is-at = at t m is-matched.matched (omega (arith, long, taken.heard, inside)) in
    let buffered : t.buffer ≡ link.buffer = refl in
    let coded : position_at t m < cols_of link.buffer.graph * link.buffer.z = is-at.position.coded in
    record {
      block = subst (λ n. block_at t m < n) many is-at.block;
      inside = subst (λ b. position_at t m < cols_of b.graph * b.z) (link-buffer link is) coded;
      value = λ block. is-at.value (word link block);
    }

-- the record of code block r
pub record-at : (link : Link) (list : List Reception) (r : ℕ) → r < link.plan.c
    → heard_of (heard_record link list) r ≡ record_of (word_size link.graph link.plan) (hearings link list r)
unfolding heard_record
record-at link list r inside = grind (arith, get_or-map-range_with_len)

pub first-past : (n : ℕ) (hs : List Hearing) (p : ℕ) → n ≤ p → first_at (record_of n hs) p ≡ None
first-past n hs p past = grind (arith, length-map-range_with_len, get_or_past)

-- nothing is kept if nothing was received
pub none_heard : (n p : ℕ) → first_at (record_of n []) p ≡ None
unfolding first_heard
none_heard n p = ⊎_elim (λ (low : p < n). record_of-at n [] p low) (λ (high : n ≤ p). first-past n [] p high) (cases_lt p n)

-- the hearings of code block r are positions of its word
abbrev is_below : ℕ → Hearing → Bool
is_below n h = nat_lt h.0 n

place-below : (n p : ℕ) (own : Bool) (o : Option Bool) → p < n
    → holds_if (is_below n) (cond own (option_map (λ b. (p, b)) o) None) ≡ true
place-below n p own o inside = grind (arith, nat_tests)

below-in : AcceptedAreMatched → SentBitsAreAt → (link : Link) (r : ℕ) (x : Reception) → IsLink link → IsAccepted link x
    → list_all (is_below (word_size link.graph link.plan)) (hearings_in link r x) ≡ true
unfolding hearings_in
below-in matched at link r x is accepted = grind (arith, nat_tests, given_all, range_all, place-below, placed)

below-all : AcceptedAreMatched → SentBitsAreAt → (link : Link) (list : List Reception) (r : ℕ) → IsLink link
    → All (IsAccepted link) list → list_all (is_below (word_size link.graph link.plan)) (hearings link list r) ≡ true
unfolding hearings
below-all matched at link [] r is accepted = refl
below-all matched at link (x ∷ xs) r is accepted =
    flat_all (hearings_in link r) (is_below (word_size link.graph link.plan)) (x ∷ xs)
    ∙ and_from _ _ (below-in matched at link r x is (All-head (IsAccepted link) x xs accepted))
    (sym (flat_all (hearings_in link r) (is_below (word_size link.graph link.plan)) xs)
    ∙ below-all matched at link xs r is (All-tail (IsAccepted link) x xs accepted))

pub hearings-below : AcceptedAreMatched → SentBitsAreAt → (link : Link) (list : List Reception) (r : ℕ) → IsLink link
    → All (IsAccepted link) list → All (λ (h : Hearing). h.0 < word_size link.graph link.plan) (hearings link list r)
hearings-below matched at link list r is accepted k d inside =
    let test = AllPass-from_list_all (is_below (word_size link.graph link.plan)) (hearings link list r)
    (below-all matched at link list r is accepted) k d inside in
    grind (arith, nat_tests)

pub told-below : AcceptedAreMatched → SentBitsAreAt → (link : Link) (r : ℕ) (x : Reception) → IsLink link
    → IsAccepted link x
    → All (λ (h : Hearing). h.0 < word_size link.graph link.plan) (hearings_in link r x)
told-below matched at link r x is accepted k d inside =
    let test = AllPass-from_list_all (is_below (word_size link.graph link.plan)) (hearings_in link r x)
    (below-in matched at link r x is accepted) k d inside in
    grind (arith, nat_tests)

pub explains_by_record : AcceptedAreMatched → SentBitsAreAt → FitsByRecord → ExplainsByRecord
explains_by_record matched at by_record link list block is accepted whole = (forth, back)
  where
    w : ℕ → ℕ → Bool
    w r = bit (word link block r)

    are : All (IsOf link w block) list
    are k d inside m low = (placed matched at link (get_or list k d) is (accepted k d inside) m low).value block

    owned : All (IsOwned link) list
    owned k d inside m low = (placed matched at link (get_or list k d) is (accepted k d inside) m low).block

    forth : Explains link list block → ExplainedBy link (heard_record link list) block
    forth explained r inside =
        subst (λ (s : HeardBits). (s.clash ≡ false) × HasFirsts s (w r)) (sym (record-at link list r inside))
        ((by_record (w r) (word_size link.graph link.plan) (hearings link list r)
        (hearings-below matched at link list r is accepted)).0
        (explained-fits link w block list are explained r))

    back : ExplainedBy link (heard_record link list) block → Explains link list block
    back by = fits-explained link w block list are owned each
      where
        each : (r : ℕ) → r < link.plan.c → list_all (fits (w r)) (hearings link list r) ≡ true
        each r inside =
            (by_record (w r) (word_size link.graph link.plan) (hearings link list r)
            (hearings-below matched at link list r is accepted)).1
            (subst (λ (s : HeardBits). (s.clash ≡ false) × HasFirsts s (w r)) (record-at link list r inside) (by r inside))

-- a bit was received, in other words
pub heard-some : (o : Option Bool) → is_heard o ≡ is_some o
heard-some o = grind arith
