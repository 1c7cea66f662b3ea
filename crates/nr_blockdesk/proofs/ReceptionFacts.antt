-- What a reception tells each code block, and the record of one more reception.
use Rattle.nr_blockdesk.proofs.Common.{nat_tests, ◌≡◌, ℕ, zero, suc, ◌+◌, ◌-◌, ◌<◌, ◌≤◌, Bool, List, []}
use Rattle.nr_blockdesk.proofs.Common.{◌∷◌, ◌++◌, length, get_or, take, drop, flat_map, refl, sym, ap, subst, ◌∙◌}
use Rattle.nr_blockdesk.proofs.Common.{arith, Option, None, Result, Ok, Err, sum, slice_index, cons_option, filter_map}
use Rattle.nr_blockdesk.proofs.Common.{range_with_len, eqb-true, eq-eqb, flat_map-append, append-nil, get_or-drop, get_or-map}
use Rattle.nr_blockdesk.proofs.Common.{get_or-take, length-drop, length-map, length-take-le, same_lists, filter_map-append}
use Rattle.nr_blockdesk.proofs.Common.{length-map-range_with_len, sum_by_more_le, PlacesHaveOneOwner, HeardBits, Hearing, record_of}
use Rattle.nr_blockdesk.proofs.Common.{word_size, Peeling, Reception, hearing_said_of, reception, reception_said, reception_said_of}
use Rattle.nr_blockdesk.proofs.Common.{hearing_at, heard_of, heard_record, hearings, hearings_in, IsLink, Link, reception_by}
use Rattle.nr_blockdesk.proofs.Common.{HearsPart, IsDesk, IsTied, kept_words, part_hearing, part_hearings, piece, AreStoresFor}
use Rattle.nr_blockdesk.proofs.Common.{peelers_of, peeling_of, AcceptedAreMatched, IsMatched, RateMatching, PartsAreAt, matching}
use Rattle.nr_blockdesk.proofs.Common.{tx_said, DeskFault, CodeBlock, Heard, Tx, range_with_len-add, bind-ok}
use Rattle.nr_blockdesk.proofs.{LinkFacts.never-bind, LinkFacts.never-demanded, MarkFacts.length-heards}
use Rattle.nr_blockdesk.proofs.SenderFacts.{tx-never_memory}
use Rattle.nr_transmission.specs.declared.fault.DeskFault.TheVariants as fault

none-told : (f : ℕ → Option Hearing) (a n : ℕ) → ((m : ℕ) → a ≤ m → m < a + n → f m ≡ None)
    → filter_map f (range_with_len a n) ≡ []
none-told f a zero each = refl
none-told f a (suc n) each =
    ap (λ o. cons_option o (filter_map f (range_with_len (a + 1) n))) (each a (omega arith) (omega arith))
    ∙ none-told f (a + 1) n (λ m low high. each m (omega arith) (omega arith))

same-told : (f g : ℕ → Option Hearing) (a b n : ℕ) → ((k : ℕ) → k < n → f (a + k) ≡ g (b + k))
    → filter_map f (range_with_len a n) ≡ filter_map g (range_with_len b n)
same-told f g a b zero each = refl
same-told f g a b (suc n) each =
    let left : a + 0 ≡ a = omega arith in
    let right : b + 0 ≡ b = omega arith in
    rw (rw (left, right) at (each 0 (omega arith)), same-told f g (a + 1) (b + 1) n next) refl
  where
    next : (k : ℕ) → k < n → f (a + 1 + k) ≡ g (b + 1 + k)
    next k inside =
        let left : a + suc k ≡ a + 1 + k = omega arith in
        let right : b + suc k ≡ b + 1 + k = omega arith in
        rw (left, right) at (each (suc k) (omega (arith, inside)))

nothing-before : (xs ys : List Hearing) → xs ≡ [] → ys ≡ [] → (zs : List Hearing) → xs ++ (zs ++ ys) ≡ zs
nothing-before xs ys front back zs = rw (front, back, append-nil) refl

-- what the places of one code block tell
pub piece-told : PartsAreAt → PlacesHaveOneOwner → (t : RateMatching) (tx : Tx) (heard : List Heard) (r : ℕ)
    → t.rv ≡ tx.rv → t.qm ≡ tx.qm
    → sum t.lengths ≡ length heard → r < length t.lengths
    → filter_map (hearing_at t heard r) (range_with_len 0 (length heard))
    ≡ part_hearings t.buffer tx (piece t.lengths heard r) (length (piece t.lengths heard r))
piece-told parts owners t tx heard r rv qm together block =
    ap (λ n. filter_map f (range_with_len 0 n)) all
    ∙ rw (range_with_len-add 0 start (e + rest), filter_map-append f, range_with_len-add (0 + start) e rest, filter_map-append f)
    (nothing-before (filter_map f (range_with_len 0 start)) (filter_map f (range_with_len (0 + start + e) rest))
    (none-told f 0 start (λ m low high. outside m (omega (arith, high, all)) (λ from. omega (arith, high, from.0))))
    (none-told f (0 + start + e) rest
    (λ m low high. outside m (omega (arith, high, all)) (λ from. omega (arith, low, from.1))))
    (filter_map f (range_with_len (0 + start) e)))
    ∙ same-told f g (0 + start) 0 e inside
    ∙ ap (λ n. filter_map g (range_with_len 0 n)) (sym long)
  where
    f : ℕ → Option Hearing
    f = hearing_at t heard r

    start : ℕ
    start = sum (take r t.lengths)

    e : ℕ
    e = slice_index t.lengths r

    pc : List Heard
    pc = piece t.lengths heard r

    g : ℕ → Option Hearing
    g = part_hearing t.buffer tx pc

    most : start + e ≤ sum t.lengths
    most = sum_by_more_le (λ (x : ℕ). x) t.lengths r 0 block

    rest : ℕ
    rest = length heard - (start + e)

    all : length heard ≡ start + (e + rest)
    all = omega (arith, most, together)

    long : length pc ≡ e
    long = length-take-le e (drop start heard) (omega (arith, length-drop start heard, most, together))

    outside : (m : ℕ) → m < length heard → ((start ≤ m) × (m < start + e) → ⊥) → f m ≡ None
    outside m within out = grind (arith, nat_tests, eqb-true)

    inside : (k : ℕ) → k < e → f (0 + start + k) ≡ g (0 + k)
    inside k below = grind (arith, nat_tests, eq-eqb, long, get_or-take, get_or-drop)

-- the peeler in place of none
abbrev pub none-of : Link → Peeling
none-of link = peeling_of link [] 0

-- the code block in place of none
abbrev pub no_block : {K : Type 0} → Link → CodeBlock K
no_block link = record { peeler = none-of link; word = [] }

-- the peeler of a code block among those of all
pub peeler-of : {K : Type 0} (B : List (CodeBlock K)) (r : ℕ) (d : CodeBlock K) (e : Peeling) → r < length B
    → get_or (peelers_of B) r e ≡ (get_or B r d).peeler
peeler-of B r d e inside = get_or-map (λ (b : CodeBlock _). b.peeler) B r d e inside

-- each code block's part of an accepted reception was received
abbrev pub AreHeard : {K : Type 0} → Link → Tx → List ℕ → List Heard → List HeardBits → List (CodeBlock K)
    → List HeardBits
    → List (CodeBlock K) → Type 0
AreHeard {K} link tx lengths heard S B S' B' =
    (r : ℕ) (d : CodeBlock K) → r < link.plan.c
    → HearsPart link.buffer tx (piece lengths heard r) (heard_of S r) (get_or B r d) (heard_of S' r) (get_or B' r d)

pub hearings-told : PartsAreAt → PlacesHaveOneOwner → AcceptedAreMatched
    → (link : Link) (tx : Tx) (lengths : List ℕ) (heard : List Heard) (r : ℕ)
    → IsLink link → tx_said link tx ≡ Ok lengths → length heard ≡ tx.g → r < link.plan.c
    → hearings_in link r (reception tx heard) ≡ part_hearings link.buffer tx (piece lengths heard r)
    (length (piece lengths heard r))
unfolding hearings_in
hearings-told parts owners matched link tx lengths heard r is said whole block =
    let are : IsMatched link tx lengths = matched link tx lengths is said in
    let t : RateMatching = matching link tx in
    let together : sum t.lengths ≡ length heard = ap sum are.same ∙ are.shared.together ∙ sym whole in
    let many : length t.lengths ≡ link.plan.c = ap length are.same ∙ are.shared.counted in
    piece-told parts owners t tx heard r refl refl together (subst (λ n. r < n) (sym many) block)
    ∙ ap (λ (es : List ℕ). part_hearings link.buffer tx (piece es heard r) (length (piece es heard r))) are.same

pub hearings-more : (link : Link) (list : List Reception) (x : Reception) (r : ℕ)
    → hearings link (list ++ x ∷ []) r ≡ hearings link list r ++ hearings_in link r x
unfolding hearings
hearings-more link list x r = flat_map-append (hearings_in link r) list (x ∷ [])
    ∙ ap (λ hs. flat_map (hearings_in link r) list ++ hs) (append-nil (hearings_in link r x))

pub length-record : (link : Link) (list : List Reception) → length (heard_record link list) ≡ link.plan.c
unfolding heard_record
length-record link list =
    length-map-range_with_len (λ r. record_of (word_size link.graph link.plan) (hearings link list r)) 0 link.plan.c

-- a reception that is accepted has the lengths of its transmission
pub tx-from : (link : Link) (x : Reception) (es : List ℕ) → reception_said link x ≡ Ok es → tx_said link x.tx ≡ Ok es
tx-from link x es said = grind (arith, nat_tests, bind-ok)

-- what was said of two lists, of their reception
pub said_by : (c : ℕ) (tx : Tx) (marks bits : List Bool) (n : ℕ) (said : Result (List ℕ) DeskFault) → n ≡ length marks
    → hearing_said_of c tx n ≡ said → reception_said_of c (reception_by tx marks bits) ≡ said
said_by c tx marks bits n said long is = grind (arith, length-heards)

-- stores that belong to peelers have a place for each position
pub fit-of_desk : {K : Type 0} (link : Link) (S : List HeardBits) (B : List (CodeBlock K)) → IsDesk link S (peelers_of B)
    → AreStoresFor link S
fit-of_desk link S B desk = record { many = desk.stores; long = λ r block. (desk.tied r block).long }

-- and stores and peelers belong together again
pub desk-taken : {K : Type 0} (link : Link) (tx : Tx) (lengths : List ℕ) (heard : List Heard) (S S' : List HeardBits)
    (B B' : List (CodeBlock K))
    → IsDesk link S (peelers_of B) → length S' ≡ link.plan.c → length B' ≡ length B
    → AreHeard link tx lengths heard S B S' B'
    → IsDesk link S' (peelers_of B')
desk-taken link tx lengths heard S S' B B' desk stores blocks hears =
    let many : length B ≡ link.plan.c = sym (length-map B (λ (b : CodeBlock _). b.peeler)) ∙ desk.peelings in
    record {
      stores = stores;
      peelings = length-map B' (λ (b : CodeBlock _). b.peeler) ∙ blocks ∙ many;
      tied = λ r block.
          subst (IsTied link (heard_of S' r))
          (sym (peeler-of B' r (no_block link) (none-of link) (omega (arith, blocks, many, block))))
          ((hears r (no_block link) block).tied link
          (subst (IsTied link (heard_of S r)) (peeler-of B r (no_block link) (none-of link) (omega (arith, many, block)))
          (desk.tied r block)));
    }

-- the words that are kept are unchanged
pub words-stay : {K : Type 0} (link : Link) (tx : Tx) (lengths : List ℕ) (heard : List Heard) (S S' : List HeardBits)
    (B B' : List (CodeBlock K))
    → length B ≡ link.plan.c → length B' ≡ length B → AreHeard link tx lengths heard S B S' B'
    → kept_words B' ≡ kept_words B
words-stay link tx lengths heard S S' B B' many blocks hears =
    let f : CodeBlock _ → List Bool = λ b. b.word in
    let long : length (kept_words B') ≡ length B' = length-map B' f in
    same_lists (kept_words B') (kept_words B) (long ∙ blocks ∙ sym (length-map B f))
    (λ r d inside.
    get_or-map f B' r (no_block link) d (rw (← long) inside)
    ∙ (hears r (no_block link) (omega (arith, long, blocks, many, inside))).same
    ∙ sym (get_or-map f B r (no_block link) d (omega (arith, long, blocks, inside))))

-- no result for a reception is `Memory`
pub reception-never_memory : (c : ℕ) (x : Reception) → reception_said_of c x ≡ Err fault.Memory → ⊥
reception-never_memory c x = grind (arith, nat_tests, never-bind, tx-never_memory, never-demanded)

-- the parts, of the receiver's own lists
pub parts-are : {K : Type 0} (link : Link) (tx : Tx) (es es' : List ℕ) (heard : List Heard) (S S₁ S' : List HeardBits)
    (B B₁ B' : List (CodeBlock K))
    → es' ≡ es → S₁ ≡ S → B₁ ≡ B → length S ≡ link.plan.c → length B ≡ link.plan.c
    → ((r : ℕ) (d : CodeBlock K) → r < length S₁ → r < length B₁
    → HearsPart link.buffer tx (piece es' heard r) (heard_of S₁ r) (get_or B₁ r d) (heard_of S' r) (get_or B' r d))
    → AreHeard link tx es heard S B S' B'
parts-are link tx es es' heard S S₁ S' B B₁ B' es-is S-is B-is many held parts r d block = grind arith
