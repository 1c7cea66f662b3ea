-- What hearing does to a code block's store and its peeler, and what is new from one record to a later one.
use Rattle.nr_blockdesk.proofs.Common.{◌≡◌, ◌≢◌, ℕ, ◌+◌, ◌<◌, ◌≤◌, ◌||◌, Bool, true, false, cond}
use Rattle.nr_blockdesk.proofs.Common.{List, [], ◌∷◌, ◌++◌, length, get_or, set, refl, sym, ap, ◌∙◌, ⊎_elim}
use Rattle.nr_blockdesk.proofs.Common.{append_assoc, arith, subst, Option, Some, None, cons_option, cases_eq, or_parts}
use Rattle.nr_blockdesk.proofs.Common.{get_or-set_at, append-nil, get_or-set_other, get_or-set_same, get_or_read, length-set}
use Rattle.nr_blockdesk.proofs.Common.{filter_map-append, bit, range_with_len-add, HasFirsts, HeardBits, Hearing, RecordContinues}
use Rattle.nr_blockdesk.proofs.Common.{first_at, is_heard, record_of, with_hearing, seat_of, block_checks, Checks, Meets, Peeling}
use Rattle.nr_blockdesk.proofs.Common.{checks_for, GivesAll, IsPeeled, IsSameCode, KeepsAllWords, Circular, place_of, heard_at}
use Rattle.nr_blockdesk.proofs.Common.{heard_of, heard_bit, Link, Fits, HearsPart, IsTied, part_hearing, part_hearings, IsNews}
use Rattle.nr_blockdesk.proofs.Common.{StoresPart, CodeBlock, Heard, Tx, or-false, given}
use Rattle.nr_harqbuf.specs.Record.{differs}

-- what one more place tells
pub part-more : (b : Circular) (tx : Tx) (heard : List Heard) (m : ℕ)
    → part_hearings b tx heard (m + 1) ≡ part_hearings b tx heard m ++ cons_option (part_hearing b tx heard m) []
part-more b tx heard m = grind (arith, range_with_len-add, filter_map-append)

pub part-none : (b : Circular) (tx : Tx) (heard : List Heard) (m : ℕ) → heard_bit (heard_at heard m) ≡ None
    → part_hearings b tx heard (m + 1) ≡ part_hearings b tx heard m
part-none b tx heard m none = grind (arith, part-more, append-nil)

pub part-some : (b : Circular) (tx : Tx) (heard : List Heard) (m pos : ℕ) (v : Bool) → heard_bit (heard_at heard m) ≡ Some v
    → pos ≡ place_of b tx.rv (seat_of tx.qm (length heard) m)
    → part_hearings b tx heard (m + 1) ≡ part_hearings b tx heard m ++ (pos, v) ∷ []
part-some b tx heard m pos v some at = grind (arith, part-more)

-- the record of one more hearing
pub recorded-more : RecordContinues → (n : ℕ) (hs told more : List Hearing) (s t : HeardBits) (pos : ℕ) (v : Bool)
    → pos < n
    → s ≡ record_of n (hs ++ told) → t ≡ with_hearing s (pos, v) → more ≡ told ++ (pos, v) ∷ []
    → t ≡ record_of n (hs ++ more)
recorded-more continues n hs told more s t pos v inside s-is t-is more-is = grind (arith, append_assoc)

-- the first bits after one more hearing
pub first-kept : (s : HeardBits) (pos : ℕ) (v : Bool) → is_heard (first_at s pos) ≡ true
    → (with_hearing s (pos, v)).first ≡ s.first
unfolding with_hearing
first-kept s pos v is = ap (λ b. cond b s.first (set s.first pos (Some v))) is

pub first-set : (s : HeardBits) (pos : ℕ) (v : Bool) → is_heard (first_at s pos) ≡ false
    → (with_hearing s (pos, v)).first ≡ set s.first pos (Some v)
unfolding with_hearing
first-set s pos v is = ap (λ b. cond b s.first (set s.first pos (Some v))) is

-- the first bits before one that was received nowhere yet
firsts-before : (s t : HeardBits) (pos : ℕ) (v : Bool) (w : ℕ → Bool) → is_heard (first_at s pos) ≡ false
    → t.first ≡ set s.first pos (Some v)
    → HasFirsts t w → HasFirsts s w
firsts-before s t pos v w unheard firsts has k b is = grind (arith, get_or-set_other, cases_eq)

pub clash-more : (s : HeardBits) (pos : ℕ) (v : Bool)
    → (with_hearing s (pos, v)).clash ≡ (s.clash || differs (first_at s pos) v)
unfolding with_hearing
clash-more s pos v = refl

-- a word that fits a record with one more hearing fits the record
pub fits-before : (s : HeardBits) (pos : ℕ) (v : Bool) (w : ℕ → Bool) → Fits (with_hearing s (pos, v)) w → Fits s w
fits-before s pos v w fits = (
  (or_parts s.clash (differs (first_at s pos) v) (sym (clash-more s pos v) ∙ fits.0)).0,
  go (is_heard (first_at s pos)) refl,
)
  where
    go : (b : Bool) → is_heard (first_at s pos) ≡ b → HasFirsts s w
    go true e = λ k b is. fits.1 k b (ap (λ (xs : List (Option Bool)). get_or xs k None) (first-kept s pos v e) ∙ is)
    go false e = firsts-before s (with_hearing s (pos, v)) pos v w e (first-set s pos v e) fits.1

-- the code of a peeler that is tied
pub same-checks : (link : Link) (s : HeardBits) (p : Peeling) → IsTied link s p
    → checks_for p ≡ block_checks link.table link.graph link.plan
same-checks link s p tied = rw (tied.table, tied.graph, tied.numbers) refl

-- the record in place of none
abbrev nothing : HeardBits
nothing = record { first = []; clash = false }

-- one more code block has received its part, if it is there
pub done-more : {K : Type 0} (b : Circular) (tx : Tx) (pieces : ℕ → List Heard) (S₀ S : List HeardBits)
    (P₀ P P' : List (CodeBlock K)) (r : ℕ) (part : List Heard) (s t : HeardBits)
    → r < length S → length P ≡ length P₀ → part ≡ pieces r → s ≡ get_or S r s
    → ((d : CodeBlock K) → r < length P → HearsPart b tx part s (get_or P r d) t (get_or P' r d))
    → ((k : ℕ) (d : CodeBlock K) → k ≢ r → get_or P' k d ≡ get_or P k d)
    → ((k : ℕ) (d : CodeBlock K) → k < r → k < length P₀
    → HearsPart b tx (pieces k) (heard_of S₀ k) (get_or P₀ k d) (heard_of S k) (get_or P k d))
    → ((k : ℕ) (d : HeardBits) → r ≤ k → get_or S k d ≡ get_or S₀ k d)
    → ((k : ℕ) (d : CodeBlock K) → r ≤ k → get_or P k d ≡ get_or P₀ k d)
    → (k : ℕ) (d : CodeBlock K) → k < r + 1 → k < length P₀
    → HearsPart b tx (pieces k) (heard_of S₀ k) (get_or P₀ k d) (heard_of (set S r t) k) (get_or P' k d)
done-more b tx pieces S₀ S P₀ P P' r part s t in-S long part-is s-is hears others done later later_p k d below held = ⊎_elim
    (λ (e : k ≡ r).
    rw (
      e,
      get_or-set_same S r t nothing in-S,
      ← part-is,
      ← later r nothing (omega arith),
      ← later_p r d (omega arith),
      ← get_or_read S r s in-S s-is nothing,
    ) (hears d (omega (arith, held, e, long))))
    (λ (e : k ≢ r). rw (get_or-set_other S r k t nothing e, others k d e) (done k d (omega (arith, below, e)) held))
    (cases_eq k r)

-- one more store has received its part
pub stored-more : (b : Circular) (tx : Tx) (pieces : ℕ → List Heard) (S₀ S : List HeardBits) (r : ℕ) (part : List Heard)
    (s t : HeardBits) → r < length S → part ≡ pieces r → s ≡ get_or S r s → StoresPart b tx part s t
    → ((k : ℕ) → k < r → StoresPart b tx (pieces k) (heard_of S₀ k) (heard_of S k))
    → ((k : ℕ) (d : HeardBits) → r ≤ k → get_or S k d ≡ get_or S₀ k d)
    → (k : ℕ) → k < r + 1 → StoresPart b tx (pieces k) (heard_of S₀ k) (heard_of (set S r t) k)
stored-more b tx pieces S₀ S r part s t in-S part-is s-is hears done later k below = ⊎_elim
    (λ (e : k ≡ r).
    rw (
      e,
      get_or-set_same S r t nothing in-S,
      ← part-is,
      ← later r nothing (omega arith),
      ← get_or_read S r s in-S s-is nothing,
    ) hears)
    (λ (e : k ≢ r). rw (get_or-set_other S r k t nothing e) (done k (omega (arith, below, e))))
    (cases_eq k r)

-- and those after it are unchanged
pub later-kept : {X : Type 0} (A B : List X) (r : ℕ) (x : X) → ((k : ℕ) (d : X) → r ≤ k → get_or B k d ≡ get_or A k d)
    → (k : ℕ) (d : X) → r + 1 ≤ k → get_or (set B r x) k d ≡ get_or A k d
later-kept A B r x later k d above = grind (arith, get_or-set_other)

-- a position that was received before
pub news-again : (s t u : HeardBits) (marks value : List Bool) → u.first ≡ t.first → IsNews s t marks value
    → IsNews s u marks value
news-again s t u marks value same news =
    record { marks = rw same news.marks; bits = rw same news.bits; kept = rw same news.kept; long = rw same news.long }

-- a position that was not
module _ (s t u : HeardBits) (marks value : List Bool) (pos : ℕ) (v : Bool) (inside : pos < length t.first)
    (marked : pos < length marks) (valued : pos < length value)
    (unheard : is_heard (first_at t pos) ≡ false) (firsts : u.first ≡ set t.first pos (Some v))
    (news : IsNews s t marks value) where
  here : (p : ℕ) → p ≡ pos → first_at u p ≡ Some v
  here p e = rw (firsts, get_or-set_at t.first pos p (Some v) None e inside) refl

  there : (p : ℕ) → p ≢ pos → first_at u p ≡ first_at t p
  there p ne = rw (firsts, get_or-set_other t.first pos p (Some v) None ne) refl

  -- it was not received at first either
  lacked : (o : Option Bool) → first_at s pos ≡ o → is_heard o ≡ false
  lacked o e = grind arith

  pub news-more : IsNews s u (set marks pos true) (set value pos v)
  news-more = grind (arith, get_or-set_at, here, lacked, get_or-set_other, there, cases_eq, length-set)

-- store and peeler after the news were learned, or if there was no news
module _ (s t : HeardBits) (marks value : List Bool) (news : IsNews s t marks value) (link : Link) (p : Peeling)
    (tied : IsTied link s p) where
  given-is : (k : ℕ) → (given link s k || bit marks k) ≡ given link t k
  given-is k = grind arith

  pub tied-still : ((k : ℕ) → bit marks k ≡ false) → IsTied link t p
  tied-still none = record {
    table = tied.table;
    graph = tied.graph;
    numbers = tied.numbers;
    long = news.long ∙ tied.long;
    positions =
        λ k. tied.positions k ∙ sym (or-false (given link s k)) ∙ ap (λ m. given link s k || m) (sym (none k)) ∙ given-is k;
    words = λ w plain has. tied.words w plain (λ k b is. has k b (news.kept k b is));
    peeled = tied.peeled;
  }

  pub tied-news : (q : Peeling) → IsSameCode p q → GivesAll (bit marks) p q → KeepsAllWords (bit marks) (bit value) p q
      → IsPeeled q → IsTied link t q
  tied-news q same gives words peeled = record {
    table = same.table ∙ tied.table;
    graph = same.graph ∙ tied.graph;
    numbers = same.numbers ∙ tied.numbers;
    long = news.long ∙ tied.long;
    positions = λ k. gives k ∙ ap (λ g. g || bit marks k) (tied.positions k) ∙ given-is k;
    words = λ w plain has. words w (subst (λ (c : Checks). Meets c w) (sym (same-checks link s p tied)) plain.meets)
        (tied.words w plain (λ k b is. has k b (news.kept k b is))) (λ k is. has k (bit value k) (news.bits k is));
    peeled = peeled;
  }

-- from the record of nothing to one of these marks and bits
pub news-kept : (s t : HeardBits) (marks value : List Bool) → ((p : ℕ) → first_at s p ≡ None)
    → length t.first ≡ length s.first
    → ((p : ℕ) → bit marks p ≡ is_heard (first_at t p))
    → ((p : ℕ) (b : Bool) → first_at t p ≡ Some b → bit value p ≡ b)
    → IsNews s t marks value
news-kept s t marks value none long marked valued = grind arith
