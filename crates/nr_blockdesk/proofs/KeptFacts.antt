-- What becomes of any record when more is heard: every record is that of some hearings.
use Rattle.nr_blockdesk.proofs.Common.{nat_tests, ◌≡◌, ℕ, ◌+◌, ◌<◌, Bool, true, false, List, [], ◌∷◌}
use Rattle.nr_blockdesk.proofs.Common.{◌++◌, length, replicate, All, refl, sym, ap, subst, ◌∙◌, append_assoc, arith}
use Rattle.nr_blockdesk.proofs.Common.{Option, Some, None, Ok, eq-eqb, append-nil, ext_get_or, get_or-replicate, length-append}
use Rattle.nr_blockdesk.proofs.Common.{get_or-map-range_with_len, length-map-range_with_len, get_or-append_seam, Hearing, HeardBits}
use Rattle.nr_blockdesk.proofs.Common.{RecordContinues, first_heard, heard_as, record_of, with_hearing, word_size, IsAccepted}
use Rattle.nr_blockdesk.proofs.Common.{Reception, hearing_said_of, reception_said, heard_more, heard_of, heard_record, hearings}
use Rattle.nr_blockdesk.proofs.Common.{AcceptedAreMatched, PartsAreAt, SentBitsAreAt, PlacesHaveOneOwner, Tx, StoresPart, piece}
use Rattle.nr_blockdesk.proofs.Common.{length-replicate, All-cons, All-head, All-nil, All-push, All-tail, fill_by_all}
use Rattle.nr_blockdesk.proofs.Common.{hearings_in, IsLink, Link, RecordsContinue, heards, reception_by, AreStoresFor}
use Rattle.nr_blockdesk.{specs.inside.Receiving.StoresAll, proofs.RecordFacts.record-at, proofs.RecordFacts.told-below}
use Rattle.nr_blockdesk.proofs.MarkFacts.{length-heards}
use Rattle.nr_blockdesk.proofs.ReceptionFacts.{hearings-more, hearings-told, length-record, said_by, tx-from}
use Rattle.std.{specs.Prelude.fold, proofs.Math.Seq.set-append_seam}
use Rattle.nr_harqbuf.specs.Record.{clashes}

-- hearing more of a record of hearings is the record of all
pub heard-in_turn : RecordContinues → (n : ℕ) (hs more : List Hearing) → All (λ (h : Hearing). h.0 < n) more
    → fold with_hearing (record_of n hs) more ≡ record_of n (hs ++ more)
heard-in_turn continues n hs [] below = ap (record_of n) (sym (append-nil hs))
heard-in_turn continues n hs (h ∷ more) below =
    ap (λ s. fold with_hearing s more) (continues n hs h (All-head (λ (h : Hearing). h.0 < n) h more below))
    ∙ heard-in_turn continues n (hs ++ h ∷ []) more (All-tail (λ (h : Hearing). h.0 < n) h more below)
    ∙ ap (record_of n) (append_assoc hs (h ∷ []) more)

-- hearings that have these first bits, the first at position k
first_hearings : ℕ → List (Option Bool) → List Hearing
first_hearings k [] = []
first_hearings k (None ∷ firsts) = first_hearings (k + 1) firsts
first_hearings k (Some b ∷ firsts) = (k, b) ∷ first_hearings (k + 1) firsts

firsts-below : (n k : ℕ) (firsts : List (Option Bool)) → k + length firsts ≡ n
    → All (λ (h : Hearing). h.0 < n) (first_hearings k firsts)
unfolding first_hearings
firsts-below n k [] long = All-nil (λ (h : Hearing). h.0 < n)
firsts-below n k (None ∷ firsts) long = firsts-below n (k + 1) firsts (omega (arith, long))
firsts-below n k (Some b ∷ firsts) long = All-cons (λ (h : Hearing). h.0 < n) (k, b) (first_hearings (k + 1) firsts)
    (omega (arith, long)) (firsts-below n (k + 1) firsts (omega (arith, long)))

-- a record of some first bits
abbrev record_with : List (Option Bool) → Bool → HeardBits
record_with firsts clash = record { first = firsts; clash = clash }

-- a first bit is heard where there was none
set-next : (before after : List (Option Bool)) (clash b : Bool)
    → with_hearing (record_with (before ++ None ∷ after) clash) (length before, b)
    ≡ record_with (before ++ Some b ∷ after) clash
unfolding with_hearing
set-next before after clash b =
    rw (get_or-append_seam before None after None, set-append_seam before None after (Some b)) (grind arith)

-- first bits are heard, one after another
heard-firsts : (before firsts : List (Option Bool)) (clash : Bool)
    → fold with_hearing (record_with (before ++ replicate (length firsts) None) clash) (first_hearings (length before) firsts)
    ≡ record_with (before ++ firsts) clash
unfolding first_hearings
heard-firsts before [] clash = refl
heard-firsts before (None ∷ firsts) clash =
    let next : before ++ None ∷ replicate (length firsts) None ≡ (before ++ None ∷ []) ++ replicate (length firsts) None =
    sym (append_assoc before (None ∷ []) (replicate (length firsts) None)) in
    let long : length before + 1 ≡ length (before ++ None ∷ []) = sym (length-append before (None ∷ [])) in
    rw (next, long) (heard-firsts (before ++ None ∷ []) firsts clash
    ∙ ap (λ fs. record_with fs clash) (append_assoc before (None ∷ []) firsts))
heard-firsts before (Some b ∷ firsts) clash =
    let next : before ++ Some b ∷ replicate (length firsts) None ≡ (before ++ Some b ∷ []) ++ replicate (length firsts) None =
    sym (append_assoc before (Some b ∷ []) (replicate (length firsts) None)) in
    let long : length before + 1 ≡ length (before ++ Some b ∷ []) = sym (length-append before (Some b ∷ [])) in
    ap (λ s. fold with_hearing s (first_hearings (length before + 1) firsts))
    (set-next before (replicate (length firsts) None) clash b)
    ∙ rw (next, long) (heard-firsts (before ++ Some b ∷ []) firsts clash
    ∙ ap (λ fs. record_with fs clash) (append_assoc before (Some b ∷ []) firsts))

-- hearings past all positions that say only whether some position has both bits
clash_hearings : ℕ → Bool → List Hearing
clash_hearings n false = []
clash_hearings n true = (n, true) ∷ (n, false) ∷ []

past-none : (n p : ℕ) (clash : Bool) → p < n → first_heard (clash_hearings n clash) p ≡ None
unfolding first_heard clash_hearings
past-none n p true below = grind (arith, nat_tests)
past-none n p false below = refl

clash-is : (n : ℕ) (clash : Bool) → clashes (clash_hearings n clash) ≡ clash
unfolding clashes heard_as clash_hearings
clash-is n true = rw (eq-eqb n n refl) refl
clash-is n false = refl

past-record : (n : ℕ) (clash : Bool) → record_of n (clash_hearings n clash) ≡ record_with (replicate n None) clash
past-record n clash = rw (
  ← fill_by_all (first_heard (clash_hearings n clash)) (replicate n None) n None (length-replicate n None)
      (λ k below. get_or-replicate n k None None below ∙ sym (past-none n k clash below)),
  clash-is n clash,
) refl

-- hearings that have this record
pub record HasHearings (s : HeardBits) : Type 0 where
  pub hearings : List Hearing
  pub same : s ≡ record_of (length s.first) hearings

-- every record is that of some hearings
pub some-hearings : RecordContinues → (s : HeardBits) → HasHearings s
some-hearings continues s =
    let n = length s.first in
    record {
      hearings = clash_hearings n s.clash ++ first_hearings 0 s.first;
      same = sym (heard-firsts [] s.first s.clash)
          ∙ ap (λ t. fold with_hearing t (first_hearings 0 s.first)) (sym (past-record n s.clash))
          ∙ heard-in_turn continues n (clash_hearings n s.clash) (first_hearings 0 s.first)
          (firsts-below n 0 s.first (omega arith));
    }

-- so a store that hears more keeps what it had, whatever that was
pub stored-in_turn : RecordContinues → (more : List Hearing) (s t : HeardBits)
    → All (λ (h : Hearing). h.0 < length s.first) more
    → StoresAll more s t → t ≡ fold with_hearing s more
stored-in_turn continues more s t below stored =
    let has = some-hearings continues s in
    stored.recorded has.hearings has.same
    ∙ sym (heard-in_turn continues (length s.first) has.hearings more below)
    ∙ ap (λ r. fold with_hearing r more) (sym has.same)

-- the record of code block r after one more reception
pub more-at : (link : Link) (records : List HeardBits) (x : Reception) (r : ℕ) → r < link.plan.c
    → heard_of (heard_more link records x) r ≡ fold with_hearing (heard_of records r) (hearings_in link r x)
unfolding heard_more
more-at link records x r inside = get_or-map-range_with_len
    (λ (r : ℕ). fold with_hearing (heard_of records r) (hearings_in link r x)) 0 link.plan.c r r
    (record { first = []; clash = false }) inside (omega arith)

pub length-more : (link : Link) (records : List HeardBits) (x : Reception) → length (heard_more link records x) ≡ link.plan.c
unfolding heard_more
length-more link records x =
    length-map-range_with_len (λ (r : ℕ). fold with_hearing (heard_of records r) (hearings_in link r x)) 0 link.plan.c

-- one more reception makes the record of the longer list
pub records-continue : AcceptedAreMatched → SentBitsAreAt → RecordContinues → RecordsContinue
records-continue matched at continues link list records x is accepted of = record {
  accepted = All-push (IsAccepted link) list x of.accepted accepted;
  same = ext_get_or (record { first = []; clash = false }) (heard_more link records x) (heard_record link (list ++ x ∷ []))
      (length-more link records x ∙ sym (length-record link (list ++ x ∷ [])))
      (λ r inside. here r (rw (← length-more link records x) inside));
}
  where
    here : (r : ℕ) → r < link.plan.c → heard_of (heard_more link records x) r
        ≡ heard_of (heard_record link (list ++ x ∷ [])) r
    here r block =
        more-at link records x r block
        ∙ ap (λ s. fold with_hearing s (hearings_in link r x))
        (ap (λ (l : List HeardBits). heard_of l r) of.same ∙ record-at link list r block)
        ∙ heard-in_turn continues (word_size link.graph link.plan) (hearings link list r) (hearings_in link r x)
        (told-below matched at link r x is accepted)
        ∙ ap (record_of (word_size link.graph link.plan)) (sym (hearings-more link list x r))
        ∙ sym (record-at link (list ++ x ∷ []) r block)

-- the records of all code blocks, after each has received its part
pub all-kept : PartsAreAt → PlacesHaveOneOwner → AcceptedAreMatched → SentBitsAreAt → RecordContinues
    → (link : Link) (tx : Tx) (es : List ℕ) (marks bits : List Bool) (n : ℕ) (S S' : List HeardBits)
    → IsLink link → AreStoresFor link S → n ≡ length marks → hearing_said_of link.plan.c tx n ≡ Ok es → n ≡ tx.g
    → length S' ≡ length S
    → ((r : ℕ) → r < link.plan.c
    → StoresPart link.buffer tx (piece es (heards marks bits) r) (heard_of S r) (heard_of S' r))
    → S' ≡ heard_more link S (reception_by tx marks bits)
all-kept parts owners matched at continues link tx es marks bits n S S' is fit long-is heard whole many hears =
    ext_get_or (record { first = []; clash = false }) S' (heard_more link S x)
    (many ∙ fit.many ∙ sym (length-more link S x))
    (λ r inside. here r (rw (many ∙ fit.many) at inside))
  where
    x : Reception
    x = reception_by tx marks bits

    said : reception_said link x ≡ Ok es
    said = said_by link.plan.c tx marks bits n (Ok es) long-is heard

    here : (r : ℕ) → r < link.plan.c → heard_of S' r ≡ heard_of (heard_more link S x) r
    here r block =
        let told = hearings-told parts owners matched link tx es x.heard r is (tx-from link x es said)
        (length-heards marks bits 0 (length marks) ∙ sym long-is ∙ whole) block in
        stored-in_turn continues (hearings_in link r x) (heard_of S r) (heard_of S' r)
        (subst (λ m. All (λ (h : Hearing). h.0 < m) (hearings_in link r x)) (sym (fit.long r block))
        (told-below matched at link r x is (es, said)))
        (subst (λ hs. StoresAll hs (heard_of S r) (heard_of S' r)) (sym told) (hears r block))
        ∙ sym (more-at link S x r block)
