-- What a round hears as zeros, and that its result is that of every transport block over the same erasures.
use Rattle.std.proofs.Common.{◌≡◌, ◌≢◌, ℕ, zero, suc, ◌+◌, ◌*◌, ◌<◌, ◌==◌, Bool, true, false, not}
use Rattle.std.proofs.Common.{cond, if◌then◌else◌, Option, Some, None, List, [], ◌∷◌, ◌++◌, All, length, map, take}
use Rattle.std.proofs.Common.{replicate, get_or, refl, sym, ap, subst, ◌∙◌, arith}
use Rattle.std.proofs.lemmas.List.{append-nil, append_assoc, length-append, length-map, length-replicate}
use Rattle.std.proofs.lemmas.List.Elements.{All-map, All-take}
use Rattle.std.proofs.Math.Nat.{suc-mul}
use Rattle.std.proofs.lemmas.List.FromFn.{fill_by_all, length-map-range_with_len}
use Rattle.std.proofs.lemmas.Grind.{flat_map-append}
use Rattle.std.proofs.lemmas.Simd.{map-map}
use Rattle.std.proofs.lemmas.Slice.Zip.{length-zip}
use Rattle.std.specs.List.{find, flat_map, list_all, range_with_len, zip}
use Rattle.std.specs.Prelude.{unwrap_or}
use Rattle.nr_bitvec.specs.Bit.{bit}
use Rattle.nr_bitvec.proofs.ListFacts.{range_with_len-add}
use Rattle.nr_harqbuf.specs.Record.{HeardBits}
use Rattle.nr_blockdesk.specs.Explains.{IsAccepted, Reception, reception}
use Rattle.nr_blockdesk.specs.Heard.{heard_record}
use Rattle.nr_blockdesk.specs.Link.{IsBlock, IsLink, Link}
use Rattle.nr_blockdesk.specs.Marks.{heards, heards_from, place_heard}
use Rattle.nr_blockdesk.specs.Outcome.{all_fixed, contradiction, left, open_still, outcome_of, verdict_on}
use Rattle.nr_blockdesk.specs.PlacesLaws.{AreLeftAlike, ErasuresDecide, is_received, places_in}
use Rattle.nr_blockdesk.specs.ReceiverLaws.{ErasuresAreSafe, IsMarked, arrived_bit, what_arrives}
use Rattle.nr_blockdesk.specs.Sent.{AcceptedSendAll, sent}
use Rattle.nr_blockdesk.specs.declared.heard.Heard.{Heard}
use Rattle.nr_transmission.specs.declared.tx.Tx.{Tx}
use Rattle.nr_calls.specs.Findings.{lefts}
use Rattle.nr_calls.specs.inside.{Batches.HasCome, Simulating.drawn_reception}
use Rattle.nr_calls.specs.Simulating.{Simulation, arrived, delivered_within, erased_counts, erased_in, erased_row, is_handed_up}
use Rattle.nr_calls.specs.Simulating.{left_row, row_unless, simulated}
use Rattle.nr_calls.proofs.AcceptedFacts.{accepted-places}

-- what arrives of so many bits, with the marks of the erased places
abbrev arriving : List Bool → List Bool → List Heard
arriving marks bits = map (λ at. arrived_bit at.0 at.1) (zip marks bits)

-- a bit is received at a place with this mark, whatever the bit is
received-place : (a b : Bool) → is_received (place_heard a b) ≡ a
received-place a b = grind arith

pub received-heards : (marks bits : List Bool) → map is_received (heards marks bits) ≡ marks
unfolding heards_from
received-heards marks bits =
    map-map is_received (λ m. place_heard (bit marks m) (bit bits m)) (range_with_len 0 (length marks))
    ∙ sym (fill_by_all (λ m. is_received (place_heard (bit marks m) (bit bits m))) marks (length marks) false refl
    (λ k below. sym (received-place (bit marks k) (bit bits k))))

-- and at a place that is not erased
received-bit : (e b : Bool) → is_received (arrived_bit e b) ≡ not e
received-bit e b = grind arith

received-arriving : (marks bits : List Bool) → length marks ≡ length bits
    → map is_received (arriving marks bits) ≡ map not marks
received-arriving [] bits long = refl
received-arriving (e ∷ marks) [] long = absurd (omega (arith, long))
received-arriving (e ∷ marks) (b ∷ bits) long =
    ap (λ r. r ∷ map is_received (arriving marks bits)) (received-bit e b)
    ∙ ap (λ (l : List Bool). not e ∷ l) (received-arriving marks bits (omega (arith, long)))

-- what is heard as zeros has the places of what arrives
places-alike : AcceptedSendAll → (link : Link) (block : List Bool) (round : List (Tx × List Bool)) → All (IsMarked link) round
    → places_in (map drawn_reception round) ≡ places_in (what_arrives link block round)
places-alike all link block [] marked = refl
places-alike all link block (x ∷ round) marked =
    let this : IsMarked link x = marked 0 x (omega arith) in
    let long : length x.1 ≡ length (sent link x.0 block) = this.1 ∙ sym (all link x.0 block this.0) in
    let here : map is_received (heards (map not x.1) x.1) ≡ map is_received (arriving x.1 (sent link x.0 block)) =
    received-heards (map not x.1) x.1 ∙ sym (received-arriving x.1 (sent link x.0 block) long) in
    ap (λ (m : List Bool). (x.0, m) ∷ places_in (map drawn_reception round)) here
    ∙ ap (λ (l : List (Tx × List Bool)). (x.0, map is_received (arriving x.1 (sent link x.0 block))) ∷ l)
    (places-alike all link block round (λ k d inside. marked (suc k) d (omega (arith, inside))))

-- what arrives of marked transmissions is accepted
accepted-arriving : AcceptedSendAll → (link : Link) (block : List Bool) (x : Tx × List Bool) → IsMarked link x
    → IsAccepted link (reception x.0 (arriving x.1 (sent link x.0 block)))
accepted-arriving all link block x marked =
    let long : length (arriving x.1 (sent link x.0 block)) ≡ x.0.g =
    grind (arith, length-map, length-zip, marked.1, all link x.0 block marked.0) in
    accepted-places link x.0 (arriving x.1 (sent link x.0 block)) marked.0 long

all-accepted : AcceptedSendAll → (link : Link) (block : List Bool) (round : List (Tx × List Bool)) → All (IsMarked link) round
    → All (IsAccepted link) (what_arrives link block round)
all-accepted all link block round marked =
    All-map (IsAccepted link) (λ (x : Tx × List Bool). reception x.0 (arriving x.1 (sent link x.0 block))) round
    (λ k d inside. accepted-arriving all link block _ (marked k d inside))

-- if no outcome is a contradiction, a block is delivered exactly if every position below K' is fixed
delivered-by : (fixed : Bool) (found : Option (List Bool)) → cond fixed (verdict_on found) open_still ≢ contradiction
    → is_handed_up (cond fixed (verdict_on found) open_still) ≡ fixed
delivered-by true (Some block) never = refl
delivered-by true None never = absurd (never refl)
delivered-by false found never = refl

delivered-fixed : (link : Link) (list : List Reception) → outcome_of link list ≢ contradiction
    → is_handed_up (outcome_of link list) ≡ all_fixed link (heard_record link list)
unfolding outcome_of
delivered-fixed link list never = delivered-by (all_fixed link (heard_record link list)) _ never

-- two lists of receptions that leave as many positions
lefts-alike : (link : Link) (x y : List Reception) → AreLeftAlike link x y
    → lefts link (heard_record link x) ≡ lefts link (heard_record link y)
lefts-alike link x y alike = ap (λ (f : ℕ → ℕ). map f (range_with_len 0 link.plan.c)) (λ i r. alike.as_many r i)

fixed-alike : (link : Link) (x y : List Reception) → AreLeftAlike link x y
    → all_fixed link (heard_record link x) ≡ all_fixed link (heard_record link y)
fixed-alike link x y alike =
    ap (λ (f : ℕ → ℕ). list_all (λ r. f r == 0) (range_with_len 0 link.plan.c)) (λ i r. alike.as_many r i)

-- the laws that a simulation rests on
pub record Laws : Type 0 where
  pub all : AcceptedSendAll
  pub decide : ErasuresDecide
  pub safe : ErasuresAreSafe

-- the result of the first n transmissions of a round, heard as zeros
module _ (laws : Laws) (link : Link) (block : List Bool) (round : List (Tx × List Bool)) (is : IsLink link)
    (whole : IsBlock link block) (marked : All (IsMarked link) round) (n : ℕ) where
  abbrev pub heard : List Reception
  heard = map drawn_reception (take n round)

  alike : AreLeftAlike link heard (arrived link block round n)
  alike = laws.decide link heard (arrived link block round n)
      (places-alike laws.all link block (take n round) (All-take (IsMarked link) n round marked))

  pub left-as-arrived : lefts link (heard_record link heard) ≡ lefts link (heard_record link (arrived link block round n))
  left-as-arrived = lefts-alike link heard (arrived link block round n) alike

  pub fixed-as-delivered : all_fixed link (heard_record link heard) ≡ is_handed_up (outcome_of link (arrived link block round n))
  fixed-as-delivered =
      let accepted = all-accepted laws.all link block (take n round) (All-take (IsMarked link) n round marked) in
      fixed-alike link heard (arrived link block round n) alike
      ∙ sym (delivered-fixed link (arrived link block round n)
      (laws.safe link block (take n round) is whole accepted).no_contradiction)

-- rows for one more transmission
pub rows-more : (f : ℕ → List ℕ) (k : ℕ) (row before rows : List ℕ) → rows ≡ before ++ flat_map f (range_with_len 0 k)
    → row ≡ f k
    → rows ++ row ≡ before ++ flat_map f (range_with_len 0 (k + 1))
rows-more f k row before rows so_far is =
    let e : 0 + k ≡ k = omega arith in
    rw (so_far, is, range_with_len-add 0 k 1, flat_map-append, e)
    (append_assoc before (flat_map f (range_with_len 0 k)) (f k)
    ∙ ap (λ (l : List ℕ). before ++ (flat_map f (range_with_len 0 k) ++ l)) (sym (append-nil (f k))))

-- the first of n numbers from a on that passes, and 0 if none does
abbrev first_of : (ℕ → Bool) → ℕ → ℕ → ℕ
first_of p a n = unwrap_or (find p (range_with_len a n)) 0

-- a number is put before others
first-before : (p : ℕ → Bool) (a n m : ℕ) → 0 < a
    → first_of p (a + 1) (suc n) ≡ (if first_of p (a + 1) n == 0 then (if p m then m else 0) else first_of p (a + 1) n)
    → (b : Bool)
    → unwrap_or (cond b (Some a) (find p (range_with_len (a + 1) (suc n)))) 0
    ≡ (if unwrap_or (cond b (Some a) (find p (range_with_len (a + 1) n))) 0 == 0
    then (if p m then m else 0) else unwrap_or (cond b (Some a) (find p (range_with_len (a + 1) n))) 0)
first-before p a n m some more true = rw no-zero refl
  where
    no-zero : (a == 0) ≡ false
    no-zero = grind (arith, some)
first-before p a n m some more false = more

first-last : (a : ℕ) (b : Bool) → unwrap_or (cond b (Some a) None) 0 ≡ (if b then a else 0)
first-last a true = refl
first-last a false = refl

-- of one number more
first-more : (n : ℕ) (p : ℕ → Bool) (a : ℕ) → 0 < a
    → first_of p a (suc n) ≡ (if first_of p a n == 0 then (if p (a + n) then a + n else 0) else first_of p a n)
first-more zero p a some =
    let last : a ≡ a + 0 = omega arith in
    subst (λ m. unwrap_or (cond (p a) (Some a) None) 0 ≡ (if p m then m else 0)) last (first-last a (p a))
first-more (suc n) p a some =
    let next : a + 1 + n ≡ a + suc n = omega arith in
    let more = first-more n p (a + 1) (omega arith) in
    first-before p a n (a + suc n) some
    (subst (λ m. first_of p (a + 1) (suc n)
    ≡ (if first_of p (a + 1) n == 0 then (if p m then m else 0) else first_of p (a + 1) n)) next more) (p a)

-- after one transmission more
within-more : (link : Link) (block : List Bool) (round : List (Tx × List Bool)) (k : ℕ)
    → delivered_within link block round (k + 1)
    ≡ (if delivered_within link block round k == 0
    then (if is_handed_up (outcome_of link (arrived link block round (k + 1))) then k + 1 else 0)
    else delivered_within link block round k)
unfolding delivered_within
within-more link block round k =
    let p : ℕ → Bool = λ n. is_handed_up (outcome_of link (arrived link block round n)) in
    let next : 1 + k ≡ k + 1 = omega arith in
    let count : k + 1 ≡ suc k = omega arith in
    ap (first_of p 1) count
    ∙ subst (λ m. first_of p 1 (suc k) ≡ (if first_of p 1 k == 0 then (if p m then m else 0) else first_of p 1 k)) next
    (first-more k p 1 (omega arith))

pub none-come : (link : Link) (block : List Bool) (round : List (Tx × List Bool)) (left erased : List ℕ)
    → HasCome link block round 0 0 left erased left erased
unfolding delivered_within
none-come link block round left erased =
    record { delivered_is = refl; left_is = sym (append-nil left); erased_is = sym (append-nil erased) }

-- the block was delivered before
later-row : (link : Link) (block : List Bool) (round : List (Tx × List Bool)) (k d : ℕ) (row : List ℕ)
    → d ≡ delivered_within link block round k → 0 < d
    → replicate link.plan.c 0 ≡ row_unless link block round k row
later-row link block round k d row is some = rw (sym is, some-is-no-zero) refl
  where
    some-is-no-zero : (d == 0) ≡ false
    some-is-no-zero = grind arith

stays : (link : Link) (block : List Bool) (round : List (Tx × List Bool)) (k : ℕ) {d : ℕ}
    → d ≡ delivered_within link block round k
    → (d == 0) ≡ false
    → delivered_within link block round (k + 1) ≡ delivered_within link block round k
stays link block round k is none =
    let some : (delivered_within link block round k == 0) ≡ false = rw is at none in
    within-more link block round k ∙ rw some refl

pub later-come : (link : Link) (block : List Bool) (round : List (Tx × List Bool)) (k d : ℕ)
    (left-before erased-before left erased new-left new-erased : List ℕ)
    → HasCome link block round k d left-before erased-before left erased → 0 < d
    → new-left ≡ left ++ replicate link.plan.c 0
    → new-erased ≡ erased ++ replicate link.plan.c 0
    → HasCome link block round (k + 1) d left-before erased-before new-left new-erased
later-come link block round k d left-before erased-before left erased new-left new-erased h some more-left more-erased = record {
  delivered_is = h.delivered_is ∙ sym (stays link block round k (h.delivered_is) none);
  left_is = more-left
      ∙ rows-more (left_row link block round) k _ left-before left h.left_is
      (later-row link block round k d _ h.delivered_is some);
  erased_is = more-erased ∙ rows-more (erased_row link block round) k _ erased-before erased h.erased_is
      (later-row link block round k d _ h.delivered_is some);
}
  where
    none : (d == 0) ≡ false
    none = grind arith

-- it was not, and it is delivered after this transmission or still is not
first-step : (link : Link) (block : List Bool) (round : List (Tx × List Bool)) (k : ℕ) (fixed : Bool)
    → delivered_within link block round k ≡ 0
    → fixed ≡ is_handed_up (outcome_of link (arrived link block round (k + 1)))
    → (if fixed then k + 1 else 0) ≡ delivered_within link block round (k + 1)
first-step link block round k fixed none is = rw is (sym (within-more link block round k ∙ rw none refl))

module _ (laws : Laws) (link : Link) (block : List Bool) (round : List (Tx × List Bool)) (is : IsLink link)
    (whole : IsBlock link block) (marked : All (IsMarked link) round) where
  pub heard-come : (k : ℕ) (records : List HeardBits) (fixed : Bool)
      (left-before erased-before left erased new-left new-erased row : List ℕ)
      → HasCome link block round k 0 left-before erased-before left erased → records
      ≡ heard_record link (map drawn_reception (take (k + 1) round))
      → fixed ≡ all_fixed link records → row ≡ get_or (map (erased_counts link) round) k []
      → new-left ≡ left ++ lefts link records
      → new-erased ≡ erased ++ row
      → HasCome link block round (k + 1) (if fixed then k + 1 else 0) left-before erased-before new-left new-erased
  heard-come k records fixed left-before erased-before left erased new-left new-erased row h recorded fixed-is row-is more-left
      more-erased =
      let first : delivered_within link block round k ≡ 0 = sym h.delivered_is in
      let left-is : lefts link records ≡ left_row link block round k =
      rw (recorded, first) (left-as-arrived laws link block round is whole marked (k + 1)) in
      let erased-is : row ≡ erased_row link block round k = rw (row-is, first) refl in
      let told : fixed ≡ is_handed_up (outcome_of link (arrived link block round (k + 1))) =
      fixed-is ∙ rw recorded (fixed-as-delivered laws link block round is whole marked (k + 1)) in
      record {
        delivered_is = first-step link block round k fixed first told;
        left_is = more-left ∙ rows-more (left_row link block round) k _ left-before left h.left_is left-is;
        erased_is = more-erased ∙ rows-more (erased_row link block round) k _ erased-before erased h.erased_is erased-is;
      }

-- how long the rows are
row-long : (link : Link) (block : List Bool) (round : List (Tx × List Bool)) (k : ℕ) (row : List ℕ)
    → length row ≡ link.plan.c
    → length (row_unless link block round k row) ≡ link.plan.c
row-long link block round k row long = go (delivered_within link block round k == 0)
  where
    go : (b : Bool) → length (if b then row else replicate link.plan.c 0) ≡ link.plan.c
    go true = long
    go false = length-replicate link.plan.c 0

pub rows-long : (f : ℕ → List ℕ) (m n : ℕ) → ((k : ℕ) → k < n → length (f k) ≡ m)
    → length (flat_map f (range_with_len 0 n)) ≡ n * m
rows-long f m zero each = omega arith
rows-long f m (suc n) each =
    let e : suc n ≡ n + 1 = omega arith in
    let last : 0 + n ≡ n = omega arith in
    ap (λ k. length (flat_map f (range_with_len 0 k))) e
    ∙ ap length (ap (flat_map f) (range_with_len-add 0 n 1) ∙ flat_map-append f (range_with_len 0 n) ((0 + n) ∷ []))
    ∙ length-append (flat_map f (range_with_len 0 n)) (flat_map f ((0 + n) ∷ []))
    ∙ rw (last, rows-long f m n (λ k below. each k (omega (arith, below))), append-nil (f n), each n (omega arith))
    (sym (suc-mul n m))

pub left-row-long : (link : Link) (block : List Bool) (round : List (Tx × List Bool)) (k : ℕ)
    → length (left_row link block round k) ≡ link.plan.c
left-row-long link block round k =
    row-long link block round k _
    (length-map-range_with_len (left link (heard_record link (arrived link block round (k + 1)))) 0 link.plan.c)

pub erased-row-long : (link : Link) (block : List Bool) (round : List (Tx × List Bool)) (k : ℕ) → k < length round
    → length (erased_row link block round k) ≡ link.plan.c
erased-row-long link block round k inside =
    row-long link block round k _ (long round k inside)
  where
    long : (round : List (Tx × List Bool)) (k : ℕ) → k < length round
        → length (get_or (map (erased_counts link) round) k []) ≡ link.plan.c
    long [] k inside = absurd (omega (arith, inside))
    long (x ∷ round) zero inside = length-map-range_with_len (erased_in link x) 0 link.plan.c
    long (x ∷ round) (suc k) inside = long round k (omega (arith, inside))

-- how long the places are that rounds fill
pub record AreLong (s : Simulation) (n t c : ℕ) : Type 0 where
  pub delivered : length s.delivered ≡ n
  pub left : length s.left ≡ n * (t * c)
  pub erased : length s.erased ≡ n * (t * c)

pub simulated-long : (link : Link) (block : List Bool) (rounds : ℕ → List (Tx × List Bool)) (t n : ℕ)
    → ((i : ℕ) → i < n → length (rounds i) ≡ t)
    → AreLong (simulated link block rounds t n) n t link.plan.c
unfolding simulated
simulated-long link block rounds t n each = record {
  delivered = length-map-range_with_len (λ i. delivered_within link block (rounds i) t) 0 n;
  left = rows-long (λ i. flat_map (left_row link block (rounds i)) (range_with_len 0 t)) (t * link.plan.c) n
      (λ i below. rows-long (left_row link block (rounds i)) link.plan.c t (λ k inside. left-row-long link block (rounds i) k));
  erased = rows-long (λ i. flat_map (erased_row link block (rounds i)) (range_with_len 0 t)) (t * link.plan.c) n
      (λ i below. rows-long (erased_row link block (rounds i)) link.plan.c t
      (λ k inside. erased-row-long link block (rounds i) k (omega (arith, inside, each i below))));
}
