-- The bits that several transmissions send of several transport blocks, one after the other.
use Rattle.std.proofs.Common.{◌≡◌, ⊎_elim, refl, sym, ap, ap₂, ◌∙◌, ℕ, ◌+◌, ◌*◌, ◌-◌, ◌/◌}
use Rattle.std.proofs.Common.{◌<◌, ◌≤◌, suc, arith, true}
use Rattle.std.proofs.Common.{Bool, Result, Ok, Err, IfOk, IsOk, List, [], ◌∷◌, ◌++◌, flat_map, get_or, length, take}
use Rattle.std.proofs.Math.Nat.{suc-mul}
use Rattle.std.proofs.lemmas.Bool.{cases_lt}
use Rattle.std.proofs.lemmas.Bool.Decides.{nat_tests}
use Rattle.std.proofs.lemmas.List.{flat_map_more, get_or_append_left, get_or-append_right, length-append, take_all, take_more}
use Rattle.std.proofs.lemmas.List.Elements.{All-head, All-tail}
use Rattle.std.proofs.lemmas.List.Sums.{sum_by-cons}
use Rattle.std.proofs.lemmas.List.FromFn.{get_or-map-range_with_len, length-map-range_with_len}
use Rattle.nr_bitvec.proofs.OctetListFacts.{length-bits_of}
use Rattle.nr_bitvec.specs.BitList.{bits_of}
use Rattle.nr_blockdesk.proofs.LinkFacts.{link-blocks}
use Rattle.nr_blockdesk.specs.Link.{IsLink, Link, is_size, link_said}
use Rattle.nr_blockdesk.specs.Sent.{AcceptedSendAll, SenderView, sending_said, sent, tx_said}
use Rattle.nr_refusal.specs.Refusal.{with_fault}
use Rattle.nr_shifttable.specs.Accepted.{Entries}
use Rattle.nr_transmission.specs.declared.settings.Settings.{Settings}
use Rattle.nr_calls.specs.Crossing.{AreBits, digit, tx_of}
use Rattle.nr_calls.specs.Many.{first_rows, nth_row, places_sent}
use Rattle.nr_calls.specs.inside.Simulating.{AreAccepted}
use Rattle.nr_calls.specs.declared.crossing.NrTx.{NrTx}
use Rattle.nr_calls.specs.declared.fault.Fault.{Fault}
use Rattle.nr_calls.specs.declared.fault.Fault.TheVariants as fault
use Rattle.nr_calls.proofs.ManyFacts.{row-inside, row-long}
use Rattle.nr_calls.proofs.RoomFacts.{octets-of}

size-few : (a : ℕ) → is_size a ≡ true → a ≤ 1310720
size-few a is = grind (arith, nat_tests)

-- bits one after the other are in octets one after the other
pub bits-joined : (a b : List Bool) (xs ys : List ℕ) → AreBits a xs → AreBits b ys → AreBits (a ++ b) (xs ++ ys)
bits-joined a b xs ys first second = record {
  long = length-append xs ys ∙ ap₂ (λ m n. m + n) first.long second.long ∙ sym (length-append a b);
  each = λ m below. ⊎_elim
      (λ (lt : m < length a). get_or_append_left xs ys 0 m (omega (arith, lt, first.long)) ∙ first.each m lt
      ∙ ap digit (sym (get_or_append_left a b _ m lt)))
      (λ (ge : length a ≤ m). get_or-append_right xs ys (length a) m 0 first.long ge
      ∙ second.each (m - length a) (omega (arith, ge, below, length-append a b))
      ∙ ap digit (sym (get_or-append_right a b (length a) m _ refl ge)))
      (cases_lt m (length a));
}

-- one item more
pub joined-more : {X Y : Type 0} (f : X → List Y) (xs : List X) (k : ℕ) (d : X) (more : List Y) → k < length xs
    → more ≡ flat_map f (take k xs) ++ f (get_or xs k d) → more ≡ flat_map f (take (k + 1) xs)
joined-more f xs k d more inside is =
    is ∙ flat_map_more f [] (take k xs) (get_or xs k d) ∙ ap (flat_map f) (sym (take_more xs k d inside))

-- one row more
pub rows-more : {Y : Type 0} (f : List ℕ → List Y) (s n k : ℕ) (xs : List ℕ) (more : List Y) → k < n
    → more ≡ flat_map f (take k (first_rows s n xs)) ++ f (nth_row s k xs)
    → more ≡ flat_map f (take (k + 1) (first_rows s n xs))
rows-more f s n k xs more below is =
    let long : length (first_rows s n xs) ≡ n = length-map-range_with_len (λ j. nth_row s j xs) 0 n in
    let row : get_or (first_rows s n xs) k [] ≡ nth_row s k xs =
    get_or-map-range_with_len (λ j. nth_row s j xs) 0 n k k [] below (omega arith) in
    joined-more f (first_rows s n xs) k [] more (omega (arith, below, long))
    (is ∙ ap (λ r. flat_map f (take k (first_rows s n xs)) ++ f r) (sym row))

-- all rows
pub rows-done : {Y : Type 0} (f : List ℕ → List Y) (s n k : ℕ) (xs : List ℕ) (more : List Y) → k ≡ n
    → more ≡ flat_map f (take k (first_rows s n xs)) → more ≡ flat_map f (first_rows s n xs)
rows-done f s n k xs more is so =
    let long : length (first_rows s n xs) ≡ n = length-map-range_with_len (λ j. nth_row s j xs) 0 n in
    so ∙ ap (flat_map f) (take_all k (first_rows s n xs) (omega (arith, long, is)))

-- the accepted transmissions send as many bits as they have places
sent-long : AcceptedSendAll → (link : Link) (ts : List NrTx) (block : List Bool) → AreAccepted link ts
    → length (flat_map (λ t. sent link (tx_of t) block) ts) ≡ places_sent ts
sent-long all link [] block accepted = refl
sent-long all link (t ∷ ts) block accepted =
    length-append (sent link (tx_of t) block) (flat_map (λ x. sent link (tx_of x) block) ts)
    ∙ ap₂ (λ m n. m + n) (all link (tx_of t) block (All-head (λ x. IsOk (tx_said link (tx_of x))) t ts accepted))
    (sent-long all link ts block (All-tail (λ x. IsOk (tx_said link (tx_of x))) t ts accepted))
    ∙ sym (sum_by-cons (λ (x : NrTx). x.g) t ts)

-- lists of one length are together so many times as long
times-long : {Y : Type 0} (f : List ℕ → List Y) (rows : List (List ℕ)) (p : ℕ)
    → ((row : List ℕ) → length (f row) ≡ p)
    → length (flat_map f rows) ≡ length rows * p
times-long f [] p long = omega arith
times-long f (row ∷ rows) p long =
    let both : p + length rows * p ≡ suc (length rows) * p = omega (arith, suc-mul (length rows) p) in
    length-append (f row) (flat_map f rows) ∙ ap₂ (λ m n. m + n) (long row) (times-long f rows p long) ∙ both

-- how many bits are sent of all rows
pub all-long : AcceptedSendAll → (link : Link) (ts : List NrTx) (s n : ℕ) (octets : List ℕ) → AreAccepted link ts
    → length (flat_map (λ row. flat_map (λ t. sent link (tx_of t) (bits_of row)) ts) (first_rows s n octets))
    ≡ n * places_sent ts
all-long all link ts s n octets accepted =
    times-long (λ row. flat_map (λ t. sent link (tx_of t) (bits_of row)) ts) (first_rows s n octets) (places_sent ts)
    (λ row. sent-long all link ts (bits_of row) accepted)
    ∙ ap (λ m. m * places_sent ts) (length-map-range_with_len (λ j. nth_row s j octets) 0 n)

-- what is made has this length
pub made-room : {V : Type 0} (view : V → List Bool) (r : Result V Fault) (made : List Bool) (n : ℕ)
    → IfOk r (λ v. view v ≡ made) → length made ≡ n → IfOk r (λ v. length (view v) ≡ n)
made-room view (Ok v) made n is long = ap length is ∙ long
made-room view (Err e) made n is long = tt

same-ok : (x y : SenderView) (r : Result SenderView Fault) → r ≡ Ok x → r ≡ Ok y → x ≡ y
same-ok x y r a b = cc

-- the sender of a block of the link's size
pub sender_over_link : (table : Entries) (s : Settings) (block : List Bool) (link : Link) (sender : SenderView)
    → link_said table s (length block) ≡ Ok link → with_fault fault.Desk (sending_said table s block) ≡ Ok sender
    → sender ≡ record { link = link; block = block }
sender_over_link table s block link sender linked said =
    let made : SenderView = record { link = link; block = block } in
    let is : with_fault fault.Desk (sending_said table s block) ≡ Ok made = rw linked refl in
    same-ok sender made (with_fault fault.Desk (sending_said table s block)) said is

-- a block of the link's size has no more octets than a block may have
pub block-few : (table : Entries) (s : Settings) (octets : List ℕ) (link : Link) → IsLink link
    → link_said table s (length (bits_of octets)) ≡ Ok link → length octets ≤ 163840
block-few table s octets link sound linked =
    let sized : length (bits_of octets) ≡ link.a = link-blocks table s (length (bits_of octets)) link linked in
    let most : link.a ≤ 1310720 = size-few link.a sound.size in
    omega (arith, sized, most, length-bits_of octets)

-- a row has a bits
pub row-bits : (table : Entries) (s : Settings) (a : ℕ) (link : Link) (n k : ℕ) (octets : List ℕ) → IsLink link
    → link_said table s a ≡ Ok link → k < n → length octets ≡ n * (a / 8)
    → length (bits_of (nth_row (a / 8) k octets)) ≡ a
row-bits table s a link n k octets sound linked below whole =
    let sized : a ≡ link.a = link-blocks table s a link linked in
    let eighth : 8 * (a / 8) ≡ a = octets-of a (ap is_size sized ∙ sound.size) in
    let long : length (nth_row (a / 8) k octets) ≡ a / 8 =
    row-long (a / 8) k octets (row-inside (a / 8) k n (length octets) below whole) in
    length-bits_of (nth_row (a / 8) k octets) ∙ ap (λ m. 8 * m) long ∙ eighth
