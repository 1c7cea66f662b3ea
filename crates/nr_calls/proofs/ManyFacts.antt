-- Results of each item of a list, and rows of one size.
use Rattle.std.proofs.Common.{◌≡◌, refl, sym, ap, ◌∙◌, ℕ, ◌+◌, ◌*◌, ◌-◌, ◌<◌, ◌≤◌, zero, suc}
use Rattle.std.proofs.Common.{arith}
use Rattle.std.proofs.Common.{List, [], ◌∷◌, ◌++◌, length, take, drop, get_or, Result, Ok, Err}
use Rattle.std.proofs.lemmas.Slice.{between_is, take-put_mid_below}
use Rattle.nr_refusal.specs.Refusal.{◌>>=◌, Gives, with_fault}
use Rattle.std.proofs.Common.{◌⊎◌, ⊎_elim, IfOk, eq-eqb, inl, inr, subst}
use Rattle.std.proofs.lemmas.Bool.Decides.{nat_tests}
use Rattle.std.proofs.lemmas.List.{get_or_at, get_or_append_left, length-append}
use Rattle.std.proofs.lemmas.Bool.{cases_lt, le-leb}
use Rattle.std.proofs.lemmas.List.{take_all}
use Rattle.std.proofs.lemmas.List.FromFn.{get_or-map-range_with_len, length-map-range_with_len}
use Rattle.std.proofs.lemmas.List.Edits.{length-between}
use Rattle.std.proofs.lemmas.Slice.{between-put_mid}
use Rattle.std.proofs.Math.Nat.{mul-le-mul_right}
use Rattle.std.specs.Prelude.{nat_le, ◌==◌}
use borrow.Rule.Slice.PartMut.{put_mid}
use Rattle.std.specs.Prelude.{true}
use Rattle.nr_blockdesk.specs.Link.{IsLink, Link, link_said}
use Rattle.nr_shifttable.specs.Accepted.{Entries}
use Rattle.nr_transmission.specs.declared.settings.Settings.{Settings}
use Rattle.nr_calls.specs.Findings.{Findings}
use Rattle.nr_calls.specs.Many.{each_said, is_room_for, places_sent, receive_many_by, room_of_each, nth_row}
use Rattle.nr_calls.specs.Many.{first_rows}
use Rattle.nr_calls.specs.Plan.{Planned, planned_said}
use Rattle.nr_calls.specs.Receiving.{heard_said}
use Rattle.nr_calls.specs.declared.crossing.NrTx.{NrTx}
use Rattle.nr_calls.specs.declared.fault.Fault.{Fault}
use Rattle.nr_calls.specs.declared.fault.Fault.TheVariants as fault
use Rattle.nr_calls.specs.declared.findings.Found.{Found}
use Rattle.nr_calls.specs.declared.findings.Room.{Room}
use Rattle.nr_calls.specs.declared.many.ManyFound.{ManyFound}
use Rattle.nr_calls.specs.inside.Words.{IsLastBlock, findings_of, found_of_each, has_room, many_findings_of}
use Rattle.nr_calls.proofs.RoomFacts.{filled, same-plan}
use Rattle.nr_blockdesk.specs.Receiving.{verdict}

-- what the first item and the others give
record IsSplit {Y : Type 0} (r : Result Y Fault) (s : Result (List Y) Fault) (ys : List Y) : Type 0 where
  first : Y
  others : List Y
  first_is : r ≡ Ok first
  others_are : s ≡ Ok others
  all : ys ≡ first ∷ others

split : {Y : Type 0} (r : Result Y Fault) (s : Result (List Y) Fault) (ys : List Y)
    → (r >>= λ y. s >>= λ others. Ok (y ∷ others)) ≡ Ok ys → IsSplit r s ys
split (Ok y) (Ok others) ys is = record { first = y; others = others; first_is = refl; others_are = refl; all = cc }
split (Ok y) (Err e) ys is = cc
split (Err e) s ys is = cc

joined : {Y : Type 0} (r : Result Y Fault) (s : Result (List Y) Fault) (first : Y) (others : List Y) → r ≡ Ok first → s
    ≡ Ok others
    → (r >>= λ y. s >>= λ ys. Ok (y ∷ ys)) ≡ Ok (first ∷ others)
joined r s first others a b = rw (a, b) refl

refused : {Y : Type 0} (r : Result Y Fault) (s : Result (List Y) Fault) (first : Y) (e : Fault) → r ≡ Ok first → s ≡ Err e
    → (r >>= λ y. s >>= λ ys. Ok (y ∷ ys)) ≡ Err e
refused r s first e a b = rw (a, b) refl

-- one item more
pub each-more : {X Y : Type 0} (f : X → Result Y Fault) (xs : List X) (k : ℕ) (d : X) (ys : List Y) (y : Y) → k < length xs
    → each_said f (take k xs) ≡ Ok ys → f (get_or xs k d) ≡ Ok y → each_said f (take (k + 1) xs) ≡ Ok (ys ++ y ∷ [])
unfolding each_said
each-more f [] k d ys y inside so now = absurd (omega (arith, inside))
each-more f (x ∷ xs) zero d ys y inside so now = cc
each-more f (x ∷ xs) (suc k) d ys y inside so now =
    let two = split (f x) (each_said f (take k xs)) ys so in
    let rest = each-more f xs k d two.others y (omega (arith, inside)) two.others_are now in
    let next : suc k + 1 ≡ suc (k + 1) = omega arith in
    ap (λ n. each_said f (take n (x ∷ xs))) next
    ∙ joined (f x) (each_said f (take (k + 1) xs)) two.first (two.others ++ y ∷ []) two.first_is rest
    ∙ ap (λ l. Ok (l ++ y ∷ [])) (sym two.all)

-- an item that is refused
pub each-fails : {X Y : Type 0} (f : X → Result Y Fault) (xs : List X) (k : ℕ) (d : X) (ys : List Y) (e : Fault)
    → k < length xs
    → each_said f (take k xs) ≡ Ok ys → f (get_or xs k d) ≡ Err e → each_said f xs ≡ Err e
unfolding each_said
each-fails f [] k d ys e inside so now = absurd (omega (arith, inside))
each-fails f (x ∷ xs) zero d ys e inside so now = cc
each-fails f (x ∷ xs) (suc k) d ys e inside so now =
    let two = split (f x) (each_said f (take k xs)) ys so in
    let rest = each-fails f xs k d two.others e (omega (arith, inside)) two.others_are now in
    refused (f x) (each_said f xs) two.first e two.first_is rest

-- each block's room goes with what is found of it
rows-given : (r : Result ManyFound Fault) (said : Result (List Findings) Fault) (each : Room)
    → Gives fault.Memory found_of_each r said → IfOk r (λ m. m.each ≡ each)
    → Gives fault.Memory many_findings_of r (said >>= λ found. Ok (record { each = each; found = found }))
rows-given (Ok m) said each gives is = rw (gives, is) refl
rows-given (Err e) said each gives is = ⊎_elim (λ memory. inl memory) (λ err. inr (rw err refl)) gives

-- once all is judged that a block's bits don't decide, the blocks' own results are left
many-rows : (t : Entries) (s : Settings) (n a : ℕ) (ts : List NrTx) (octets : List ℕ) (room : Room) (p : Planned) (link : Link)
    → length ts ≤ 1000 → planned_said s.rate2048 a ≡ Ok p → is_room_for n (room_of_each p.plan.c a ts) room ≡ true
    → length octets ≡ n * places_sent ts → link_said t s a ≡ Ok link
    → receive_many_by t s n a ts octets room
    ≡ (each_said (heard_said link [] ts) (first_rows (places_sent ts) n octets)
    >>= λ found. Ok (record { each = room_of_each p.plan.c a ts; found = found }))
unfolding receive_many_by
many-rows t s n a ts octets room p link few planned fits whole linked =
    let few-too : nat_le (length ts) 1000 ≡ true = le-leb (length ts) 1000 few in
    let all : (length octets == n * places_sent ts) ≡ true = eq-eqb (length octets) (n * places_sent ts) whole in
    rw (few-too, planned, fits, all, linked) refl

-- What is found of the blocks, each with the room that it has, is what the call returns.
pub many-said : (t : Entries) (s : Settings) (n a : ℕ) (ts : List NrTx) (octets : List ℕ) (room : Room) (p : Planned)
    (link : Link)
    (places : ℕ) (r : Result ManyFound Fault) → length ts ≤ 1000 → planned_said s.rate2048 a ≡ Ok p
    → is_room_for n (room_of_each p.plan.c a ts) room ≡ true → places ≡ places_sent ts
    → length octets ≡ n * places → link_said t s a ≡ Ok link
    → Gives fault.Memory found_of_each r (each_said (heard_said link [] ts) (first_rows places n octets))
    → IfOk r (λ m. m.each ≡ room_of_each p.plan.c a ts)
    → Gives fault.Memory many_findings_of r (receive_many_by t s n a ts octets room)
many-said t s n a ts octets room p link places r few planned fits places-are whole linked said each =
    rw (many-rows t s n a ts octets room p link few planned fits (rw places-are at whole) linked)
    (rows-given r (each_said (heard_said link [] ts) (first_rows (places_sent ts) n octets)) (room_of_each p.plan.c a ts)
    (rw places-are at said) each)

-- room for all is a multiple of that of each
pub room-fills : (n : ℕ) (each room : Room) → is_room_for n each room ≡ true
    → (room.outcomes ≡ n * each.outcomes) × ((room.left ≡ n * each.left) × (room.block ≡ n * each.block))
room-fills n each room is = grind (arith, nat_tests)

-- what holds of each item holds of each with one more
pub filled-more : {X : Type 0} (P : X → Type 0) (xs : List X) (x : X)
    → ((j : ℕ) (d : X) → j < length xs → P (get_or xs j d)) → P x
    → (j : ℕ) (d : X) → j < length (xs ++ x ∷ []) → P (get_or (xs ++ x ∷ []) j d)
filled-more P xs x all one j d below = ⊎_elim
    (λ (lt : j < length xs). subst P (sym (get_or_append_left xs (x ∷ []) d j lt)) (all j d lt))
    (λ (ge : length xs ≤ j). subst P
    (sym (get_or_at xs x [] d j (omega (arith, below, ge, length-append xs (x ∷ []))))) one)
    (cases_lt j (length xs))

-- one row more
pub row-more : {Y : Type 0} (f : List ℕ → Result Y Fault) (s n k : ℕ) (xs : List ℕ) (ys more : List Y) (y : Y) → k < n
    → each_said f (take k (first_rows s n xs)) ≡ Ok ys → f (nth_row s k xs) ≡ Ok y → more ≡ ys ++ y ∷ []
    → each_said f (take (k + 1) (first_rows s n xs)) ≡ Ok more
row-more f s n k xs ys more y below so now is =
    let long : length (first_rows s n xs) ≡ n = length-map-range_with_len (λ j. nth_row s j xs) 0 n in
    let row : get_or (first_rows s n xs) k [] ≡ nth_row s k xs =
    get_or-map-range_with_len (λ j. nth_row s j xs) 0 n k k [] below (omega arith) in
    each-more f (first_rows s n xs) k [] ys y (omega (arith, below, long)) so (ap f row ∙ now) ∙ ap Ok (sym is)

-- a row that is refused
pub row-fails : {Y : Type 0} (f : List ℕ → Result Y Fault) (s n k : ℕ) (xs : List ℕ) (ys : List Y) (e : Fault) → k < n
    → each_said f (take k (first_rows s n xs)) ≡ Ok ys → f (nth_row s k xs) ≡ Err e → each_said f (first_rows s n xs)
    ≡ Err e
row-fails f s n k xs ys e below so now =
    let long : length (first_rows s n xs) ≡ n = length-map-range_with_len (λ j. nth_row s j xs) 0 n in
    let row : get_or (first_rows s n xs) k [] ≡ nth_row s k xs =
    get_or-map-range_with_len (λ j. nth_row s j xs) 0 n k k [] below (omega arith) in
    each-fails f (first_rows s n xs) k [] ys e (omega (arith, below, long)) so (ap f row ∙ now)

-- all rows
pub rows-all : {Y : Type 0} (f : List ℕ → Result Y Fault) (s n k : ℕ) (xs : List ℕ) (ys : List Y) → k ≡ n
    → each_said f (take k (first_rows s n xs)) ≡ Ok ys → each_said f (first_rows s n xs) ≡ Ok ys
rows-all f s n k xs ys is so =
    let long : length (first_rows s n xs) ≡ n = length-map-range_with_len (λ j. nth_row s j xs) 0 n in
    ap (each_said f) (sym (take_all k (first_rows s n xs) (omega (arith, long, is)))) ∙ so

-- a row is within the list
pub row-inside : (s k n m : ℕ) → k < n → m ≡ n * s → k * s + s ≤ m
row-inside s k n m below long =
    let rows : (k + 1) * s ≤ n * s = mul-le-mul_right s (omega (arith, below)) in
    let more : (k + 1) * s ≡ k * s + s = omega arith in
    omega (arith, rows, more, long)

-- how long a row is
pub row-long : {X : Type 0} (s k : ℕ) (xs : List X) → k * s + s ≤ length xs → length (nth_row s k xs) ≡ s
row-long s k xs inside =
    length-between xs (k * s) (k * s + s) inside ∙ omega arith

-- rows are the same if all from there on is
pub row-same : {X : Type 0} (s k : ℕ) (xs ys : List X) → drop (k * s) xs ≡ drop (k * s) ys → nth_row s k xs
    ≡ nth_row s k ys
row-same s k xs ys same = ap (take (k * s + s - k * s)) same

-- a row that is written has what was written
pub row-written : {X : Type 0} (s k n : ℕ) (xs ys : List X) → k * s + s ≤ length xs → length ys ≡ s
    → nth_row s k (put_mid (k * s) n xs ys) ≡ ys
row-written s k n xs ys inside long =
    between-put_mid (k * s) n xs ys (k * s + s) (omega (arith, inside)) (omega (arith, long))

-- the rows before it are as they were
pub row-before : {X : Type 0} (s j k n : ℕ) (xs ys : List X) → j < k → k * s + s ≤ length xs
    → nth_row s j (put_mid (k * s) n xs ys) ≡ nth_row s j xs
row-before s j k n xs ys below inside =
    let within : j * s + s ≤ k * s = row-inside s j k (k * s) below refl in
    between_is (put_mid (k * s) n xs ys) (j * s) (j * s + s)
    ∙ ap (drop (j * s)) (take-put_mid_below (k * s) n xs ys (j * s + s) within (omega (arith, inside)))
    ∙ sym (between_is xs (j * s) (j * s + s))

-- the room of a block by its link is that by its plan
pub same-each : (t : Entries) (s : Settings) (a : ℕ) (ts : List NrTx) (link : Link) (p : Planned)
    → link_said t s a ≡ Ok link → planned_said s.rate2048 a ≡ Ok p
    → room_of_each p.plan.c a ts ≡ room_of_each link.plan.c link.a ts
same-each t s a ts link p linked planned =
    let same = same-plan t s a link p (ap (with_fault fault.Desk) linked) planned in
    rw (same.0, same.1.0) refl

-- what is found of a block fills its room
pub row-filled : (ts : List NrTx) (link : Link) (f : Found) → IsLink link → length f.outcomes.items ≡ length ts
    → length f.left.items ≡ link.plan.c → IsLastBlock link.a (verdict f.last)
    → has_room (room_of_each link.plan.c link.a ts) (findings_of f) ≡ true
row-filled ts link f sound outcomes left block =
    filled (Ok f) (room_of_each link.plan.c link.a ts) link (record { graph = link.graph; plan = link.plan }) link.a
    (length ts) (grind (arith, nat_tests)) (refl, (refl, sound.size)) outcomes left block
