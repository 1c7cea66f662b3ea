-- A receiver in its caller's room: what it finds.
use Rattle.nr_calls.proofs.Common.{◌≡◌, ◌⊎◌, ⊎_elim, inr, Option, Some, None, take, drop, ℕ, suc, ◌+◌, ◌*◌}
use Rattle.nr_calls.proofs.Common.{◌/◌, ◌==◌, ◌&&◌, true, false, Result, Ok, Err, List, [], ◌++◌, length, map, inl}
use Rattle.nr_calls.proofs.Common.{refl, sym, ap, subst, ◌∙◌, arith, eq-eqb, IfErr, IfOk, IsOk, flat_map, nat_tests}
use Rattle.nr_calls.proofs.Common.{length-map-range_with_len, HeardBits, ◌>>=◌, Gives, or_fault, with_fault, Entries, reception}
use Rattle.nr_calls.proofs.Common.{reception_said, heard_record, Link, is_size, link_said, IsDecided, Verdict, contradiction}
use Rattle.nr_calls.proofs.Common.{delivered, open_still, AreStoresFor, verdict, Settings, Tx, IsHandedUp, lefts, outcome_number}
use Rattle.nr_calls.proofs.Common.{IsTaken, arriving, block_fits, after_taking, KeptPlaces, is_kept_room, Planned, planned_said}
use Rattle.nr_calls.proofs.Common.{heard_octet, record_octets, records_from, room_header, room_length, room_of, Fault}
use Rattle.nr_calls.specs.{inside.Words.TakesSaid, inside.Words.taken_room, Statuses.Returns, Statuses.memory_anywhere}
use Rattle.nr_calls.specs.{Keeping.Arriving, Keeping.IsKept, Keeping.arriving_by, Keeping.start_by, declared.taken.Taken.Taken}
use Rattle.nr_calls.specs.inside.Keepings.{arriving_over}
use Rattle.nr_calls.specs.{Rooms.record_in, Rooms.records_in, declared.taken.KeptRoom.KeptRoom}
use Rattle.nr_calls.proofs.RoomFacts.{octets-of}
use Rattle.nr_calls.proofs.RoomOctetFacts.{read_none, room_long, rooms-written, with_read}
use Rattle.std.specs.{Prelude.nat_eq, List.starts_with}
use Rattle.nr_segment.specs.Plan.{word_size}
use Rattle.nr_blockdesk.specs.Receiving.{RefusesAs}
use Rattle.nr_calls.specs.declared.fault.Fault.TheVariants as fault

last-step : {X : Type 0} (r : Result (List ℕ) Fault) (x : X) → IsOk r → (r >>= λ (_ : List ℕ). Ok x) ≡ Ok x
last-step (Ok lengths) x ok = refl
last-step (Err e) x ok = grind arith

arriving-is : (link : Link) (digest : ℕ) (room : List ℕ) (tx : Tx) (octets : List ℕ) (records : List HeardBits)
    → or_fault fault.State (records_in digest link room) ≡ Ok records
    → IsOk (with_fault fault.Desk (reception_said link (reception tx (map heard_octet octets))))
    → arriving_over link digest room tx octets ≡ Ok (arriving link digest records tx octets)
arriving-is link digest room tx octets records read ok =
    rw read
    (last-step (with_fault fault.Desk (reception_said link (reception tx (map heard_octet octets))))
    (arriving link digest records tx octets) ok)

-- once all before the room is judged, the link tells the rest
pub by-link : (table : Entries) (digest : ℕ) (settings : Settings) (a : ℕ) (room : List ℕ) (places : KeptRoom) (tx : Tx)
    (octets : List ℕ) (p : Planned) (link : Link)
    → planned_said settings.rate2048 a ≡ Ok p → is_kept_room places p a ≡ true → link_said table settings a ≡ Ok link
    → arriving_by table digest settings a room places tx octets ≡ arriving_over link digest room tx octets
unfolding arriving_by
by-link table digest settings a room places tx octets p link planned fits linked = rw (planned, fits, linked) refl

-- what arrives over a link has this link
over-link : (link : Link) (digest : ℕ) (room : List ℕ) (tx : Tx) (octets : List ℕ) (x : Arriving)
    → arriving_over link digest room tx octets ≡ Ok x → x.link ≡ link
over-link link digest room tx octets x is = go (or_fault fault.State (records_in digest link room))
    (with_fault fault.Desk (reception_said link (reception tx (map heard_octet octets)))) is
  where
    go : (read : Result (List HeardBits) Fault) (lengths : Result (List ℕ) Fault)
        → (read >>= λ records. lengths >>= λ (_ : List ℕ). Ok (arriving link digest records tx octets)) ≡ Ok x
        → x.link ≡ link
    go (Ok records) (Ok some) told =
        let same : x ≡ arriving link digest records tx octets = cc in
        ap (λ (y : Arriving). y.link) same
    go (Ok records) (Err e) told = grind arith
    go (Err e) lengths told = grind arith

-- a block that is delivered fills its place
pub decided-fits : (link : Link) (records : List HeardBits) (v : Verdict) (m : ℕ) → IsDecided link records v
    → link.a ≡ 8 * m
    → block_fits m v ≡ true
decided-fits link records open_still m decided is = refl
decided-fits link records (delivered block) m decided is = eq-eqb (length block) (8 * m) (decided.1 ∙ is)
decided-fits link records contradiction m decided is = refl

-- what was taken up fills its places
places-filled : (places : KeptRoom) (p : Planned) (link : Link) (digest a : ℕ) (after : List HeardBits) (room left : List ℕ)
    (v : Verdict)
    → is_kept_room places p a ≡ true → (link.plan ≡ p.plan) × ((link.a ≡ a) × (is_size a ≡ true))
    → link.graph ≡ p.graph
    → AreStoresFor link after → room ≡ room_of digest link after → left ≡ lefts link after → IsDecided link after v
    → ((length room == places.room) && ((length left == places.left) && block_fits places.block v)) ≡ true
places-filled places p link digest a after room left v asked same graph fit room-is left-is decided =
    let whole : length room ≡ room_length p.graph p.plan =
    ap length room-is ∙ room_long digest link after fit ∙ rw (graph, same.0) refl in
    let some : length left ≡ p.plan.c = ap length left-is ∙ length-map-range_with_len _ 0 link.plan.c ∙ rw same.0 refl in
    let eighth : a / 8 ≡ places.block = grind (arith, nat_tests) in
    let filled : block_fits places.block v ≡ true =
    decided-fits link after v places.block decided (same.1.0 ∙ sym (octets-of a same.1.1) ∙ ap (λ n. 8 * n) eighth) in
    grind (arith, nat_tests, whole, some, filled)

-- what was taken up is written
pub taken-up : (said : Result Arriving Fault) (t : Taken) (old new : KeptPlaces) → TakesSaid (Ok t) said
    → new.room ≡ t.room.items
    → new.outcome ≡ outcome_number (verdict t.last) → new.left ≡ t.left.items
    → IsHandedUp (verdict t.last) old.block new.block
    → Returns memory_anywhere 0 old new (IsKept old.block) said
taken-up said t old new s room outcome left block =
    let up : Returns memory_anywhere 0 old new (IsKept old.block) (Ok s.0) = inl (
      refl,
      record {
        verdict = verdict t.last;
        sound = s.2.sound;
        fit = s.2.fit;
        room = room ∙ s.2.room;
        outcome = outcome;
        left = left ∙ s.2.left;
        block = block;
        decided = s.2.decided;
        settled = s.2.settled;
      },
    ) in
    subst (λ (r : Result Arriving Fault). Returns memory_anywhere 0 old new (IsKept old.block) r) (sym s.1) up

pub takes-err : (r : Result Taken Fault) (e : Fault) (said : Result Arriving Fault) → r ≡ Err e
    → (e ≡ fault.Memory) ⊎ (said ≡ Err e) → TakesSaid r said
takes-err r e said is told = subst (λ (q : Result Taken Fault). TakesSaid q said) (sym is) told

pub some-of : {X : Type 0} (o : Option X) (x : X) → or_fault fault.State o ≡ Ok x → o ≡ Some x
some-of None x e = grind arith
some-of (Some y) x e = cc

pub refused-one : (n k : ℕ) (stores : List HeardBits) (rest : List ℕ) (said : Option (List HeardBits)) (e : Fault)
    → said ≡ with_read stores (records_from n (suc k) rest)
    → (e ≡ fault.Memory) ⊎ (or_fault fault.State (record_in n (take (n + 1) rest)) ≡ Err e)
    → (e ≡ fault.Memory) ⊎ (or_fault fault.State said ≡ Err e)
refused-one n k stores rest said e read told = ⊎_elim (λ (m : e ≡ fault.Memory). inl m)
    (λ (is : or_fault fault.State (record_in n (take (n + 1) rest)) ≡ Err e).
    inr (go (record_in n (take (n + 1) rest)) refl is)) told
  where
    go : (o : Option HeardBits) → record_in n (take (n + 1) rest) ≡ o → or_fault fault.State o ≡ Err e
        → or_fault fault.State said ≡ Err e
    go None none is =
        let same : fault.State ≡ e = cc in
        ap (or_fault fault.State) (read_none n k stores rest said read none) ∙ ap (λ (x : Fault). Err x) same
    go (Some s) some is = grind arith

-- the records of a room that begins as it must
pub records-in-is : (digest : ℕ) (link : Link) (room header body : List ℕ) (n c : ℕ)
    → starts_with nat_eq room header ≡ true
    → header ≡ room_header digest link
    → n ≡ word_size link.graph link.plan → c ≡ link.plan.c → body ≡ drop (length header) room
    → records_in digest link room ≡ records_from n c body
unfolding records_in
records-in-is digest link room header body n c begins header-is n-is c-is body-is =
    let first : starts_with nat_eq room (room_header digest link) ≡ true =
    ap (λ (h : List ℕ). starts_with nat_eq room h) (sym header-is)
    ∙ begins in
    rw first
    (ap (λ m. records_from m link.plan.c (drop (length (room_header digest link)) room)) (sym n-is)
    ∙ ap (λ k. records_from n k (drop (length (room_header digest link)) room)) (sym c-is)
    ∙ ap (λ (b : List ℕ). records_from n c b) (ap (λ (h : List ℕ). drop (length h) room) (sym header-is) ∙ sym body-is))

pub records-in-none : (digest : ℕ) (link : Link) (room header : List ℕ) → starts_with nat_eq room header ≡ false
    → header ≡ room_header digest link
    → records_in digest link room ≡ None
unfolding records_in
records-in-none digest link room header begins header-is =
    let first : starts_with nat_eq room (room_header digest link) ≡ false =
    ap (λ (h : List ℕ). starts_with nat_eq room h) (sym header-is)
    ∙ begins in
    rw first refl

-- the records of a room fit its link
pub fit-of : (link : Link) (digest : ℕ) (room : List ℕ) (records : List HeardBits)
    → or_fault fault.State (records_in digest link room) ≡ Ok records → AreStoresFor link records
fit-of link digest room records read =
    (rooms-written digest link room records (some-of (records_in digest link room) records read)).fit

-- the room of a new receiver
pub start-is : (table : Entries) (digest : ℕ) (settings : Settings) (a room : ℕ) (p : Planned) (link : Link)
    → planned_said settings.rate2048 a ≡ Ok p → (room == room_length p.graph p.plan) ≡ true
    → link_said table settings a ≡ Ok link
    → start_by table digest settings a room ≡ Ok (room_of digest link (heard_record link []))
unfolding start_by
start-is table digest settings a room p link planned fits linked = rw (planned, fits, linked) refl

-- a new receiver whose link is refused
pub unlinked : (table : Entries) (digest : ℕ) (settings : Settings) (a room : ℕ) (p : Planned) (e : Fault)
    → planned_said settings.rate2048 a ≡ Ok p → (room == room_length p.graph p.plan) ≡ true
    → with_fault fault.Desk (link_said table settings a) ≡ Err e → start_by table digest settings a room ≡ Err e
unfolding start_by
unlinked table digest settings a room p e planned fits refused = rw (planned, fits, refused) refl

-- a header and records make the room of both
pub room-is : (digest : ℕ) (link : Link) (header octets : List ℕ) (heard : List HeardBits)
    → octets ≡ header ++ flat_map record_octets heard
    → header ≡ room_header digest link → octets ≡ room_of digest link heard
unfolding room_of
room-is digest link header octets heard octets-is header-is = octets-is
    ∙ ap (λ (h : List ℕ). h ++ flat_map record_octets heard) header-is

-- it is as long as a room of the plan
pub room-fits : (digest : ℕ) (link : Link) (octets : List ℕ) (heard : List HeardBits) (n : ℕ)
    → octets ≡ room_of digest link heard
    → AreStoresFor link heard
    → n ≡ room_length link.graph link.plan → length octets ≡ n
room-fits digest link octets heard n is fit n-is = ap length is ∙ room_long digest link heard fit ∙ sym n-is

-- a room that is not the link's, and a reception that is refused
pub unread : (link : Link) (digest : ℕ) (room : List ℕ) (tx : Tx) (octets : List ℕ) (e : Fault)
    → (e ≡ fault.Memory) ⊎ (or_fault fault.State (records_in digest link room) ≡ Err e)
    → (e ≡ fault.Memory) ⊎ (arriving_over link digest room tx octets ≡ Err e)
unread link digest room tx octets e told =
    ⊎_elim (λ (m : e ≡ fault.Memory). inl m)
    (λ (is : or_fault fault.State (records_in digest link room) ≡ Err e). inr (rw is refl)) told

untaken : (link : Link) (digest : ℕ) (room : List ℕ) (tx : Tx) (octets : List ℕ) (e : Fault) (records : List HeardBits)
    → or_fault fault.State (records_in digest link room) ≡ Ok records
    → (e ≡ fault.Memory) ⊎ (with_fault fault.Desk (reception_said link (reception tx (map heard_octet octets))) ≡ Err e)
    → (e ≡ fault.Memory) ⊎ (arriving_over link digest room tx octets ≡ Err e)
untaken link digest room tx octets e records read told =
    ⊎_elim (λ (m : e ≡ fault.Memory). inl m)
    (λ (is : with_fault fault.Desk (reception_said link (reception tx (map heard_octet octets))) ≡ Err e).
    inr (rw (read, is) refl)) told

-- what the receiver of a room has taken up is what the specification says about the room and the reception
pub taken-said : (r : Result Taken Fault) (link : Link) (digest : ℕ) (room : List ℕ) (tx : Tx) (octets : List ℕ)
    (records : List HeardBits) → or_fault fault.State (records_in digest link room) ≡ Ok records
    → RefusesAs fault.Memory r (with_fault fault.Desk (reception_said link (reception tx (map heard_octet octets))))
    → IfOk r (IsTaken (arriving link digest records tx octets))
    → TakesSaid r (arriving_over link digest room tx octets)
taken-said (Ok t) link digest room tx octets records read ok taken = (
  arriving link digest records tx octets,
  arriving-is link digest room tx octets records read ok,
  taken,
)
taken-said (Err e) link digest room tx octets records read told taken =
    untaken link digest room tx octets e records read told

-- and it fills its caller's places
pub taken-fits : (r : Result Taken Fault) (places : KeptRoom) (p : Planned) (link : Link) (digest a : ℕ) (room : List ℕ)
    (tx : Tx) (octets : List ℕ) → is_kept_room places p a ≡ true
    → (link.plan ≡ p.plan) × ((link.a ≡ a) × (is_size a ≡ true)) → link.graph ≡ p.graph
    → TakesSaid r (arriving_over link digest room tx octets) → IfOk r (λ t. taken_room places t ≡ true)
taken-fits (Ok t) places p link digest a room tx octets asked same graph said =
    let x = said.0 in
    let is = over-link link digest room tx octets x said.1 in
    places-filled places p x.link x.digest a (after_taking x) t.room.items t.left.items (verdict t.last) asked
    (subst (λ (l : Link). (l.plan ≡ p.plan) × ((l.a ≡ a) × (is_size a ≡ true))) (sym is) same)
    (subst (λ (l : Link). l.graph ≡ p.graph) (sym is) graph) said.2.fit said.2.room said.2.left said.2.decided
taken-fits (Err e) places p link digest a room tx octets asked same graph said = tt

-- octets that were made are those of the specification, if memory alone refuses them
pub made-said : {V : Type 0} (view : V → List ℕ) (r : Result V Fault) (made : List ℕ) (said : Result (List ℕ) Fault)
    → IfOk r (λ v. view v ≡ made) → IfErr r (λ e. e ≡ fault.Memory) → said ≡ Ok made
    → Gives fault.Memory view r said
made-said view (Ok v) made said is err told = told ∙ ap (λ (xs : List ℕ). Ok xs) (sym is)
made-said view (Err e) made said is err told = inl err
