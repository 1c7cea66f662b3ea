-- Records that were written are read again, and octets that are read are those that are written.
use Rattle.std.proofs.Common.{◌≡◌, ℕ, zero, suc, ◌+◌, ◌<◌, ◌==◌, ◌&&◌, Bool, true, false, cond, Option}
use Rattle.std.proofs.Common.{Some, None, List, [], ◌∷◌, ◌++◌, length, ◌≤◌, ◌*◌, get_or, map, take, drop, All}
use Rattle.std.proofs.Common.{refl, sym, ap, subst, ◌∙◌, append_assoc, length-append, arith, eq-eqb}
use Rattle.std.specs.Prelude.{option_and_then, flat_map}
use Rattle.std.specs.List.{list_all, range_with_len}
use Rattle.std.proofs.lemmas.Bool.Decides.{nat_tests}
use Rattle.std.proofs.lemmas.List.{append-nil, take-append-drop, length-map, length-take, get_or_default, take_more}
use Rattle.std.proofs.lemmas.Simd.{map-map}
use Rattle.std.proofs.lemmas.Grind.{flat_map-append}
use Rattle.std.proofs.lemmas.List.Elements.{All-cons, All-nil}
use Rattle.std.proofs.Math.Seq.{take-append_seam, drop-append_seam}
use Rattle.std.proofs.lemmas.Bool.Decides.{Decides-eqb}
use Rattle.nr_harqbuf.specs.Record.{HeardBits}
use Rattle.nr_bitvec.specs.Bit.{bit}
use Rattle.nr_bitvec.specs.Marks.{marked_bit, marks_with}
use Rattle.nr_harqbuf.specs.Marks.{marked_bits}
use Rattle.nr_blockdesk.specs.Hearing.{heard_bit}
use Rattle.nr_blockdesk.specs.Marks.{heards, heards_from, place_heard}
use Rattle.nr_calls.specs.Receiving.{heard_octet}
use Rattle.nr_segment.specs.Plan.{word_size}
use Rattle.std.specs.Prelude.{nat_eq}
use Rattle.std.specs.List.{starts_with}
use Rattle.std.proofs.lemmas.Slice.Eq.{starts_is}
use Rattle.std.proofs.lemmas.Bool.{and_parts}
use Rattle.nr_blockdesk.specs.Link.{Link}
use Rattle.nr_blockdesk.specs.Receiving.{AreStoresFor}
use Rattle.nr_calls.specs.Codeword.{is_digit}
use Rattle.nr_calls.specs.Crossing.{digit}
use Rattle.nr_calls.specs.Encoding.{is_coded}
use Rattle.nr_calls.specs.Rooms.{IsRoomOf, ReadsAs, RoomsAreRead, first_in, position_octet, record_in, record_octets}
use Rattle.nr_calls.specs.Rooms.{records_from, records_in, room_header, room_of}

-- records of n positions each
abbrev pub AreLong : ℕ → List HeardBits → Type 0
AreLong n records = All (λ (s : HeardBits). length s.first ≡ n) records

-- the octets that records are read from
pub record IsWritten (n c : ℕ) (octets : List ℕ) (records : List HeardBits) : Type 0 where
  pub same : octets ≡ flat_map record_octets records
  pub many : length records ≡ c
  pub long : AreLong n records

-- a position, read again
read-position : (o : Option Bool) → first_in (position_octet o) ≡ o
read-position None = refl
read-position (Some true) = refl
read-position (Some false) = refl

is-coded : (o : Option Bool) → is_coded (position_octet o) ≡ true
is-coded None = refl
is-coded (Some true) = refl
is-coded (Some false) = refl

read-positions : (os : List (Option Bool)) → map first_in (map position_octet os) ≡ os
read-positions [] = refl
read-positions (o ∷ os) = ap (λ x. x ∷ map first_in (map position_octet os)) (read-position o)
    ∙ ap (λ xs. o ∷ xs) (read-positions os)

are-coded : (os : List (Option Bool)) → list_all is_coded (map position_octet os) ≡ true
are-coded [] = refl
are-coded (o ∷ os) = rw (is-coded o) (are-coded os)

-- a record, read again
pub record_in-written : (n : ℕ) (s : HeardBits) → length s.first ≡ n → record_in n (record_octets s) ≡ Some s
unfolding record_in
record_in-written n s long =
    rw (
      eq-eqb (length (map position_octet s.first)) n (length-map s.first position_octet ∙ long),
      are-coded s.first,
      read-positions s.first,
    )
    (clashed s.clash)
  where
    clashed : (b : Bool)
        → cond {A = Option HeardBits} (is_digit (digit b) && true) (Some (record { first = s.first; clash = digit b == 1 })) None
        ≡ Some (record { first = s.first; clash = b })
    clashed true = refl
    clashed false = refl

long-record : (n : ℕ) (s : HeardBits) → length s.first ≡ n → length (record_octets s) ≡ n + 1
long-record n s long = omega (arith, length-map s.first position_octet, long)

-- all of them
pub records_from-written : (n : ℕ) (records : List HeardBits) → AreLong n records
    → records_from n (length records) (flat_map record_octets records) ≡ Some records
unfolding records_from
records_from-written n [] long = refl
records_from-written n (s ∷ records) long =
    let first : length s.first ≡ n = long 0 s (omega arith) in
    let rest : AreLong n records = λ k d h. long (suc k) d (omega (arith, h)) in
    let size = long-record n s first in
    rw (
      ap (λ m. take m (record_octets s ++ flat_map record_octets records)) (sym size)
          ∙ take-append_seam (record_octets s) (flat_map record_octets records),
      ap (λ m. drop m (record_octets s ++ flat_map record_octets records)) (sym size)
          ∙ drop-append_seam (record_octets s) (flat_map record_octets records),
      record_in-written n s first,
      records_from-written n records rest,
    )

-- an octet that is read is what is written for it
coded-position : (o : ℕ) → is_coded o ≡ true → position_octet (first_in o) ≡ o
coded-position zero is = refl
coded-position (suc zero) is = refl
coded-position (suc (suc zero)) is = refl
coded-position (suc (suc (suc o))) is = grind (arith, nat_tests)

coded-digit : (o : ℕ) → is_digit o ≡ true → digit (o == 1) ≡ o
coded-digit zero is = refl
coded-digit (suc zero) is = refl
coded-digit (suc (suc o)) is = grind (arith, nat_tests)

coded-positions : (octets : List ℕ) → list_all is_coded octets ≡ true → map position_octet (map first_in octets) ≡ octets
coded-positions [] are = refl
coded-positions (o ∷ octets) are =
    let p = and_parts (is_coded o) (list_all is_coded octets) are in
    ap (λ x. x ∷ map position_octet (map first_in octets)) (coded-position o p.0)
    ∙ ap (λ xs. o ∷ xs) (coded-positions octets p.1)

pub record IsRecordIn (n : ℕ) (octets : List ℕ) (s : HeardBits) : Type 0 where
  pub same : octets ≡ record_octets s
  pub long : length s.first ≡ n

read-record : (n o : ℕ) (octets : List ℕ) (s : HeardBits) (a b c : Bool) → (length octets == n) ≡ a → is_digit o ≡ b
    → list_all is_coded octets ≡ c
    → cond (a && (b && c)) (Some (record { first = map first_in octets; clash = o == 1 })) None ≡ Some s
    → IsRecordIn n (o ∷ octets) s
read-record n o octets s true true true long is are e =
    let same : record { first = map first_in octets; clash = o == 1 } ≡ s = cc in
    subst (λ (t : HeardBits). IsRecordIn n (o ∷ octets) t) same (record {
      same = ap (λ x. x ∷ octets) (sym (coded-digit o is))
          ∙ ap (λ xs. digit (o == 1) ∷ xs) (sym (coded-positions octets are));
      long = length-map octets first_in ∙ grind (arith, nat_tests, long);
    })
read-record n o octets s true true false long is are e = grind arith
read-record n o octets s true false c long is are e = grind arith
read-record n o octets s false b c long is are e = grind arith

pub record_in-read : (n : ℕ) (octets : List ℕ) (s : HeardBits) → record_in n octets ≡ Some s → IsRecordIn n octets s
unfolding record_in
record_in-read n [] s e = grind arith
record_in-read n (o ∷ octets) s e = read-record n o octets s (length octets == n) (is_digit o)
    (list_all is_coded octets) refl refl refl e

read-more : (n c : ℕ) (octets : List ℕ) (records : List HeardBits) (first : Option HeardBits) (rest : Option (List HeardBits))
    → record_in n (take (n + 1) octets) ≡ first → records_from n c (drop (n + 1) octets) ≡ rest
    → ((rs : List HeardBits) → rest ≡ Some rs → IsWritten n c (drop (n + 1) octets) rs)
    → option_and_then (λ s. option_and_then (λ rs. Some (s ∷ rs)) rest) first ≡ Some records
    → IsWritten n (suc c) octets records
read-more n c octets records (Some s) (Some rs) is are written e =
    let same : s ∷ rs ≡ records = cc in
    let front = record_in-read n (take (n + 1) octets) s is in
    let back = written rs refl in
    subst (λ (xs : List HeardBits). IsWritten n (suc c) octets xs) same (record {
      same = sym (take-append-drop (n + 1) octets) ∙ ap (λ xs. xs ++ drop (n + 1) octets) front.same
          ∙ ap (λ xs. record_octets s ++ xs) back.same;
      many = omega (arith, back.many);
      long = All-cons (λ (t : HeardBits). length t.first ≡ n) s rs front.long back.long;
    })
read-more n c octets records (Some s) None is are written e = grind arith
read-more n c octets records None rest is are written e = grind arith

pub records_from-read : (n c : ℕ) (octets : List ℕ) (records : List HeardBits) → records_from n c octets ≡ Some records
    → IsWritten n c octets records
unfolding records_from
records_from-read n zero [] records e =
    let same : [] ≡ records = cc in
    subst (λ (xs : List HeardBits). IsWritten n zero [] xs) same
    (record { same = refl; many = refl; long = All-nil (λ (t : HeardBits). length t.first ≡ n) })
records_from-read n zero (o ∷ octets) records e = grind arith
records_from-read n (suc c) octets records e =
    read-more n c octets records (record_in n (take (n + 1) octets)) (records_from n c (drop (n + 1) octets)) refl refl
    (λ rs is. records_from-read n c (drop (n + 1) octets) rs is) e

-- the records of a link
fit-long : (link : Link) (records : List HeardBits) → AreStoresFor link records
    → AreLong (word_size link.graph link.plan) records
fit-long link records fit k d h =
    ap (λ (s : HeardBits). length s.first) (get_or_default records k d (record { first = []; clash = false }) h)
    ∙ fit.long k (omega (arith, h, fit.many))

long-fit : (link : Link) (records : List HeardBits) → length records ≡ link.plan.c
    → AreLong (word_size link.graph link.plan) records → AreStoresFor link records
long-fit link records many long =
    record { many = many; long = λ r h. long r (record { first = []; clash = false }) (omega (arith, h, many)) }

-- a room that was written is read again
read-again : (digest : ℕ) (link : Link) (records : List HeardBits) → AreStoresFor link records
    → records_in digest link (room_of digest link records) ≡ Some records
unfolding records_in room_of
read-again digest link records fit =
    let header = room_header digest link in
    let body = flat_map record_octets records in
    let begins : starts_with nat_eq (header ++ body) header ≡ true =
    (starts_is Decides-eqb (header ++ body) header (starts_with nat_eq (header ++ body) header) refl).1 body refl in
    rw (begins, drop-append_seam header body, ← fit.many)
    (records_from-written (word_size link.graph link.plan) records (fit-long link records fit))

-- and only a room of these records is read
written-by : (digest : ℕ) (link : Link) (room : List ℕ) (records : List HeardBits) (begins : Bool)
    → starts_with nat_eq room (room_header digest link) ≡ begins
    → cond {A = Option (List HeardBits)} begins
    (records_from (word_size link.graph link.plan) link.plan.c (drop (length (room_header digest link)) room)) None ≡ Some records
    → IsRoomOf digest link room records
unfolding room_of
written-by digest link room records true is e =
    let header = room_header digest link in
    let read = records_from-read (word_size link.graph link.plan) link.plan.c (drop (length header) room) records e in
    record {
      same = (starts_is Decides-eqb room header (starts_with nat_eq room header) refl).0 is ∙ ap (λ xs. header ++ xs) read.same;
      fit = long-fit link records read.many read.long;
    }
written-by digest link room records false is e = grind arith

pub rooms-written : (digest : ℕ) (link : Link) (room : List ℕ) (records : List HeardBits)
    → records_in digest link room ≡ Some records → IsRoomOf digest link room records
unfolding records_in
rooms-written digest link room records e = written-by digest link room records
    (starts_with nat_eq room (room_header digest link)) refl e

pub rooms-read : RoomsAreRead
rooms-read digest link room = go (records_in digest link room) refl
  where
    go : (o : Option (List HeardBits)) → records_in digest link room ≡ o → ReadsAs digest link room o
    go (Some records) is = rooms-written digest link room records is
    go None is = λ records made. let again : records_in digest link room ≡ Some records =
        ap (records_in digest link) made.same ∙ read-again digest link records made.fit in cc

-- one more part
pub flat_map_next : {X : Type 0} (f : X → List ℕ) (xs : List X) (i : ℕ) (d : X) → i < length xs
    → flat_map f (take (i + 1) xs) ≡ flat_map f (take i xs) ++ f (get_or xs i d)
flat_map_next f xs i d h =
    ap (flat_map f) (take_more xs i d h) ∙ flat_map-append f (take i xs) (get_or xs i d ∷ [])
    ∙ ap (λ ys. flat_map f (take i xs) ++ ys) (append-nil (f (get_or xs i d)))

-- the records that were read, before those that are left
abbrev pub with_read : List HeardBits → Option (List HeardBits) → Option (List HeardBits)
with_read stores None = None
with_read stores (Some records) = Some (stores ++ records)

one-more : (stores : List HeardBits) (s : HeardBits) (o : Option (List HeardBits))
    → with_read stores (option_and_then (λ rs. Some (s ∷ rs)) o) ≡ with_read (stores ++ s ∷ []) o
one-more stores s None = refl
one-more stores s (Some records) = ap (λ (xs : List HeardBits). Some xs) (sym (append_assoc stores (s ∷ []) records))

pub read_one : (n k : ℕ) (stores : List HeardBits) (s : HeardBits) (rest : List ℕ) (said : Option (List HeardBits))
    → said ≡ with_read stores (records_from n (suc k) rest) → record_in n (take (n + 1) rest) ≡ Some s
    → said ≡ with_read (stores ++ s ∷ []) (records_from n k (drop (n + 1) rest))
unfolding records_from
read_one n k stores s rest said e is = rw is at e ∙ one-more stores s (records_from n k (drop (n + 1) rest))

pub read_none : (n k : ℕ) (stores : List HeardBits) (rest : List ℕ) (said : Option (List HeardBits))
    → said ≡ with_read stores (records_from n (suc k) rest) → record_in n (take (n + 1) rest) ≡ None → said ≡ None
unfolding records_from
read_none n k stores rest said e is = rw is at e

none-in : (n : ℕ) (octets : List ℕ) → length octets ≤ n → record_in n octets ≡ None
unfolding record_in
none-in n [] short = refl
none-in n (o ∷ octets) short =
    let other : (length octets == n) ≡ false = grind (arith, nat_tests) in
    rw other

pub read_short : (n k : ℕ) (stores : List HeardBits) (rest : List ℕ) (said : Option (List HeardBits))
    → said ≡ with_read stores (records_from n (suc k) rest) → length rest ≤ n → said ≡ None
read_short n k stores rest said e short = read_none n k stores rest said e
    (none-in n (take (n + 1) rest) (omega (arith, length-take (n + 1) rest)))

pub read_all : (n : ℕ) (stores : List HeardBits) (rest : List ℕ) (said : Option (List HeardBits))
    → said ≡ with_read stores (records_from n zero rest) → length rest ≡ 0 → said ≡ Some stores
unfolding records_from
read_all n stores [] said e none = e ∙ ap (λ (xs : List HeardBits). Some xs) (append-nil stores)
read_all n stores (o ∷ rest) said e none = absurd (omega arith)

pub read_over : (n : ℕ) (stores : List HeardBits) (rest : List ℕ) (said : Option (List HeardBits))
    → said ≡ with_read stores (records_from n zero rest) → (length rest ≡ 0 → ⊥) → said ≡ None
unfolding records_from
read_over n stores [] said e some = absurd (some refl)
read_over n stores (o ∷ rest) said e some = e

-- marks and bits of octets keep the positions that the octets say
kept-one : (m b : Bool) → heard_bit (place_heard m b) ≡ cond {A = Option Bool} m (Some b) None
kept-one true true = refl
kept-one true false = refl
kept-one false b = refl

map-same : {X Y : Type 0} (f g : X → Y) (xs : List X) → ((x : X) → f x ≡ g x) → map f xs ≡ map g xs
map-same f g [] same = refl
map-same f g (x ∷ xs) same = ap (λ y. y ∷ map f xs) (same x) ∙ ap (λ ys. g x ∷ ys) (map-same f g xs same)

pub kept_octets : (octets : List ℕ) (marks bits : List Bool) → heards marks bits ≡ map heard_octet octets
    → marked_bits (marks_with marks bits) ≡ map first_in octets
unfolding heards_from
kept_octets octets marks bits is =
    map-same (marked_bit (marks_with marks bits)) (λ p. heard_bit (place_heard (bit marks p) (bit bits p)))
    (range_with_len 0 (length marks))
    (λ p. sym (kept-one (bit marks p) (bit bits p)))
    ∙ sym (map-map heard_bit (λ m. place_heard (bit marks m) (bit bits m)) (range_with_len 0 (length marks)))
    ∙ ap (map heard_bit) is ∙ map-map heard_bit heard_octet octets

-- how many octets records have
octets-long : (n : ℕ) (records : List HeardBits) → AreLong n records
    → length (flat_map record_octets records) ≡ length records * (n + 1)
octets-long n [] long = omega arith
octets-long n (s ∷ records) long =
    let first = long-record n s (long 0 s (omega arith)) in
    let rest = octets-long n records (λ k d h. long (suc k) d (omega (arith, h))) in
    length-append (record_octets s) (flat_map record_octets records) ∙ grind (arith, first, rest)

pub room_long : (digest : ℕ) (link : Link) (records : List HeardBits) → AreStoresFor link records
    → length (room_of digest link records) ≡ 32 + link.plan.c * (word_size link.graph link.plan + 1)
unfolding room_of
room_long digest link records fit =
    length-append (room_header digest link) (flat_map record_octets records)
    ∙ ap (λ n. 32 + n) (octets-long (word_size link.graph link.plan) records (fit-long link records fit)
    ∙ ap (λ c. c * (word_size link.graph link.plan + 1)) fit.many)
