-- The word of K bits, and what faults they have.
use Rattle.nr_calls.proofs.Common.{nat_tests, ◌≡◌, ◌≢◌, ℕ, ◌-◌, ◌*◌, ◌<◌, ◌≤◌, Bool, true, false}
use Rattle.nr_calls.proofs.Common.{Option, Some, Ok, Err, List, length, map, take, get_or, refl, sym, ◌∙◌, arith, eq-eqb}
use Rattle.nr_calls.proofs.Common.{ne_eqb, ext_get_or, get_or-map, get_or-take, length-map, length-take-le, list_all, bit, cols_of}
use Rattle.nr_calls.proofs.Common.{info_cols_of, Graph, One, Two, ◌>>=◌, or_fault, set_index, Numbers, Entries, has_graph}
use Rattle.nr_calls.proofs.Common.{word_of, block_checks, err_unless, is_one, can_lift, base_graph, is_coded}
use Rattle.nr_calls.specs.Encoding.{encode_judged, word_for}
use Rattle.std.proofs.Common.{unwrap_or}
use Rattle.nr_transmission.specs.declared.fault.DeskFault.TheVariants as desk
use Rattle.nr_calls.specs.declared.fault.Fault.TheVariants as fault

-- the K bits are within the word
pub info_within : (g : Graph) (z k i : ℕ) → i < k → k ≡ info_cols_of g * z → i < cols_of g * z
info_within One z k i below is = omega arith
info_within Two z k i below is = omega arith

-- and all of them are
pub info_most : (g : Graph) (z k : ℕ) → k ≡ info_cols_of g * z → k ≤ cols_of g * z
info_most One z k is = omega arith
info_most Two z k is = omega arith

-- the word of a plan is that of its base graph and Zc
pub word-for : (t : Entries) (g : Graph) (p : Numbers) (info : List Bool) → set_index p.z ≡ Some p.set
    → word_of (block_checks t g p) info ≡ word_for t g p.z info
unfolding word_for
word-for t g p info is = grind (arith, unwrap_or)

-- a word that begins with the bits of K octets
pub begins : (word : List Bool) (octets : List ℕ) (k : ℕ) → length octets ≡ k → k ≤ length word
    → ((i : ℕ) → i < k → bit word i ≡ is_one (get_or octets i 0)) → take k word ≡ map is_one octets
begins word octets k long fits each =
    let taken : length (take k word) ≡ k = length-take-le k word fits in
    let made : length (map is_one octets) ≡ length octets = length-map octets is_one in
    ext_get_or false (take k word) (map is_one octets) (omega (arith, taken, made, long))
    (λ i lt.
    let below : i < k = omega (arith, lt, taken) in
    let inside : i < length octets = omega (arith, below, long) in
    get_or-take k word i false below ∙ each i below ∙ sym (get_or-map is_one octets i 0 false inside))

-- octets that have no other fault are refused for the room
room-steps : (o : Option Graph) (g : Graph) (has lift whole : Graph → Bool) (coded : Bool) (fits : Graph → Bool)
    → o ≡ Some g
    → has g ≡ true
    → lift g ≡ true → whole g ≡ true → coded ≡ true → fits g ≡ false
    → (or_fault (fault.Desk desk.Graph) o
    >>= λ graph. err_unless (fault.Desk desk.Graph) (has graph) >>= λ _. err_unless fault.Lifting (lift graph) >>= λ _.
    err_unless (fault.Desk desk.Length) (whole graph) >>= λ _. err_unless fault.Bit coded >>= λ _. err_unless fault.Room
    (fits graph) >>= λ _. Ok graph)
    ≡ Err fault.Room
room-steps o g has lift whole coded fits a b c d e f = rw (a, b, c, d, e, f) refl

pub room_refused : (t : Entries) (number z : ℕ) (octets : List ℕ) (room : ℕ) (g : Graph) (k n : ℕ)
    → base_graph number ≡ Some g
    → has_graph g t ≡ true
    → can_lift g z ≡ true → length octets ≡ k → k ≡ info_cols_of g * z → list_all is_coded octets ≡ true
    → n ≢ room → n
    ≡ (cols_of g - 2) * z
    → encode_judged t number z octets room ≡ Err fault.Room
unfolding encode_judged
room_refused t number z octets room g k n picked there lift long is-k coded other is-n = grind
    (arith, nat_tests, room-steps, eq-eqb, ne_eqb)
