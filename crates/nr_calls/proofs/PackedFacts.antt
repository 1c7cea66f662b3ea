-- Places with eight to an octet, as the octets that nr_receive takes.
use Rattle.nr_calls.proofs.Common.{inl, inr, ◌≡◌, ◌≢◌, ℕ, ◌+◌, ◌*◌, ◌<◌, ◌≤◌, Bool, true}
use Rattle.nr_calls.proofs.Common.{false, if◌then◌else◌, ◌&&◌}
use Rattle.nr_calls.proofs.Common.{List, [], ◌∷◌, ◌++◌, length, map, take, drop, refl, sym, ap, ◌∙◌, arith}
use Rattle.nr_calls.proofs.Common.{cases_lt, nat_le}
use Rattle.nr_calls.proofs.Common.{length-append, length-map, length-map-range_with_len, length-take-le, get_or, get_or-take}
use Rattle.nr_calls.proofs.Common.{range_with_len, bit, digit, heard_octet, heards, heards_from, place_heard, NrTx, lt-leb}
use Rattle.nr_calls.proofs.Common.{reception, tx_of, Tx}
use Rattle.std.proofs.lemmas.{Bool.le-leb, List.same_lists, Simd.map-map}
use Rattle.std.proofs.Math.Seq.{drop-append_seam, take-append_seam}
use Rattle.std.proofs.lemmas.List.FromFn.{get_or-map-range_with_len}
use Rattle.std.specs.Prelude.{max, min}
use Rattle.nr_bitvec.specs.BitList.{bits_of}
use Rattle.nr_bitvec.proofs.OctetListFacts.{length-bits_of}
use Rattle.nr_calls.specs.{Packed.octet_count, Packed.unpacked, Packed.unpacked_part, Receiving.arrival}

place : (known value : Bool) → place_heard known value ≡ heard_octet (if known then digit value else 2)
place false value = refl
place true false = refl
place true true = refl

-- marks and bits of the first g places say what the octets of nr_receive say
pub packed-heard : (g : ℕ) (bits known : List ℕ) → g ≤ 8 * length known
    → heards (take g (bits_of known)) (take g (bits_of bits)) ≡ map heard_octet (unpacked_part g bits known)
unfolding heards_from
packed-heard g bits known within =
    let marks : List Bool = take g (bits_of known) in
    let values : List Bool = take g (bits_of bits) in
    let octet : ℕ → ℕ = λ m. if bit (bits_of known) m then digit (bit (bits_of bits) m) else 2 in
    let long : length marks ≡ g = length-take-le g (bits_of known) (omega (arith, within, length-bits_of known)) in
    let all : length (heards marks values) ≡ g =
    length-map-range_with_len (λ m. place_heard (bit marks m) (bit values m)) 0 (length marks) ∙ long in
    same_lists (heards marks values) (map heard_octet (unpacked_part g bits known))
    (all ∙ sym (length-map (unpacked_part g bits known) heard_octet ∙ length-map-range_with_len octet 0 g))
    (λ m d h.
    let below : m < g = omega (arith, h, all) in
    get_or-map-range_with_len (λ k. place_heard (bit marks k) (bit values k)) 0 (length marks) m m d (omega (arith, below, long))
    (omega arith)
    ∙ ap (λ b. place_heard b (bit values m)) (get_or-take g (bits_of known) m false below)
    ∙ ap (place_heard (bit (bits_of known) m)) (get_or-take g (bits_of bits) m false below)
    ∙ place (bit (bits_of known) m) (bit (bits_of bits) m)
    ∙ sym (ap (λ xs. get_or xs m d) (map-map heard_octet octet (range_with_len 0 g))
    ∙ get_or-map-range_with_len (λ k. heard_octet (octet k)) 0 g m m d below (omega arith)))

-- the first bits of octets
pub first-long : (g : ℕ) (octets : List ℕ) → length octets ≡ octet_count g → length (take g (bits_of octets)) ≡ g
first-long g octets long = length-take-le g (bits_of octets) (omega (arith, length-bits_of octets, long))

part-long : (g : ℕ) (bits known : List ℕ) → length (unpacked_part g bits known) ≡ g
part-long g bits known =
    length-map-range_with_len (λ m. if bit (bits_of known) m then digit (bit (bits_of bits) m) else 2) 0 g

module _ (all : List NrTx) (t : NrTx) (ts : List NrTx) (bits known : List ℕ) (is : all ≡ t ∷ ts) where
  abbrev n : ℕ
  n = octet_count t.g

  abbrev part : List ℕ
  part = unpacked_part t.g (take n bits) (take n known)

  abbrev rest : List ℕ
  rest = unpacked ts (drop n bits) (drop n known)

  module _ (whole : n ≤ min (length bits) (length known)) where
    split : unpacked all bits known ≡ part ++ rest
    unfolding unpacked
    split =
        let one : nat_le n (length bits) ≡ true = le-leb n (length bits) (omega (arith, whole)) in
        let two : nat_le n (length known) ≡ true = le-leb n (length known) (omega (arith, whole)) in
        rw (is, one, two) refl

    -- the octets of the next transmission, and those of the ones after it
    pub next-long : t.g ≤ length (unpacked all bits known)
    next-long = omega (arith, ap length split, length-append part rest, part-long t.g (take n bits) (take n known))

    pub next-part : take t.g (unpacked all bits known) ≡ part
    next-part = ap (take t.g) split ∙ ap (λ k. take k (part ++ rest)) (sym (part-long t.g (take n bits) (take n known)))
        ∙ take-append_seam part rest

    pub next-rest : drop t.g (unpacked all bits known) ≡ rest
    next-rest = ap (drop t.g) split ∙ ap (λ k. drop k (part ++ rest)) (sym (part-long t.g (take n bits) (take n known)))
        ∙ drop-append_seam part rest

    -- what is taken of it is what arrives
    pub arrives : (u : Tx) (own own_known : List ℕ) → u ≡ tx_of t → own ≡ take n bits → own_known ≡ take n known
        → reception u (map heard_octet (unpacked_part u.g own own_known)) ≡ arrival t (unpacked all bits known)
    arrives u own own_known same bits-are known-are =
        rw (same, bits-are, known-are) (ap (λ o. reception (tx_of t) (map heard_octet o)) (sym next-part))

    pub behind : (own own_known : List ℕ) → own ≡ drop n bits → own_known ≡ drop n known
        → unpacked ts own own_known ≡ drop t.g (unpacked all bits known)
    behind own own_known bits-are known-are = rw (bits-are, known-are) (sym next-rest)

  -- if octets are missing, so are places
  pub next-short : min (length bits) (length known) < n → length (unpacked all bits known) < t.g
  unfolding unpacked
  next-short short =
      let lacks : (nat_le n (length bits) && nat_le n (length known)) ≡ false = elim (cases_lt (length bits) n) [
        | inl lt ↦ rw (lt-leb n (length bits) lt) refl
        | inr ge ↦ rw (le-leb n (length bits) ge, lt-leb n (length known) (omega (arith, short, ge))) refl
      ] in
      let none : unpacked all bits known ≡ [] = rw (is, lacks) refl in
      omega (arith, ap length none, short)

-- octets that are left over are a place too many
pub over : (all : List NrTx) (bits known : List ℕ) → length all ≡ 0 → 0 < max (length bits) (length known)
    → length (unpacked all bits known) ≢ 0
unfolding unpacked
over [] [] [] none some = absurd (omega (arith, some))
over [] [] (k ∷ known) none some = omega arith
over [] (b ∷ bits) known none some = omega arith
over (t ∷ ts) bits known none some = absurd (omega (arith, none))

pub nothing-over : (all : List NrTx) (bits known : List ℕ) → length all ≡ 0 → max (length bits) (length known) ≤ 0
    → length (unpacked all bits known) ≡ 0
unfolding unpacked
nothing-over [] [] [] none few = refl
nothing-over [] [] (k ∷ known) none few = absurd (omega (arith, few))
nothing-over [] (b ∷ bits) known none few = absurd (omega (arith, few))
nothing-over (t ∷ ts) bits known none few = absurd (omega (arith, none))
