-- 64 more bits a turn, octet by octet.
use Rattle.nr_crcattach.proofs.Common.{nat_tests, ◌≡◌, ℕ, ◌+◌, ◌-◌, ◌*◌, ◌/◌, ◌%◌, ◌^◌, ◌<◌}
use Rattle.nr_crcattach.proofs.Common.{◌≤◌, ◌==◌, zero, suc, Bool, List, [], ◌++◌, get_or, lit≤, refl, sym}
use Rattle.nr_crcattach.proofs.Common.{◌∙◌, ap, arith, bit_xor, shr-shr, shr_below, xor_comm, xor_lt, bit_at-lt, bit_at_xor}
use Rattle.nr_crcattach.proofs.Common.{xor_assoc, xor_self, xor_zero_r, low_first, Poly, degree, times_d, residue, high_first, flip}
use Rattle.nr_crcattach.{proofs.Common.octet_residues, proofs.Common.octet_tables, specs.inside.Octets.Continues}
use Rattle.nr_crcattach.proofs.FlipFacts.{flip-flip, flip-lt, flip-moved, flip-octet, flip-xor, high_first-flip}
use Rattle.nr_crcattach.proofs.{RemainderFacts.length-high_first, RemainderFacts.residue-own, PolynomialSumFacts.xor_pairs}
use Rattle.nr_crcattach.proofs.GeneratorFacts.{degree-le, remainders-le}
use Rattle.nr_crcattach.proofs.NumberBitFacts.{high_first-low, high_first-split}
use Rattle.nr_crcattach.proofs.ResidueFacts.{residue-append, residue-lt, residue-suc}
use Rattle.std.proofs.{Common.if◌then◌else◌, Common.bit_and, lemmas.List.FromFn.get_or-map-range_with_len}
use Rattle.std.proofs.Math.Nat.{div-eq_of_lt, mod-eq_of_lt}
use Rattle.std.proofs.lemmas.Nat.{and_mask, shl-shr, shr_split, xor_shr}
use lib.Bits.{xor_zero_l}

-- both parts of a sum
both : {a b a' b' : ℕ} → a ≡ a' → b ≡ b' → bit_xor a b ≡ bit_xor a' b'
both {a} {b} {a'} {b'} first second = ap (λ n. bit_xor n b) first ∙ ap (bit_xor a') second

-- ---- the remainder of a sum

-- a term for the sum of two binary digits is the sum of the terms for each
digits : (x y r : ℕ) → x < 2 → y < 2
    → (if (x + y) % 2 == 1 then r else 0) ≡ bit_xor (if x == 1 then r else 0) (if y == 1 then r else 0)
digits zero zero r is_digit is_digit' = refl
digits zero (suc zero) r is_digit is_digit' = sym (xor_zero_l r)
digits (suc zero) zero r is_digit is_digit' = sym (xor_zero_r r)
digits (suc zero) (suc zero) r is_digit is_digit' = sym (xor_self r)
digits x (suc (suc y)) r is_digit is_digit' = absurd (omega arith)
digits (suc (suc x)) y r is_digit is_digit' = absurd (omega arith)

-- the bits of a sum leave the sum of both remainders
pub residue-xor : (p : Poly) (s n a b : ℕ)
    → residue p s (high_first n (bit_xor a b)) ≡ bit_xor (residue p s (high_first n a)) (residue p s (high_first n b))
unfolding residue high_first
residue-xor p s zero a b = refl
residue-xor p s (suc n) a b =
    grind (arith, nat_tests, length-high_first, bit_at_xor, digits, bit_at-lt, residue-xor p s n a b, xor_pairs)

-- ---- more powers of D

-- a remainder times D^n
raised : Poly → ℕ → ℕ → ℕ
raised p zero r = r
raised p (suc n) r = times_d p (raised p n r)

-- n more powers of D are the remainder times D^n
residue-raised : (p : Poly) (n s : ℕ) (bits : List Bool) → residue p (n + s) bits ≡ raised p n (residue p s bits)
unfolding raised
residue-raised p zero s bits = ap (λ m. residue p m bits) (omega arith)
residue-raised p (suc n) s bits =
    let next : suc n + s ≡ suc (n + s) = omega arith in
    ap (λ m. residue p m bits) next ∙ residue-suc p (n + s) bits ∙ ap (times_d p) (residue-raised p n s bits)

-- if two lists, the second a number's bits, have one remainder, they have one with more powers of D
residue-same : (p : Poly) (n : ℕ) (bits : List Bool)
    → residue p (n + degree p) bits ≡ residue p n (high_first (degree p) (residue p (degree p) bits))
residue-same p n bits =
    let r = residue p (degree p) bits in
    let plain : n + 0 ≡ n = omega arith in
    residue-raised p n (degree p) bits
    ∙ ap (raised p n) (sym (residue-own p r (residue-lt p (degree p) bits)))
    ∙ sym (residue-raised p n 0 (high_first (degree p) r))
    ∙ ap (λ m. residue p m (high_first (degree p) r)) plain

-- zeros after bits raise their powers
residue-zeros : (p : Poly) (s n k v : ℕ) → residue p (k + s) (high_first n v) ≡ residue p s (high_first (n + k) (v * 2 ^ k))
residue-zeros p s n k v =
    let moved = v * 2 ^ k in
    let zeros = residue p s (high_first k 0) in
    let none : zeros ≡ 0 = residue-xor p s k 0 0 ∙ xor_self zeros in
    let end : moved + 0 ≡ moved = omega arith in
    let lower : high_first k moved ≡ high_first k 0 = ap (high_first k) (sym end) ∙ high_first-low k k v 0 (omega arith) in
    sym (ap (residue p s) (high_first-split n k moved)
    ∙ residue-append p s (high_first n (moved / 2 ^ k)) (high_first k moved)
    ∙ ap (λ m. bit_xor (residue p (m + s) (high_first n (moved / 2 ^ k))) (residue p s (high_first k moved)))
    (length-high_first k moved)
    ∙ ap (λ w. bit_xor (residue p (k + s) (high_first n w)) (residue p s (high_first k moved))) (shl-shr v k)
    ∙ ap (λ bits. bit_xor (residue p (k + s) (high_first n v)) (residue p s bits)) lower
    ∙ ap (bit_xor (residue p (k + s) (high_first n v))) none
    ∙ xor_zero_r (residue p (k + s) (high_first n v)))

-- at least L bits enter: the check is added to the highest of them, and the check of the sum is that of all
pub residue-entered : (p : Poly) (k v : ℕ) (bits : List Bool)
    → residue p (degree p) (bits ++ high_first (degree p + k) v)
    ≡ residue p (degree p) (high_first (degree p + k) (bit_xor (residue p (degree p) bits * 2 ^ k) v))
residue-entered p k v bits =
    let l = degree p in
    let r = residue p l bits in
    let entering = residue p l (high_first (l + k) v) in
    let turn : l + k ≡ k + l = omega arith in
    let before : residue p (l + k + l) bits ≡ residue p l (high_first (l + k) (r * 2 ^ k)) =
    ap (λ n. residue p (n + l) bits) turn
    ∙ (let again : k + l + l ≡ (k + l) + l = omega arith in ap (λ n. residue p n bits) again)
    ∙ residue-same p (k + l) bits
    ∙ residue-zeros p l l k r in
    residue-append p l bits (high_first (l + k) v)
    ∙ ap (λ n. bit_xor (residue p (n + l) bits) entering) (length-high_first (l + k) v)
    ∙ ap (λ n. bit_xor n entering) before
    ∙ sym (residue-xor p l (l + k) (r * 2 ^ k) v)

-- ---- eight octets

-- the check of an octet that is followed by k zero octets
checked : Poly → ℕ → ℕ → ℕ
checked p k octet = residue p (8 * k + degree p) (high_first 8 octet)

-- the sum of the checks of n + 1 octets, of which octet k is the last
sum_of_octets : Poly → ℕ → ℕ → ℕ → ℕ
sum_of_octets p v zero k = checked p k (v / 2 ^ (8 * k))
sum_of_octets p v (suc n) k = bit_xor (sum_of_octets p v n (k + 1)) (checked p k (v / 2 ^ (8 * k) % 2 ^ 8))

-- it is the check of their bits
residue-octets : (p : Poly) (v n k : ℕ)
    → residue p (8 * k + degree p) (high_first (8 * n + 8) (v / 2 ^ (8 * k))) ≡ sum_of_octets p v n k
unfolding sum_of_octets checked
residue-octets p v zero k = refl
residue-octets p v (suc n) k =
    let s = 8 * k + degree p in
    let w = v / 2 ^ (8 * k) in
    let above = high_first (8 * n + 8) (w / 2 ^ 8) in
    let more : 8 * suc n + 8 ≡ 8 * n + 8 + 8 = omega arith in
    let next : 8 * k + 8 ≡ 8 * (k + 1) = omega arith in
    let power : 8 + s ≡ 8 * (k + 1) + degree p = omega arith in
    let up : w / 2 ^ 8 ≡ v / 2 ^ (8 * (k + 1)) = shr-shr v (8 * k) 8 ∙ ap (λ m. v / 2 ^ m) next in
    let lower : high_first 8 w ≡ high_first 8 (w % 2 ^ 8) =
    ap (high_first 8) (sym (shr_split w 8)) ∙ high_first-low 8 8 (w / 2 ^ 8) (w % 2 ^ 8) (omega arith) in
    ap (λ m. residue p s (high_first m w)) more
    ∙ ap (residue p s) (high_first-split (8 * n + 8) 8 w)
    ∙ residue-append p s above (high_first 8 w)
    ∙ ap (λ m. bit_xor (residue p (m + s) above) (residue p s (high_first 8 w))) (length-high_first 8 w)
    ∙ both (ap (λ m. residue p m above) power ∙ ap (λ u. residue p (8 * (k + 1) + degree p) (high_first (8 * n + 8) u)) up
    ∙ residue-octets p v n (k + 1)) (ap (residue p s) lower)

-- ---- the code's numbers

-- a table's remainder of an octet
looked-up : (p : Poly) (k octet : ℕ) → k < 8 → octet < 256
    → get_or (get_or (octet_tables p) k []) octet 0 ≡ flip (degree p) (checked p k (flip 8 octet))
unfolding octet_tables octet_residues checked
looked-up p k octet is_table is_octet =
    ap (λ t. get_or t octet 0) (get_or-map-range_with_len (λ m. octet_residues p (8 * m)) 0 8 k k [] is_table (omega arith))
    ∙ get_or-map-range_with_len (λ o. flip (degree p) (residue p (8 * k + degree p) (low_first 8 o))) 0 256 octet octet 0
    is_octet (omega arith)
    ∙ ap (λ bits. flip (degree p) (residue p (8 * k + degree p) bits)) (sym (high_first-flip 8 octet))

-- octet k of a word, looked up as one that 7 - k octets follow
looked-up_octet : (p : Poly) (v k octet : ℕ) → k < 8 → octet ≡ v / 2 ^ (8 * k) % 2 ^ 8
    → get_or (get_or (octet_tables p) (7 - k) []) octet 0
    ≡ flip (degree p) (checked p (7 - k) (flip 64 v / 2 ^ (8 * (7 - k)) % 2 ^ 8))
looked-up_octet p v k octet is_table is_octet = grind (arith, looked-up, flip-octet)

-- the sum of what the tables have for a word's octets
abbrev summed : List (List ℕ) → ℕ → ℕ
summed tables v =
    let at : ℕ → ℕ → ℕ = λ k octet. get_or (get_or tables k []) octet 0 in
    bit_xor
    (bit_xor
    (bit_xor
    (bit_xor (bit_xor (bit_xor (bit_xor (at 7 (bit_and v 255)) (at 6 (bit_and (v / 2 ^ 8) 255))) (at 5 (bit_and (v / 2 ^ 16) 255)))
    (at 4 (bit_and (v / 2 ^ 24) 255))) (at 3 (bit_and (v / 2 ^ 32) 255))) (at 2 (bit_and (v / 2 ^ 40) 255)))
    (at 1 (bit_and (v / 2 ^ 48) 255))) (at 0 (v / 2 ^ 56))

-- a sum of two numbers in the other order
flipped : {a b : ℕ} (n x y : ℕ) → a ≡ flip n x → b ≡ flip n y → bit_xor a b ≡ flip n (bit_xor x y)
flipped n x y first second = both first second ∙ sym (flip-xor n x y)

-- it is the check of the word's bits in the other order
summed-is : (p : Poly) (v : ℕ) → v < 2 ^ 64
    → summed (octet_tables p) v ≡ flip (degree p) (residue p (degree p) (high_first 64 (flip 64 v)))
unfolding sum_of_octets
summed-is p v is_word =
    let w = flip 64 v in
    let top : w / 2 ^ 56 % 2 ^ 8 ≡ w / 2 ^ 56 = mod-eq_of_lt (shr_below w 8 56 (flip-lt 64 v)) in
    let last : v / 2 ^ 56 ≡ v / 2 ^ 56 % 2 ^ 8 = sym (mod-eq_of_lt (shr_below v 8 56 is_word)) in
    let whole : v / 2 ^ 0 ≡ v = omega arith in
    let first : bit_and v 255 ≡ v / 2 ^ (8 * 0) % 2 ^ 8 = and_mask v 8 ∙ ap (λ u. u % 2 ^ 8) (sym whole) in
    let at : (k : ℕ) → k < 8
    → get_or (get_or (octet_tables p) (7 - k) []) (bit_and (v / 2 ^ (8 * k)) 255) 0
    ≡ flip (degree p) (checked p (7 - k) (w / 2 ^ (8 * (7 - k)) % 2 ^ 8)) =
    λ k h. looked-up_octet p v k (bit_and (v / 2 ^ (8 * k)) 255) h (and_mask (v / 2 ^ (8 * k)) 8) in
    let n = degree p in
    let sum : summed (octet_tables p) v ≡ flip n (sum_of_octets p w 7 0) =
    flipped n _ _ (flipped n _ _ (flipped n _ _ (flipped n _ _ (flipped n _ _ (flipped n _ _ (flipped n _ _
    (looked-up_octet p v 0 (bit_and v 255) (omega arith) first ∙ ap (λ o. flip n (checked p 7 o)) top)
    (at 1 (omega arith))) (at 2 (omega arith))) (at 3 (omega arith))) (at 4 (omega arith))) (at 5 (omega arith)))
    (at 6 (omega arith)))
    (looked-up_octet p v 7 (v / 2 ^ 56) (omega arith) last) in
    let plain : 8 * 0 + n ≡ n = omega arith in
    let all : w / 2 ^ 0 ≡ w = omega arith in
    sum ∙ ap (flip n) (sym (residue-octets p w 7 0) ∙ ap (λ u. residue p (8 * 0 + n) (high_first 64 u)) all
    ∙ ap (λ s. residue p s (high_first 64 w)) plain)

-- a word to which the check is added is a word
joined-lt : (p : Poly) (r word : ℕ) → r < 2 ^ degree p → word < 2 ^ 64 → bit_xor r word < 2 ^ 64
joined-lt p r word small is_word = xor_lt 64 r word (omega (arith, small, remainders-le p)) is_word

-- what the code computes: the terms of the octets that the check does not reach, and then those of the first three
abbrev pub parted : List (List ℕ) → ℕ → ℕ → ℕ
parted tables r word =
    let at : ℕ → ℕ → ℕ = λ k octet. get_or (get_or tables k []) octet 0 in
    let joined = bit_xor r word in
    bit_xor
    (bit_xor
    (bit_xor (bit_xor (bit_xor (bit_xor (bit_xor (at 4 (bit_and (word / 2 ^ 24) 255)) (at 3 (bit_and (word / 2 ^ 32) 255)))
    (at 2 (bit_and (word / 2 ^ 40) 255))) (at 1 (bit_and (word / 2 ^ 48) 255))) (at 0 (word / 2 ^ 56))) (at 7 (bit_and joined 255)))
    (at 6 (bit_and (joined / 2 ^ 8) 255))) (at 5 (bit_and (joined / 2 ^ 16) 255))

-- three terms before five others
three-first : (a b c d e f g h : ℕ)
    → bit_xor (bit_xor (bit_xor (bit_xor (bit_xor (bit_xor (bit_xor d e) f) g) h) a) b) c
    ≡ bit_xor (bit_xor (bit_xor (bit_xor (bit_xor (bit_xor (bit_xor a b) c) d) e) f) g) h
three-first a b c d e f g h =
    let five = bit_xor (bit_xor (bit_xor (bit_xor d e) f) g) h in
    let three = bit_xor (bit_xor a b) c in
    ap (λ n. bit_xor n c) (xor_assoc five a b) ∙ xor_assoc five (bit_xor a b) c ∙ xor_comm five three
    ∙ sym (xor_assoc three (bit_xor (bit_xor (bit_xor d e) f) g) h)
    ∙ ap (λ n. bit_xor n h) (sym (xor_assoc three (bit_xor (bit_xor d e) f) g)
    ∙ ap (λ n. bit_xor n g) (sym (xor_assoc three (bit_xor d e) f)
    ∙ ap (λ n. bit_xor n f) (sym (xor_assoc three d e))))

-- the check does not reach these octets
unreached : (p : Poly) (r word n : ℕ) → r < 2 ^ degree p → 2 ^ 24 ≤ 2 ^ n → word / 2 ^ n ≡ bit_xor r word / 2 ^ n
unreached p r word n small up =
    let none : r / 2 ^ n ≡ 0 = div-eq_of_lt (omega (arith, small, up, remainders-le p)) in
    sym (xor_shr r word n ∙ ap (λ m. bit_xor m (word / 2 ^ n)) none ∙ xor_zero_l (word / 2 ^ n))

-- it is the sum for the word to which the check is added
parted-is : (p : Poly) (tables : List (List ℕ)) (r word : ℕ) → r < 2 ^ degree p
    → parted tables r word ≡ summed tables (bit_xor r word)
parted-is p tables r word small =
    let at : ℕ → ℕ → ℕ = λ k octet. get_or (get_or tables k []) octet 0 in
    let joined = bit_xor r word in
    three-first (at 7 (bit_and joined 255)) (at 6 (bit_and (joined / 2 ^ 8) 255)) (at 5 (bit_and (joined / 2 ^ 16) 255))
    (at 4 (bit_and (word / 2 ^ 24) 255)) (at 3 (bit_and (word / 2 ^ 32) 255)) (at 2 (bit_and (word / 2 ^ 40) 255))
    (at 1 (bit_and (word / 2 ^ 48) 255)) (at 0 (word / 2 ^ 56))
    ∙ both (both (both (both (both refl
    (ap (λ v. at 4 (bit_and v 255)) (unreached p r word 24 small (lit≤ tt))))
    (ap (λ v. at 3 (bit_and v 255)) (unreached p r word 32 small (lit≤ tt))))
    (ap (λ v. at 2 (bit_and v 255)) (unreached p r word 40 small (lit≤ tt))))
    (ap (λ v. at 1 (bit_and v 255)) (unreached p r word 48 small (lit≤ tt))))
    (ap (at 0) (unreached p r word 56 small (lit≤ tt)))

-- it is a remainder
pub parted-lt : (p : Poly) (tables : List (List ℕ)) (r word : ℕ) → tables ≡ octet_tables p → r < 2 ^ degree p
    → word < 2 ^ 64 → parted tables r word < 2 ^ degree p
parted-lt p tables r word are_tables small is_word =
    let joined = bit_xor r word in
    let sum : parted tables r word ≡ flip (degree p) (residue p (degree p) (high_first 64 (flip 64 joined))) =
    parted-is p tables r word small ∙ ap (λ t. summed t joined) are_tables
    ∙ summed-is p joined (joined-lt p r word small is_word) in
    rw sum (flip-lt (degree p) (residue p (degree p) (high_first 64 (flip 64 joined))))

-- it is the check of the bits followed by those of the word
pub Continues-parted : (p : Poly) (tables : List (List ℕ)) (r word : ℕ) → tables ≡ octet_tables p → r < 2 ^ degree p
    → word < 2 ^ 64
    → Continues p (flip (degree p) r) (low_first 64 word) (flip (degree p) (parted tables r word))
Continues-parted p tables r word are_tables small is_word = λ bits same.
    let l = degree p in
    let k = 64 - l in
    let joined = bit_xor r word in
    let long : l + k ≡ 64 = omega (arith, degree-le p) in
    let up : flip 64 r ≡ flip l r * 2 ^ k = ap (λ n. flip n r) (sym long) ∙ flip-moved l k r small in
    let sum : flip 64 joined ≡ bit_xor (residue p l bits * 2 ^ k) (flip 64 word) =
    flip-xor 64 r word ∙ ap (λ n. bit_xor n (flip 64 word)) (up ∙ ap (λ v. v * 2 ^ k) same) in
    let check = residue p l (high_first 64 (flip 64 joined)) in
    let entered = residue-entered p k (flip 64 word) bits in
    let enters : residue p l (bits ++ high_first 64 (flip 64 word))
    ≡ residue p l (high_first 64 (bit_xor (residue p l bits * 2 ^ k) (flip 64 word))) = rw long at entered in
    ap (flip l) (parted-is p tables r word small ∙ ap (λ t. summed t joined) are_tables)
    ∙ ap (flip l) (summed-is p joined (joined-lt p r word small is_word))
    ∙ flip-flip l check (residue-lt p l (high_first 64 (flip 64 joined)))
    ∙ ap (λ v. residue p l (high_first 64 v)) sum
    ∙ sym enters
    ∙ ap (λ w. residue p l (bits ++ w)) (high_first-flip 64 word)
