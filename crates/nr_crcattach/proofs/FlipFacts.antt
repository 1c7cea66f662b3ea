-- The lowest bits of a number in the other order.
use Rattle.nr_crcattach.proofs.Common.{nat_tests, ◌≡◌, ℕ, ◌+◌, ◌-◌, ◌*◌, ◌/◌, ◌%◌, ◌^◌, ◌<◌}
use Rattle.nr_crcattach.proofs.Common.{◌≤◌, ◌==◌, inl, inr, zero, suc, false, get_or, sym, ◌∙◌, ap, arith, bit_xor}
use Rattle.nr_crcattach.proofs.Common.{bit_at, cases_lt, pow_pos, shr_below, xor_lt, bit_at-lt, bit_at_xor, xor_self, low_first}
use Rattle.nr_crcattach.proofs.{Common.length-low_first, Common.high_first, Common.flip, RemainderFacts.length-high_first}
use Rattle.std.proofs.lemmas.{Nat.mod_below, Nat.shl_below, Nat.Bits.bit_at_above, Nat.Bits.same_from_bits_below}
use Rattle.nr_bitvec.proofs.BitFacts.{bit_at_mod, bit_at_shl_high, bit_at_shl_low, bit_at_shr}
use Rattle.nr_bitvec.proofs.OctetListFacts.{bit-number_of, number_of-lt, same_bit}
use Rattle.nr_bitvec.proofs.{PackedListFacts.bit-low_first, PlaceFacts.same_from_bits}

pub flip-lt : (n v : ℕ) → flip n v < 2 ^ n
unfolding flip
flip-lt n v = number_of-lt n (low_first n v)

pub bit-flip : (n v j : ℕ) → j < n → bit_at (flip n v) j ≡ bit_at v (n - 1 - j)
unfolding flip
bit-flip n v j h =
    same_bit (bit_at (flip n v) j) (bit_at v (n - 1 - j)) (bit_at-lt (flip n v) j) (bit_at-lt v (n - 1 - j))
    (bit-number_of n (low_first n v) j h ∙ bit-low_first n v (n - 1 - j) (omega arith))

-- a number with these bits is that one
pub flip-is : (n v w : ℕ) → w < 2 ^ n → ((j : ℕ) → j < n → bit_at w j ≡ bit_at v (n - 1 - j)) → w ≡ flip n v
flip-is n v w small same = same_from_bits_below n w (flip n v) small (flip-lt n v) (λ j h. same j h ∙ sym (bit-flip n v j h))

-- twice in the other order is the number itself
pub flip-flip : (n v : ℕ) → v < 2 ^ n → flip n (flip n v) ≡ v
flip-flip n v small =
    sym (flip-is n (flip n v) v small (λ j h.
    let i : n - 1 - (n - 1 - j) ≡ j = omega (arith, h) in
    sym (bit-flip n v (n - 1 - j) (omega (arith, h)) ∙ ap (bit_at v) i)))

-- a sum in the other order is the sum of both
pub flip-xor : (n a b : ℕ) → flip n (bit_xor a b) ≡ bit_xor (flip n a) (flip n b)
flip-xor n a b =
    sym (flip-is n (bit_xor a b) (bit_xor (flip n a) (flip n b)) (xor_lt n (flip n a) (flip n b) (flip-lt n a) (flip-lt n b))
    (λ j h. cc (bit_at_xor (flip n a) (flip n b) j, bit-flip n a j h, bit-flip n b j h, bit_at_xor a b (n - 1 - j))))

pub flip-zero : (n : ℕ) → flip n 0 ≡ 0
flip-zero n = flip-xor n 0 0 ∙ xor_self (flip n 0)

-- of more bits than the number has
pub flip-moved : (n k v : ℕ) → v < 2 ^ n → flip (n + k) v ≡ flip n v * 2 ^ k
flip-moved n k v small =
    sym (flip-is (n + k) v (flip n v * 2 ^ k) (shl_below (flip n v) n k (flip-lt n v))
    (λ j h. elim (cases_lt j k) [
      | inl low ↦ bit_at_shl_low (flip n v) k j low ∙ sym (bit_at_above v n (n + k - 1 - j) small (omega (arith, low)))
      | inr high ↦
          let i : n - 1 - (j - k) ≡ n + k - 1 - j = omega (arith, high) in
          bit_at_shl_high (flip n v) k j high ∙ bit-flip n v (j - k) (omega (arith, h, high)) ∙ ap (bit_at v) i
    ]))

-- octet 7 - k of a word in the other order is octet k of the word, in the other order
pub flip-octet : (v k : ℕ) → k < 8 → flip 64 v / 2 ^ (8 * (7 - k)) % 2 ^ 8 ≡ flip 8 (v / 2 ^ (8 * k) % 2 ^ 8)
flip-octet v k h =
    flip-is 8 (v / 2 ^ (8 * k) % 2 ^ 8) (flip 64 v / 2 ^ (8 * (7 - k)) % 2 ^ 8)
    (mod_below (flip 64 v / 2 ^ (8 * (7 - k))) (2 ^ 8) (pow_pos 8))
    (λ j b.
    let i : 64 - 1 - (8 * (7 - k) + j) ≡ 8 * k + (8 - 1 - j) = omega (arith, h, b) in
    bit_at_mod (flip 64 v / 2 ^ (8 * (7 - k))) 8 j b ∙ bit_at_shr (flip 64 v) (8 * (7 - k)) j
    ∙ bit-flip 64 v (8 * (7 - k) + j) (omega (arith, h, b)) ∙ ap (bit_at v) i
    ∙ sym (bit_at_mod (v / 2 ^ (8 * k)) 8 (8 - 1 - j) (omega arith) ∙ bit_at_shr v (8 * k) (8 - 1 - j)))

-- the highest bits of a word in the other order
pub flip-reversed : (n v reversed : ℕ) → n ≤ 64 → reversed < 2 ^ 64
    → ((j : ℕ) → j < 64 → bit_at reversed j ≡ bit_at v (63 - j)) → reversed / 2 ^ (64 - n) ≡ flip n v
flip-reversed n v reversed short is_word turns =
    let all : n + (64 - n) ≡ 64 = omega (arith, short) in
    flip-is n v (reversed / 2 ^ (64 - n)) (shr_below reversed n (64 - n) (rw all is_word))
    (λ j h.
    let i : 63 - (64 - n + j) ≡ n - 1 - j = omega (arith, h, short) in
    bit_at_shr reversed (64 - n) j ∙ turns (64 - n + j) (omega (arith, h, short)) ∙ ap (bit_at v) i)

-- the same bits, from the other end on
get_or-high_first : (n v j : ℕ) → j < n → get_or (high_first n v) j false ≡ (bit_at v (n - 1 - j) == 1)
unfolding high_first
get_or-high_first zero v j h = absurd (omega (arith, h))
get_or-high_first (suc n) v zero h = let i : n ≡ suc n - 1 - 0 = omega arith in ap (λ k. bit_at v k == 1) i
get_or-high_first (suc n) v (suc j) h = grind (arith, nat_tests, get_or-high_first n v j (omega (arith, h)))

pub low_first-flip : (n v : ℕ) → low_first n (flip n v) ≡ high_first n v
low_first-flip n v =
    grind (arith, nat_tests, same_from_bits, length-low_first, length-high_first, bit-low_first, bit-flip, get_or-high_first)

pub high_first-flip : (n v : ℕ) → high_first n (flip n v) ≡ low_first n v
high_first-flip n v =
    grind (arith, nat_tests, same_from_bits, length-high_first, length-low_first, get_or-high_first, bit-flip, bit-low_first)
