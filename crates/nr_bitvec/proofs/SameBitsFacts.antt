-- What `==` on two lists of bits says.
use Rattle.nr_bitvec.proofs.Common.{nat_tests, common_steps, ◌≡◌, ◌==◌, false≢true, same_from_bits_below, bits_of_words}
use Rattle.nr_bitvec.proofs.Common.{◌+◌, ◌*◌, ◌/◌, ◌%◌, ◌^◌, ◌<◌, ◌∙◌, eqb-true, bit_at-lt, IsPacked}
use Rattle.nr_bitvec.proofs.Common.{ℕ, Bool, true, false, List, length, get_or, refl, ap, sym, arith, bit, BitList, place}
use Rattle.nr_bitvec.{specs.BitList.same_bits, proofs.BitFacts.place_of, proofs.OctetListFacts.same_bit}
use Rattle.nr_bitvec.proofs.PlaceFacts.{length-unpacked, bit-place}
use Rattle.std.{proofs.lemmas.Bool.false_from_ne_true, proofs.lemmas.Slice.Eq.slice_eq-Decides, specs.Bool.Decides}
use Rattle.std.specs.Cmp.{booleans_Decides}

-- it is true exactly if the lists are equal
pub same_bits-Decides : (a b : BitList) → Decides (same_bits a b) (a.items ≡ b.items)
same_bits-Decides a b = slice_eq-Decides booleans_Decides a.items b.items (same_bits a b) refl

-- any result that is true exactly then is that of `same_bits`
same-answer : (r : Bool) (a b : BitList) → (r ≡ true → a.items ≡ b.items) → (a.items ≡ b.items → r ≡ true)
    → r ≡ same_bits a b
same-answer true a b f g = sym ((same_bits-Decides a b).1 (f refl))
same-answer false a b f g = sym (false_from_ne_true (same_bits a b) (λ e. false≢true (g ((same_bits-Decides a b).0 e))))

-- two words of 64 places, with the same places
pub same-word : (ws vs : List ℕ) (k : ℕ) → get_or ws k 0 < 2 ^ 64 → get_or vs k 0 < 2 ^ 64
    → ((t : ℕ) → place ws t ≡ place vs t) → get_or ws k 0 ≡ get_or vs k 0
same-word ws vs k fits fit same =
    same_from_bits_below 64 (get_or ws k 0) (get_or vs k 0) fits fit
    (λ i b. sym (place_of ws (64 * k + i) k i refl b) ∙ same (64 * k + i) ∙ place_of vs (64 * k + i) k i refl b)

-- lists of one length are compared by their words
pub same-packed : (n m : ℕ) (ws vs : List ℕ) (r : Bool) (a b : BitList) → IsPacked n ws → IsPacked m vs → n ≡ m
    → bits_of_words n ws ≡ a.items → bits_of_words m vs ≡ b.items
    → (r ≡ true → ws ≡ vs) → (length ws ≡ length vs → ((t : ℕ) → place ws t ≡ place vs t) → r ≡ true)
    → r ≡ same_bits a b
same-packed n m ws vs r a b p q e f g equal places =
    same-answer r a b
    (λ h. sym f ∙ ap (bits_of_words n) (equal h) ∙ ap (λ k. bits_of_words k vs) e ∙ g)
    (λ h. places (omega (arith, e, p.above, p.below, q.above, q.below))
    (λ t. same_bit (place ws t) (place vs t) (bit_at-lt (get_or ws (t / 64) 0) (t % 64))
    (bit_at-lt (get_or vs (t / 64) 0) (t % 64))
    (sym (bit-place n ws t p.clear) ∙ ap (λ xs. bit xs t) (f ∙ h ∙ sym g) ∙ bit-place m vs t q.clear)))

-- lists of different lengths differ
pub other-lengths : (n m : ℕ) (ws vs : List ℕ) (a b : BitList) → (n ≡ m → ⊥) → bits_of_words n ws ≡ a.items
    → bits_of_words m vs ≡ b.items → (n == m) ≡ same_bits a b
other-lengths n m ws vs a b apart f g = grind (arith, common_steps, nat_tests, same-answer, eqb-true, length-unpacked)
