-- Every list of n bits, in one list.
use Rattle.nr_bitvec.proofs.Common.{◌≡◌, ℕ, zero, suc, Bool, true, false, List, [], ◌∷◌, length, refl, ap, ◌∙◌}
use Rattle.nr_bitvec.{proofs.Common.arith, specs.BitList.bit_lists}
use Rattle.std.proofs.lemmas.List.Elements.{All-append, All-cons, All-map, All-nil, All-weaker, Contains-append_left}
use Rattle.std.{proofs.Common.map, specs.List.All, specs.List.Contains, proofs.lemmas.List.Elements.Contains-append_right}
use Rattle.std.proofs.lemmas.List.{length-map, get_or-map}

-- a list has n bits
abbrev pub HasLength : ℕ → List Bool → Type 0
HasLength n bits = length bits ≡ n

-- every list of n bits has this length
pub bit_lists-long : (n : ℕ) → All (HasLength n) (bit_lists n)
unfolding bit_lists
bit_lists-long zero = All-cons (HasLength 0) [] [] refl (All-nil (HasLength 0))
bit_lists-long (suc n) =
    let led = λ (b : Bool). All-map (HasLength (suc n)) (λ bits. b ∷ bits) (bit_lists n)
    (All-weaker (HasLength n) (λ bits. HasLength (suc n) (b ∷ bits)) (λ bits e. ap suc e) (bit_lists n) (bit_lists-long n)) in
    All-append (HasLength (suc n)) (map (λ bits. false ∷ bits) (bit_lists n)) (map (λ bits. true ∷ bits) (bit_lists n))
    (led false) (led true)

led-has : (b : Bool) (xs : List (List Bool)) (bits : List Bool) → Contains xs bits
    → Contains (map (λ more. b ∷ more) xs) (b ∷ bits)
led-has b xs bits has = (
  has.0,
  omega (arith, length-map xs (λ more. b ∷ more), has.1),
  get_or-map (λ more. b ∷ more) xs has.0 bits (b ∷ bits) has.1 ∙ ap (λ more. b ∷ more) has.2,
)

-- each list of bits is among those of its length
pub bit_lists-has : (bits : List Bool) → Contains (bit_lists (length bits)) bits
unfolding bit_lists
bit_lists-has [] = (0, omega arith, refl)
bit_lists-has (false ∷ bits) =
    let lists = bit_lists (length bits) in
    Contains-append_left (map (λ more. false ∷ more) lists) (map (λ more. true ∷ more) lists) (false ∷ bits)
    (led-has false lists bits (bit_lists-has bits))
bit_lists-has (true ∷ bits) =
    let lists = bit_lists (length bits) in
    Contains-append_right (map (λ more. false ∷ more) lists) (map (λ more. true ∷ more) lists) (true ∷ bits)
    (led-has true lists bits (bit_lists-has bits))
