-- Bits that change places in a word, and eight columns of a matrix as octets of its rows.
use Rattle.std.specs.Prelude.{◌≡◌, ℕ, ◌+◌, ◌-◌, ◌*◌, ◌%◌, ◌^◌, ◌<◌, ◌==◌, if◌then◌else◌}
use Rattle.std.specs.Prelude.{List, [], ◌∷◌, ◌++◌, bit_or, slice_index_or}
use Rattle.std.specs.{Int.bit_at, List.flat_map, List.list_any}

-- each place of a word gets the bits that come to it from another word
pub record Gets (come : ℕ → List ℕ) (word new : ℕ) : Type 0 where
  pub bits : (p : ℕ) → (bit_at new p == 1) ≡ list_any (λ k. bit_at word k == 1) (come p)

-- what comes to a place in two steps
abbrev pub in_two_steps : (ℕ → List ℕ) → (ℕ → List ℕ) → ℕ → List ℕ
in_two_steps later earlier p = flat_map earlier (later p)

-- a mask whose places are `by` higher
abbrev pub moved_up : ℕ → ℕ → ℕ
moved_up mask by = mask * 2 ^ by % 2 ^ 64

-- one bit comes to a place of a mask, and none to the others
abbrev pub only_in : ℕ → ℕ → ℕ → List ℕ
only_in mask p k = if bit_at mask p == 1 then k ∷ [] else []

-- a mask's places stay, and those `lane` above them are filled from `by` below
abbrev pub apart_from : ℕ → ℕ → ℕ → ℕ → List ℕ
apart_from mask lane by p = only_in mask p p ++ only_in (moved_up mask lane) p (p - by)

-- a mask's places stay, and those up to `lane` above them are filled from `by` above
abbrev pub together_from : ℕ → ℕ → ℕ → ℕ → List ℕ
together_from mask lane by p = only_in mask p p ++ only_in (moved_up mask (lane - by)) p (by + p)

-- the places that are in neither of two masks
abbrev pub neither : ℕ → ℕ → ℕ
neither a b = 2 ^ 64 - 1 - bit_or a b

-- a mask's places and those `by` above them change places
abbrev pub exchanged_from : ℕ → ℕ → ℕ → List ℕ
exchanged_from mask by p = only_in (neither mask (moved_up mask by)) p p ++ only_in (moved_up mask by) p (p - by)
    ++ only_in mask p (by + p)

-- eight columns of qm places are moved apart to octets
abbrev pub columns_apart : ℕ → List ℕ → ℕ → List ℕ
columns_apart qm masks =
    in_two_steps (apart_from (slice_index_or masks 2 0) 8 (8 - qm))
    (in_two_steps (apart_from (slice_index_or masks 1 0) 16 (16 - 2 * qm)) (apart_from (slice_index_or masks 0 0) 32 (32 - 4 * qm)))

-- eight octets are exchanged with eight rows of their bits
abbrev pub octets_turned : (ℕ → List ℕ) → ℕ → List ℕ
octets_turned earlier =
    in_two_steps (exchanged_from 0x00000000f0f0f0f0 28)
    (in_two_steps (exchanged_from 0x0000cccc0000cccc 14) (in_two_steps (exchanged_from 0x00aa00aa00aa00aa 7) earlier))

-- masks that make octets of the rows of eight columns
abbrev pub MakesOctets : ℕ → List ℕ → Type 0
MakesOctets qm masks = (r c : ℕ) → r < qm → c < 8
    → octets_turned (columns_apart qm masks) (8 * r + c) ≡ (qm * c + r) ∷ []

-- eight rows of bits are exchanged with eight octets
abbrev pub octets_back : ℕ → List ℕ
octets_back =
    in_two_steps (exchanged_from 0x00aa00aa00aa00aa 7)
    (in_two_steps (exchanged_from 0x0000cccc0000cccc 14) (exchanged_from 0x00000000f0f0f0f0 28))

-- eight columns of qm places are moved together from octets
abbrev pub columns_together : ℕ → List ℕ → (ℕ → List ℕ) → ℕ → List ℕ
columns_together qm masks earlier =
    in_two_steps (together_from (slice_index_or masks 0 0) 32 (32 - 4 * qm))
    (in_two_steps (together_from (slice_index_or masks 1 0) 16 (16 - 2 * qm))
    (in_two_steps (together_from (slice_index_or masks 2 0) 8 (8 - qm)) earlier))

-- masks that make columns of the octets of their rows
abbrev pub MakesColumns : ℕ → List ℕ → Type 0
MakesColumns qm masks = (c r : ℕ) → c < 8 → r < qm
    → columns_together qm masks octets_back (c * qm + r) ≡ (8 * r + c) ∷ []
