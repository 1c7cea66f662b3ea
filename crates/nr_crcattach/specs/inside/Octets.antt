-- The CRC computed by octets and by words, for the proof of the faster body.
use Rattle.std.specs.Prelude.{◌≡◌, ℕ, ◌+◌, ◌*◌, ◌++◌, Bool, List, map}
use Rattle.std.specs.List.{range_with_len}
use Rattle.nr_bitvec.specs.BitList.{low_first, number_of}
use Rattle.nr_crcattach.specs.{declared.Poly.Poly, Crc.crc_of, Crc.degree, Crc.residue}

-- the n lowest bits of a number in the other order
unfoldable pub flip : ℕ → ℕ → ℕ
flip n v = number_of n (low_first n v)

-- the remainder of each octet, its lowest bit first, times D^(L + s), in the other order; octet by octet from 0 on
unfoldable pub octet_residues : Poly → ℕ → List ℕ
octet_residues p s = map (λ octet. flip (degree p) (residue p (s + degree p) (low_first 8 octet))) (range_with_len 0 256)

-- these for octets with no zero octet after them, with one, and so on up to seven
unfoldable pub octet_tables : Poly → List (List ℕ)
octet_tables p = map (λ k. octet_residues p (8 * k)) (range_with_len 0 8)

-- if `remainder` is the check of some bits, `next` is that of these bits followed by `more`
abbrev pub Continues : Poly → ℕ → List Bool → ℕ → Type 0
Continues p remainder more next = (bits : List Bool) → remainder ≡ crc_of p bits → next ≡ crc_of p (bits ++ more)
