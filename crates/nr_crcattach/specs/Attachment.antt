-- Attachment of parity bits (TS 38.212, 5.1, 6.2.1 and 7.2.1).
use Rattle.std.specs.Prelude.{◌≡◌, ◌+◌, ◌<◌, ◌≤◌, ℕ, Bool, List, ◌++◌, length, nat_lt}
use Rattle.std.specs.Prelude.{if◌then◌else◌}
use Rattle.nr_crcattach.specs.declared.Poly.{Poly}
use Rattle.nr_crcattach.specs.declared.Poly.TheVariants.{A24, C16}
use Rattle.nr_crcattach.specs.Crc.{IsDivided, crc_of, degree, high_first}

-- the bits followed by their parity bits (clause 5.1)
abbrev pub with_check : Poly → List Bool → List Bool
with_check p bits = bits ++ high_first (degree p) (crc_of p bits)

-- the generator for transport blocks of a bits: CRC24A above 3824 bits, else CRC16 (clauses 6.2.1 and 7.2.1)
abbrev pub length_poly : ℕ → Poly
length_poly a = if nat_lt 3824 a then A24 else C16

-- how many bits a transport block of a bits has with its parity bits (clauses 6.2.1 and 7.2.1)
abbrev pub attached_length : ℕ → ℕ
attached_length a = a + degree (length_poly a)

-- the generator for a transport block
abbrev pub block_poly : List Bool → Poly
block_poly block = length_poly (length block)

-- a transport block followed by its parity bits (clauses 6.2.1 and 7.2.1)
abbrev pub attached : List Bool → List Bool
attached block = with_check (length_poly (length block)) block

-- every list followed by its parity bits leaves remainder 0 by their generator
abbrev pub CheckedListsDivide : Type 0
CheckedListsDivide = (p : Poly) (bits : List Bool) → IsDivided p (with_check p bits)

-- every transport block followed by its parity bits leaves remainder 0 by its generator
abbrev pub AttachedBlocksDivide : Type 0
AttachedBlocksDivide = (block : List Bool) → IsDivided (block_poly block) (attached block)

-- parity bits lengthen a list by their number
abbrev pub CheckedListsLengthen : Type 0
CheckedListsLengthen = (p : Poly) (bits : List Bool) → length (with_check p bits) ≡ length bits + degree p

-- a transport block has with its parity bits as many bits as attached_length says
abbrev pub BlocksLengthen : Type 0
BlocksLengthen = (block : List Bool) → length (attached block) ≡ attached_length (length block)

-- a transport block of more than 3824 bits is lengthened by 24 bits
abbrev pub LongBlocksLengthen : Type 0
LongBlocksLengthen = (block : List Bool) → 3824 < length block → length (attached block) ≡ length block + 24

-- any other transport block is lengthened by 16 bits
abbrev pub ShortBlocksLengthen : Type 0
ShortBlocksLengthen = (block : List Bool) → length block ≤ 3824 → length (attached block) ≡ length block + 16
