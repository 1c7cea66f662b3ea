-- The code blocks of a transport block with its CRC (TS 38.212, 5.2.2).
use Rattle.std.specs.Prelude.{◌≡◌, ℕ, ◌+◌, ◌-◌, ◌*◌, ◌<◌, Bool, nat_lt, if◌then◌else◌, Ok, List, []}
use Rattle.std.specs.Prelude.{length, take, drop, map, flat_map, slice_index_or, All, ◌++◌, replicate, false}
use Rattle.std.specs.List.{range_with_len}
use Rattle.nr_bitvec.specs.Bit.{bit}
use Rattle.nr_crcattach.specs.Attachment.{with_check}
use Rattle.nr_crcattach.specs.declared.Poly.TheVariants.{B24}
use Rattle.nr_graphpick.specs.declared.Graph.{Graph}
use Rattle.nr_segment.specs.Plan.{Numbers, plan_of, word_size}
use Rattle.nr_segment.specs.declared.numbers.Plan.{Plan}

-- the numbers of a plan
abbrev pub numbers : Plan → Numbers
numbers p = record { l = p.l; c = p.c; kdash = p.kdash; kb = p.kb; z = p.z; set = p.set; k = p.k; n = p.n }

-- how many positions a codeword of a plan's code blocks has
abbrev pub positions_of : Plan → ℕ
positions_of p = word_size p.graph (numbers p)

-- how many bits of the transport block each code block has: K' - L
abbrev pub share : Numbers → ℕ
share p = p.kdash - p.l

-- the index in the transport block of bit k of code block r
abbrev pub part_of : Numbers → ℕ → ℕ → ℕ
part_of p r k = r * share p + k

-- the bits of the transport block that code block r has
abbrev pub shared_bits : Numbers → List Bool → ℕ → List Bool
shared_bits p bits r = take (share p) (drop (part_of p r 0) bits)

-- the K' bits of code block r: if there are several code blocks, each ends with the CRC24B of its bits
abbrev pub code_bits : Numbers → List Bool → ℕ → List Bool
code_bits p bits r = if nat_lt 1 p.c then with_check B24 (shared_bits p bits r) else shared_bits p bits r

-- the K' bits followed by the fillers up to K, which are encoded as zeros (5.2.2 and 5.3.2)
abbrev pub with_fillers : Numbers → List Bool → List Bool
with_fillers p bits = bits ++ replicate (p.k - p.kdash) false

-- the K bits of code block r, which the encoder takes
abbrev pub code_block : Numbers → List Bool → ℕ → List Bool
code_block p bits r = with_fillers p (code_bits p bits r)

-- the K' bits of each code block
abbrev pub all_code_bits : Numbers → List Bool → List (List Bool)
all_code_bits p bits = map (code_bits p bits) (range_with_len 0 p.c)

-- the bits of the transport block, from the K' bits of each code block
abbrev pub joined_blocks : Numbers → List (List Bool) → List Bool
joined_blocks p blocks = flat_map (take (share p)) blocks

-- each code block has K' bits
abbrev pub CodeBlocksAreLong : Type 0
CodeBlocksAreLong = (graph : Graph) (b : ℕ) (p : Numbers) (bits : List Bool) (r : ℕ) → plan_of graph b ≡ Ok p
    → length bits ≡ b → r < p.c → length (code_bits p bits r) ≡ p.kdash

-- each code block has K bits with its fillers
abbrev pub FilledBlocksAreLong : Type 0
FilledBlocksAreLong = (graph : Graph) (b : ℕ) (p : Numbers) (bits : List Bool) (r : ℕ) → plan_of graph b ≡ Ok p
    → length bits ≡ b → r < p.c → length (code_block p bits r) ≡ p.k

-- joining puts bit k of code block r at the index that cutting takes it from
abbrev pub JoinPutsParts : Type 0
JoinPutsParts = (graph : Graph) (b : ℕ) (p : Numbers) (blocks : List (List Bool)) (r k : ℕ) → plan_of graph b ≡ Ok p
    → All (λ block. length block ≡ p.kdash) blocks → r < length blocks → k < share p
    → bit (joined_blocks p blocks) (part_of p r k) ≡ bit (slice_index_or blocks r []) k

-- joining undoes cutting
abbrev pub JoinUndoesCut : Type 0
JoinUndoesCut = (graph : Graph) (b : ℕ) (p : Numbers) (bits : List Bool) → plan_of graph b ≡ Ok p
    → length bits ≡ b → joined_blocks p (all_code_bits p bits) ≡ bits
