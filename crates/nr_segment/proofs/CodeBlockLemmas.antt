-- Cutting into code blocks and joining them.
use Rattle.std.proofs.Common.{All, Bool, List, Ok, [], ap, append-nil, arith, cond, drop, false, flat_map, get_or, length}
use Rattle.std.proofs.Common.{length-append, length-drop, map, nat_lt, replicate, slice_index_or, suc, sym, take, true, zero, ℕ}
use Rattle.std.proofs.Common.{◌*◌, ◌++◌, ◌+◌, ◌-◌, ◌<◌, ◌∙◌, ◌∷◌, ◌≡◌, ◌≤◌}
use Rattle.std.proofs.Math.{Nat.mul-le-mul_right, Nat.zero-mul, Seq.take-add, Seq.take-suc}
use Rattle.std.proofs.lemmas.{Bool.Decides.nat_tests, Grind.flat_map-append, List.Concat.get_or-flat_map}
use Rattle.std.proofs.lemmas.List.{get_or-take, length-replicate, length-take-le, take-append-le, take_all}
use Rattle.std.{proofs.lemmas.List.FromFn.map-range_with_len_more, specs.List.range_with_len}
use Rattle.nr_bitvec.specs.Bit.{bit}
use Rattle.nr_crcattach.{proofs.RemainderFacts.length-high_first, specs.Crc.crc_of, specs.Crc.high_first}
use Rattle.nr_crcattach.specs.declared.Poly.TheVariants.{B24}
use Rattle.nr_graphpick.specs.declared.Graph.{Graph}
use Rattle.nr_segment.{proofs.PlanLemmas.sound-plan, specs.Plan.IsSound, specs.Plan.Numbers, specs.Plan.plan_of}
use Rattle.nr_segment.specs.CodeBlock.{all_code_bits, code_bits, code_block, joined_blocks, part_of, share, shared_bits}

-- the share of a code block is inside the transport block
pub share-inside : (c s b r : ℕ) → c * s ≡ b → r < c → r * s + s ≤ b
share-inside c s b r whole one = grind (arith, mul-le-mul_right)

-- a piece that is inside a list has its whole length
length-piece : (s from : ℕ) (bits : List Bool) → from + s ≤ length bits → length (take s (drop from bits)) ≡ s
length-piece s from bits inside = grind (arith, length-take-le, length-drop)

-- each code block has K - L bits of the transport block
length-shared_bits : (graph : Graph) (b : ℕ) (p : Numbers) (bits : List Bool) (r : ℕ) → IsSound graph b p
    → length bits ≡ b → r < p.c
    → length (shared_bits p bits r) ≡ share p
length-shared_bits graph b p bits r sound long one = grind (arith, share-inside, length-piece)

-- each code block has K' bits
pub length-code_bits : (graph : Graph) (b : ℕ) (p : Numbers) (bits : List Bool) (r : ℕ) → plan_of graph b ≡ Ok p
    → length bits ≡ b → r < p.c → length (code_bits p bits r) ≡ p.kdash
length-code_bits graph b p bits r planned long one =
    let sound : IsSound graph b p = sound-plan graph b p planned in
    go (nat_lt 1 p.c) (shared_bits p bits r) sound.several (length-shared_bits graph b p bits r sound long one) sound.checked
  where
    go : (many : Bool) (piece : List Bool) → p.l ≡ cond many 24 0 → length piece ≡ share p → p.l < p.kdash
        → length (cond many (piece ++ high_first 24 (crc_of B24 piece)) piece) ≡ p.kdash
    go true piece checks shared checked =
        let end : length (high_first 24 (crc_of B24 piece)) ≡ 24 = length-high_first 24 _ in
        simp length-append (omega arith)
    go false piece checks shared checked = omega arith

-- each code block has K bits with its fillers
pub length-code_block : (graph : Graph) (b : ℕ) (p : Numbers) (bits : List Bool) (r : ℕ) → plan_of graph b ≡ Ok p
    → length bits ≡ b → r < p.c → length (code_block p bits r) ≡ p.k
length-code_block graph b p bits r planned long one =
    let sound : IsSound graph b p = sound-plan graph b p planned in
    let coded : length (code_bits p bits r) ≡ p.kdash = length-code_bits graph b p bits r planned long one in
    length-append (code_bits p bits r) (replicate (p.k - p.kdash) false)
    ∙ omega (arith, coded, sound.held, length-replicate (p.k - p.kdash) false)

-- the bits before its CRC are the share of a code block
take-code_bits : (graph : Graph) (b : ℕ) (p : Numbers) (bits : List Bool) (r : ℕ) → IsSound graph b p → length bits ≡ b
    → r < p.c
    → take (share p) (code_bits p bits r) ≡ shared_bits p bits r
take-code_bits graph b p bits r sound long one = grind (arith, nat_tests, length-shared_bits, take-append-le, take_all)

-- the first n code blocks join to their shares of the transport block
joined-front : (graph : Graph) (b : ℕ) (p : Numbers) (bits : List Bool) (n : ℕ) → IsSound graph b p → length bits ≡ b
    → n ≤ p.c
    → joined_blocks p (map (code_bits p bits) (range_with_len 0 n)) ≡ take (n * share p) bits
joined-front graph b p bits zero sound long within = ap (λ m. take {A = Bool} m bits) (sym (zero-mul (share p)))
joined-front graph b p bits (suc n) sound long within =
    let front : joined_blocks p (map (code_bits p bits) (range_with_len 0 n)) ≡ take (n * share p) bits =
    joined-front graph b p bits n sound long (omega arith) in
    let one : take (share p) (code_bits p bits n) ≡ take (share p) (drop (part_of p n 0) bits) =
    take-code_bits graph b p bits n sound long within in
    let from : part_of p n 0 ≡ n * share p = omega arith in
    let next : suc n ≡ n + 1 = omega arith in
    let more : n * share p + share p ≡ suc n * share p = omega arith in
    let pieces =
    ap (joined_blocks p) (map-range_with_len_more (code_bits p bits) 0 n n (omega arith))
    ∙ flat_map-append (take (share p)) (map (code_bits p bits) (range_with_len 0 n)) (code_bits p bits n ∷ []) in
    ap (λ m. joined_blocks p (map (code_bits p bits) (range_with_len 0 m))) next
    ∙ pieces
    ∙ rw (front, append-nil, one, from) (sym (take-add (n * share p) (share p) bits) ∙ ap (λ m. take m bits) more)

-- joining undoes cutting
pub join-cut : (graph : Graph) (b : ℕ) (p : Numbers) (bits : List Bool) → plan_of graph b ≡ Ok p → length bits ≡ b
    → joined_blocks p (all_code_bits p bits) ≡ bits
join-cut graph b p bits planned long =
    let sound : IsSound graph b p = sound-plan graph b p planned in
    let whole : length bits ≤ p.c * share p = omega arith in
    joined-front graph b p bits p.c sound long (omega arith) ∙ take_all (p.c * share p) bits whole

-- the first n of code blocks of equal length join to n shares
length-joined : (s k : ℕ) (blocks : List (List Bool)) (n : ℕ) → s ≤ k → All (λ block. length block ≡ k) blocks
    → n ≤ length blocks → length (flat_map (take s) (take n blocks)) ≡ n * s
length-joined s k blocks zero short long within = sym (zero-mul s)
length-joined s k blocks (suc n) short long within =
    let front : length (flat_map (take s) (take n blocks)) ≡ n * s =
    length-joined s k blocks n short long (omega arith) in
    let one : length (get_or blocks n []) ≡ k = long n [] within in
    let piece : length (take s (get_or blocks n [])) ≡ s = length-take-le s (get_or blocks n []) (omega arith) in
    rw (take-suc blocks n [] within, flat_map-append, append-nil, length-append, front, piece) (omega arith)

-- bit k of code block r has its index in the transport block
pub joined-part : (graph : Graph) (b : ℕ) (p : Numbers) (blocks : List (List Bool)) (r k : ℕ) → plan_of graph b ≡ Ok p
    → All (λ block. length block ≡ p.kdash) blocks → r < length blocks → k < share p
    → bit (joined_blocks p blocks) (part_of p r k) ≡ bit (slice_index_or blocks r []) k
joined-part graph b p blocks r k planned long one inside =
    let before : length (flat_map (take (share p)) (take r blocks)) ≡ r * share p =
    length-joined (share p) p.kdash blocks r (omega arith) long (omega arith) in
    let block : length (get_or blocks r []) ≡ p.kdash = long r [] one in
    let piece : length (take (share p) (get_or blocks r [])) ≡ share p =
    length-take-le (share p) (get_or blocks r []) (omega arith) in
    sym (ap (λ m. get_or (flat_map (take (share p)) blocks) (m + k) false) before)
    ∙ get_or-flat_map (take (share p)) blocks r k [] false one (omega arith)
    ∙ get_or-take (share p) (get_or blocks r []) k false inside
