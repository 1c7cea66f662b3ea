-- The bits of a code block with its fillers, and of a transport block with its CRC. Then the words that are kept of
-- code blocks.
use Rattle.nr_blockdesk.proofs.Common.{nat_tests, ◌≡◌, ◌≤◌, ◌∙◌, code_block, kept_words, length-set, peelers_of}
use Rattle.nr_blockdesk.proofs.Common.{rules, length-append, div-mul-add, mod-mul-add, length-take-le, bit-low_first, get_or-set_at}
use Rattle.nr_blockdesk.proofs.Common.{set, nat_lt, length, get_or, arith, bit_at, crc_of, Graph, part_of, Numbers, IsRead, word_at}
use Rattle.nr_blockdesk.proofs.Common.{◌+◌, ◌-◌, ◌*◌, ◌/◌, ◌%◌, ◌<◌, map-set, cols_of, Peeling, AreWords}
use Rattle.nr_blockdesk.proofs.Common.{◌==◌, ◌++◌, ⊎_elim, cases_lt, cases_eq, low_first, code_bits, known_bit, CodeBlock}
use Rattle.nr_blockdesk.proofs.Common.{false, get_or-drop, get_or-take, get_or-map, length-drop, same_lists, length-map, high_first}
use Rattle.nr_blockdesk.proofs.Common.{get_or-append_right, get_or-replicate, get_or_append_left, get_or_default, get_or-set_other}
use Rattle.nr_blockdesk.proofs.Common.{[], ℕ, zero, suc, min, Bool, cond, List, take, sym, ap, bit, B24, share}
use Rattle.std.proofs.lemmas.List.{set-get_or}
use Rattle.nr_crcattach.proofs.RemainderFacts.{length-high_first}
use Rattle.nr_graphpick.specs.Graph.{info_cols_of}
use Rattle.nr_segment.specs.CodeBlock.{shared_bits}

bit-high_first : (n v k : ℕ) → k < n → bit (high_first n v) k ≡ (bit_at v (n - 1 - k) == 1)
unfolding high_first
bit-high_first zero v k inside = absurd (omega arith)
bit-high_first (suc n) v zero inside = grind (arith, nat_tests)
bit-high_first (suc n) v (suc k) inside = grind (arith, nat_tests, bit-high_first n v k (omega arith))

-- the bits of the transport block that a code block has
length-shared : (p : Numbers) (bits : List Bool) (r : ℕ) → part_of p r 0 + share p ≤ length bits
    → length (shared_bits p bits r) ≡ share p
length-shared p bits r inside = grind (arith, length-drop, length-take-le)

in-front : (more : Bool) (xs check fill : List Bool) (k : ℕ) → k < length xs
    → bit (cond more (xs ++ check) xs ++ fill) k ≡ bit xs k
in-front more xs check fill k inside = grind (arith, get_or_append_left, length-append)

pub code-shared : (p : Numbers) (bits : List Bool) (r k : ℕ) → part_of p r 0 + share p ≤ length bits → k < share p
    → bit bits (part_of p r k) ≡ bit (code_block p bits r) k
code-shared p bits r k fits inside = grind (arith, nat_tests, length-shared, get_or-drop, get_or-take, in-front)

in-check : (xs fill : List Bool) (v n k : ℕ) → length xs ≡ n → n ≤ k → k < n + 24
    → bit ((xs ++ high_first 24 v) ++ fill) k ≡ (bit_at v (n + 24 - 1 - k) == 1)
in-check xs fill v n k long low high =
    grind (arith, nat_tests, length-append, get_or_append_left, length-high_first, get_or-append_right, bit-high_first)

pub code-checked : (p : Numbers) (bits : List Bool) (r k : ℕ) → part_of p r 0 + share p ≤ length bits
    → p.l ≡ cond (nat_lt 1 p.c) 24 0 → p.l < p.kdash → share p ≤ k → k < p.kdash
    → (bit_at (crc_of B24 (shared_bits p bits r)) (p.kdash - 1 - k) == 1) ≡ bit (code_block p bits r) k
code-checked p bits r k fits several less low high = grind (arith, nat_tests, length-shared, in-check)

pub code-filled : (p : Numbers) (bits : List Bool) (r k : ℕ) → length (code_bits p bits r) ≡ p.kdash → p.kdash ≤ k
    → k < p.k
    → false ≡ bit (code_block p bits r) k
code-filled p bits r k long low high = grind (arith, get_or-append_right, get_or-replicate)

-- code block r's bits are in the transport block
pub part-inside : (c s r : ℕ) → r < c → r * s + 0 + s ≤ c * s
part-inside zero s r inside = absurd (omega arith)
part-inside (suc c) s zero inside = omega arith
part-inside (suc c) s (suc r) inside = let before = part-inside c s r (omega arith) in omega (arith, before)

-- one more word is put, of bits that another list has
pub same-more : (at next most word count : ℕ) (target xs ys : List Bool) → next ≡ at + 64 → count ≡ min (most - at) 64
    → ((q : ℕ) → q < min at most → bit xs q ≡ bit target q)
    → ((t : ℕ) → t < 64 → at + t < most → (bit_at word t == 1) ≡ bit target (at + t))
    → ((t : ℕ) → t < count → bit ys (at + t) ≡ (bit_at word t == 1))
    → ((t : ℕ) → t < at → bit ys t ≡ bit xs t)
    → (q : ℕ) → q < min next most → bit ys q ≡ bit target q
same-more at next most word count target xs ys next-is count-is same read within before q below = ⊎_elim
    (λ (low : q < at). before q low ∙ same q (omega arith))
    (λ (high : at ≤ q).
    let place : at + (q - at) ≡ q = omega arith in
    rw (← place) (within (q - at) (omega arith) ∙ read (q - at) (omega arith) (omega arith)))
    (cases_lt q at)

pub begins-with : (xs target : List Bool) (n : ℕ) → n ≤ length xs → length target ≡ n
    → ((q : ℕ) → q < n → bit xs q ≡ bit target q)
    → take n xs ≡ target
begins-with xs target n fits long same = search (rules, same_lists, length-take-le, get_or-take, get_or_default)

-- K bits fit into a word
pub k-fits : (g : Graph) (p : Numbers) → p.k ≡ info_cols_of g * p.z → p.k ≤ cols_of g * p.z
k-fits g p columns = grind arith

-- one more word of bits is read, from one code block
pub read-more : (p : Numbers) (ps : List Peeling) (xs ys : List Bool) (n r k count word : ℕ) → length xs ≡ n
    → r * share p + k ≡ n
    → ((i : ℕ) → i < n → IsRead p ps xs i)
    → k + count ≤ share p
    → ((j : ℕ) (d : Peeling) → j < count → (bit_at word j == 1) ≡ known_bit (get_or ps r d) (k + j))
    → ys ≡ xs ++ low_first count word
    → (i : ℕ) → i < n + count → IsRead p ps ys i
read-more p ps xs ys n r k count word long there read one-block known pushed i below d = ap (λ l. bit l i) pushed ∙ ⊎_elim
    (λ (low : i < n). get_or_append_left xs (low_first count word) false i (omega (arith, low, long)) ∙ read i low d)
    (λ (high : n ≤ i).
    let s : ℕ = share p in
    let j : ℕ = i - n in
    let few : j < count = omega (arith, below, high) in
    let small : k + j < s = omega (arith, few, one-block) in
    let split : r * s + (k + j) ≡ i = omega (arith, high, there) in
    let block : i / s ≡ r = ap (λ m. m / s) (sym split) ∙ div-mul-add r s (k + j) small in
    let place : i % s ≡ k + j = ap (λ m. m % s) (sym split) ∙ mod-mul-add r s (k + j) small in
    get_or-append_right xs (low_first count word) n i false long high ∙ bit-low_first count word j few ∙ known j d few
    ∙ ap (λ m. known_bit (get_or ps m d) (k + j)) (sym block)
    ∙ ap (known_bit (get_or ps (i / s) d)) (sym place))
    (cases_lt i n)

-- the words that are kept of code blocks
pub kept-inside : {K : Type 0} (c n : ℕ) (B : List (CodeBlock K)) (r : ℕ) → AreWords c n (kept_words B) → r < c
    → r < length B
kept-inside c n B r are block = omega (arith, length-map B (λ (b : CodeBlock _). b.word), are.many, block)

pub word-long : {K : Type 0} (c n : ℕ) (B : List (CodeBlock K)) (r : ℕ) (d : CodeBlock K) → AreWords c n (kept_words B)
    → r < c
    → length (get_or B r d).word ≡ n
word-long c n B r d are block =
    sym (ap length (get_or-map (λ (b : CodeBlock _). b.word) B r d [] (kept-inside c n B r are block)))
    ∙ are.long r [] (rw are.many block)

-- one word is replaced by another of as many bits
pub words-set : (c n : ℕ) (words : List (List Bool)) (r : ℕ) (w : List Bool) → AreWords c n words → r < c → length w ≡ n
    → AreWords c n (set words r w)
words-set c n words r w are block long = grind (arith, length-set, get_or-set_at, get_or-set_other, cases_eq)

-- and the peelers are unchanged
pub peelers-stay : {K : Type 0} (B : List (CodeBlock K)) (r : ℕ) (d : CodeBlock K) (w : List Bool) → r < length B
    → peelers_of (set B r (record { peeler = (get_or B r d).peeler; word = w })) ≡ peelers_of B
peelers-stay B r d w inside =
    map-set (λ (b : CodeBlock _). b.peeler) B r (record { peeler = (get_or B r d).peeler; word = w })
    ∙ ap (set (peelers_of B) r) (sym (get_or-map (λ (b : CodeBlock _). b.peeler) B r d d.peeler inside))
    ∙ set-get_or (peelers_of B) r d.peeler

-- one more code block has its word
pub words-more : (words : List (List Bool)) (r : ℕ) (w : List Bool) (f : ℕ → List Bool) → r < length words → w ≡ f r
    → ((q : ℕ) → q < r → word_at words q ≡ f q) → (q : ℕ) → q < r + 1 → word_at (set words r w) q ≡ f q
words-more words r w f inside is before q below = grind (arith, get_or-set_at, get_or-set_other, cases_eq)
