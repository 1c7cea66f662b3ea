-- The lines of a blocks file, one by one.
use Rattle.nr_files.proofs.Common.{◌-◌, ◌==◌, ◌≡◌, ◌≤◌, ◌∷◌, ◌∙◌, append-nil, All-append, nat_tests}
use Rattle.nr_files.proofs.Common.{take, ℕ, true, false, Ok, Err, Some, None, subst, List, [], drop, ap, sym, refl, arith, nat_eq}
use Rattle.nr_files.proofs.Common.{◌+◌, ◌<◌, Option, IfSome, ◌++◌, length, get_or, nat_lt, take_all, Consumes, lines_in}
use Rattle.nr_files.proofs.Common.{length-drop, append_assoc, get_or_default, length-append, length_push, said_behind, blocks_said}
use Rattle.nr_files.specs.declared.blocks.BlocksFault.{BlocksFault}
use Rattle.nr_files.proofs.RefusalFacts.{with_front-more, with_front-none}
use Rattle.nr_files.specs.Blocks.{without_last, parts_of, block_said, blocks_from}
use Rattle.std.proofs.{Common.add-one, Common.length-take, Common.get_or-take, lemmas.Bool.cases_Bool}
use Rattle.std.{proofs.lemmas.List.get_or-append-add, proofs.Math.Seq.split_at, proofs.Math.Seq.take-append-add, specs.List.All}
use Rattle.std.{proofs.lemmas.List.Splits.slice_split_at, proofs.lemmas.List.Splits.slice_split_none, specs.Io.KnownBytes.IsAtEnd}
use Rattle.memchr.specs.Find.{NoneBefore, Nowhere, Passes, is_byte}
use Rattle.nr_files.specs.declared.blocks.BlocksFault.TheVariants as fault

-- ---- the lines of a text, by the place that `memchr` finds a line feed at

-- there is none before the one that is found, or none at all
pub end_free : (text : List ℕ) (end : ℕ) → NoneBefore (Passes (is_byte 10) text) 0 (length text) end
    → All (λ c. (c == 10) ≡ false) (take end text)
end_free text end found = grind (arith, nat_tests, length-take, get_or-take, get_or_default, cases_Bool)

pub rest_free : (text : List ℕ) → Nowhere (Passes (is_byte 10) text) 0 (length text) → All (λ c. (c == 10) ≡ false) text
rest_free text none = grind (arith, nat_tests, get_or_default, cases_Bool)

-- an octet that a text ends with is not in its front
last_behind : (c : ℕ) (front text : List ℕ) → 0 < length text
    → without_last c (front ++ text) ≡ front ++ without_last c text
last_behind c front text some =
    let n = length text - 1 in
    let long : length (front ++ text) - 1 ≡ length front + n = omega (arith, length-append front text) in
    rw (long, get_or-append-add front text n 0, take-append-add front text n) (grind (arith, nat_tests, cases_Bool))

lines_some : (text : List ℕ) → 0 < length text → lines_in text ≡ parts_of text
unfolding lines_in
lines_some [] some = absurd (omega (arith, some))
lines_some (c ∷ text) some = refl

-- a text without a line feed is one line
pub line_last : (line : List ℕ) → All (λ c. (c == 10) ≡ false) line → 0 < length line → lines_in line ≡ line ∷ []
unfolding parts_of
line_last line none some =
    let same : without_last 10 line ≡ line = grind (arith, nat_tests, none) in
    lines_some line some ∙ rw same (slice_split_none (λ c. c == 10) line none)

-- a line feed ends the first line
line_fed : (line text : List ℕ) → All (λ c. (c == 10) ≡ false) line
    → parts_of (line ++ 10 ∷ text) ≡ line ∷ lines_in text
unfolding lines_in parts_of
line_fed line [] none = rw (last_behind 10 line (10 ∷ []) (omega arith), append-nil) (slice_split_none (λ c. c == 10) line none)
line_fed line (d ∷ text) none =
    rw (last_behind 10 line (10 ∷ d ∷ text) (omega arith), last_behind 10 (10 ∷ []) (d ∷ text) (omega arith))
    (slice_split_at (λ c. c == 10) line 10 (without_last 10 (d ∷ text)) none refl)

pub line_ends : (line text more : List ℕ) (end : ℕ) → All (λ c. (c == 10) ≡ false) line
    → NoneBefore (Passes (is_byte 10) text) 0 (length text) end × Passes (is_byte 10) text end
    → lines_in (line ++ (text ++ more)) ≡ (line ++ take end text)
    ∷ lines_in (take (length text - (end + 1)) (drop (end + 1) text) ++ more)
line_ends line text more end none (found, feed) =
    let front = take end text in
    let back = drop (end + 1) text in
    let feed_is : get_or text end 0 ≡ 10 = grind (arith, nat_tests) in
    let whole : text ≡ front ++ 10 ∷ back = rw (add-one, ← feed_is) (split_at text end 0 found.high) in
    let joined : line ++ (text ++ more) ≡ (line ++ front) ++ 10 ∷ (back ++ more) =
    ap (λ t. line ++ (t ++ more)) whole ∙ simp append_assoc in
    let rest : take (length text - (end + 1)) back ≡ back = take_all _ _ (omega (arith, length-drop (end + 1) text)) in
    rw (joined, rest) (lines_some _ (omega (arith, length-append (line ++ front) (10 ∷ (back ++ more))))
    ∙ line_fed (line ++ front) (back ++ more) (All-append (λ c. (c == 10) ≡ false) line front none (end_free text end found)))

-- ---- a line after others

-- line 257 is refused, whatever it holds
pub turn-many : (blocks : List (List ℕ)) (part : List ℕ) (parts : List (List ℕ)) → 256 ≤ length blocks
    → said_behind blocks (part ∷ parts) ≡ Err fault.TooMany
unfolding said_behind blocks_from
turn-many blocks part parts many = let is : nat_lt 256 (length blocks + 1) ≡ true = grind (arith, nat_tests) in rw is refl

-- an earlier line's fault is the file's
pub turn-fault : (blocks : List (List ℕ)) (part : List ℕ) (parts : List (List ℕ)) (e : BlocksFault) → length blocks < 256
    → block_said (length blocks + 1) (without_last 13 part) ≡ Err e → said_behind blocks (part ∷ parts) ≡ Err e
unfolding said_behind blocks_from
turn-fault blocks part parts e few told = let is : nat_lt 256 (length blocks + 1) ≡ false = grind (arith, nat_tests) in
    rw (is, told) refl

-- and its block is before the later ones
pub turn-block : (blocks : List (List ℕ)) (part block : List ℕ) (parts : List (List ℕ)) → length blocks < 256
    → block_said (length blocks + 1) (without_last 13 part) ≡ Ok block
    → said_behind blocks (part ∷ parts) ≡ said_behind (blocks ++ block ∷ []) parts
unfolding said_behind blocks_from
turn-block blocks part block parts few told =
    let is : nat_lt 256 (length blocks + 1) ≡ false = grind (arith, nat_tests) in
    rw (is, told, length_push) (with_front-more blocks (block ∷ []) (blocks_from (length blocks + 1 + 1) parts))

-- after the last line there is no block
pub turn-end : (blocks : List (List ℕ)) → said_behind blocks [] ≡ Ok blocks
unfolding said_behind blocks_from
turn-end blocks = rw append-nil refl

-- ---- a whole file

pub blocks_said-too_long : (text : List ℕ) → 100000000 < length text → blocks_said text ≡ Err fault.TooLong
unfolding blocks_said
blocks_said-too_long text long = grind (arith, nat_tests)

pub blocks_said-empty : (text : List ℕ) → length text ≡ 0 → blocks_said text ≡ Err fault.Empty
unfolding blocks_said
blocks_said-empty text none = grind (arith, nat_tests, nat_eq)

-- any other file is read by its lines
pub blocks_said-lines : (text : List ℕ) → length text ≤ 100000000 → 0 < length text
    → blocks_said text ≡ said_behind [] (lines_in text)
unfolding blocks_said said_behind
blocks_said-lines text short some = rw (lines_some text some) (grind (arith, nat_tests, nat_eq, with_front-none))

-- whatever a source still has, it comes behind what it gave
pub at_more : (R : List ℕ → Type 0) (known left : Option (List ℕ)) (text : List ℕ) → Consumes known left text
    → ((more : List ℕ) → R (text ++ more)) → IfSome known R
at_more R None left text come holds = tt
at_more R (Some all) None text come holds = absurd come
at_more R (Some all) (Some left) text come holds = subst R (sym come) (holds left)

-- a source at its end gave all its octets
pub at_end : (R : List ℕ → Type 0) (known left new : Option (List ℕ)) (text buf : List ℕ) (n : ℕ)
    → Consumes known left text → Consumes left new (take n buf) × (n ≡ 0 → 0 < length buf → IsAtEnd new)
    → n ≡ 0 → 0 < length buf → R text → IfSome known R
at_end R None left new text buf n come last none room holds = tt
at_end R (Some all) None new text buf n come last none room holds = absurd come
at_end R (Some all) (Some left) None text buf n come last none room holds = absurd last.0
at_end R (Some all) (Some left) (Some new) text buf n come last none room holds =
    subst R (sym (come ∙ ap (λ l. text ++ l) (last.0 ∙ rw none (last.1 none room)) ∙ append-nil text)) holds
