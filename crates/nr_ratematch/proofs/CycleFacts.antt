-- Once round a range without the numbers that a test drops: which number is at each place.
use Rattle.nr_ratematch.proofs.Common.{◌≡◌, ℕ, ◌+◌, ◌-◌, ◌%◌, ◌<◌, ◌≤◌, Bool, ◌++◌, length}
use Rattle.nr_ratematch.proofs.Common.{get_or, map, filter, refl, sym, ap, ◌∙◌, arith, range_with_len, mod-eq_of_lt}
use Rattle.nr_ratematch.proofs.Common.{length-append, get_or_append_left, get_or-append_right, length-map-range_with_len}
use Rattle.nr_ratematch.proofs.Common.{get_or-map-range_with_len, mod_once, index_of}
use Rattle.nr_ratematch.proofs.RangeFacts.{below_or_not, range_turned, range_split, Skips, rank, filter-range}
use Rattle.std.proofs.lemmas.{List.get_or-append-add, List.Elements.filter-append}

-- the kept numbers in two parts
halves : (keep : ℕ → Bool) (a b n s : ℕ) → Skips keep a b n → s ≤ n
    → map (index_of a (b - a)) (range_with_len 0 (rank a b n))
    ≡ map (index_of a (b - a)) (range_with_len 0 (rank a b s)) ++ filter keep (range_with_len s (n - s))
halves keep a b n s skips inside =
    sym (filter-range keep a b n n skips (omega arith))
    ∙ ap (filter keep) (range_split s n inside)
    ∙ filter-append keep (range_with_len 0 s) (range_with_len s (n - s))
    ∙ ap (λ xs. xs ++ filter keep (range_with_len s (n - s))) (filter-range keep a b n s skips inside)

-- and with the other part first
turned-is : (keep : ℕ → Bool) (a b n s : ℕ) → Skips keep a b n → s ≤ n
    → filter keep (map (λ j. (s + j) % n) (range_with_len 0 n))
    ≡ filter keep (range_with_len s (n - s)) ++ map (index_of a (b - a)) (range_with_len 0 (rank a b s))
turned-is keep a b n s skips inside = grind (arith, range_turned, filter-append, filter-range)

-- how many numbers are kept from s on
length-rest : (keep : ℕ → Bool) (a b n s : ℕ) → Skips keep a b n → s ≤ n
    → rank a b n ≡ rank a b s + length (filter keep (range_with_len s (n - s)))
length-rest keep a b n s skips inside =
    let index : ℕ → ℕ = index_of a (b - a) in
    sym (length-map-range_with_len index 0 (rank a b n))
    ∙ ap length (halves keep a b n s skips inside)
    ∙ length-append (map index (range_with_len 0 (rank a b s))) (filter keep (range_with_len s (n - s)))
    ∙ ap (λ r. r + length (filter keep (range_with_len s (n - s)))) (length-map-range_with_len index 0 (rank a b s))

-- once round, each kept number occurs once
pub length-turned : (keep : ℕ → Bool) (a b n s : ℕ) → Skips keep a b n → s ≤ n
    → length (filter keep (map (λ j. (s + j) % n) (range_with_len 0 n))) ≡ rank a b n
length-turned keep a b n s skips inside =
    let index : ℕ → ℕ = index_of a (b - a) in
    let rest = filter keep (range_with_len s (n - s)) in
    let front = map index (range_with_len 0 (rank a b s)) in
    let rest_long : rank a b n ≡ rank a b s + length rest = length-rest keep a b n s skips inside in
    let front_long : length front ≡ rank a b s = length-map-range_with_len index 0 (rank a b s) in
    let added : length rest + length front ≡ rank a b n = omega arith in
    ap length (turned-is keep a b n s skips inside) ∙ length-append rest front ∙ added

-- and the one at place k is this
pub get_or-turned : (keep : ℕ → Bool) (a b n s k : ℕ) → Skips keep a b n → s ≤ n → k < rank a b n
    → get_or (filter keep (map (λ j. (s + j) % n) (range_with_len 0 n))) k 0
    ≡ index_of a (b - a) ((rank a b s + k) % rank a b n)
get_or-turned keep a b n s k skips inside below =
    let index : ℕ → ℕ = index_of a (b - a) in
    let rest = filter keep (range_with_len s (n - s)) in
    let front = map index (range_with_len 0 (rank a b s)) in
    let rest_long : rank a b n ≡ rank a b s + length rest = length-rest keep a b n s skips inside in
    let front_long : length front ≡ rank a b s = length-map-range_with_len index 0 (rank a b s) in
    ap (λ xs. get_or xs k 0) (turned-is keep a b n s skips inside)
    ∙ below_or_not k (length rest)
    (λ low.
    let small : (rank a b s + k) % rank a b n ≡ rank a b s + k = mod-eq_of_lt (omega arith) in
    get_or_append_left rest front 0 k low
    ∙ sym (get_or-append-add front rest k 0)
    ∙ ap (λ l. get_or (front ++ rest) (l + k) 0) front_long
    ∙ ap (λ xs. get_or xs (rank a b s + k) 0) (sym (halves keep a b n s skips inside))
    ∙ get_or-map-range_with_len index 0 (rank a b n) (rank a b s + k) (rank a b s + k) 0 (omega arith) (omega arith)
    ∙ ap index (sym small))
    (λ high.
    let once : (rank a b s + k) % rank a b n ≡ rank a b s + k - rank a b n =
    mod_once (rank a b s + k) (rank a b n) (omega arith) (omega arith) in
    let here : k - length rest ≡ (rank a b s + k) % rank a b n = omega arith in
    get_or-append_right rest front (length rest) k 0 refl high
    ∙ get_or-map-range_with_len index 0 (rank a b s) (k - length rest) (k - length rest) 0 (omega arith) (omega arith)
    ∙ ap index here)
