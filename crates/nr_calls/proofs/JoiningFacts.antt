-- The code blocks of a transport block, one after another.
use Rattle.nr_calls.proofs.Common.{◌≡◌, ℕ, ◌+◌, ◌*◌, ◌<◌, ◌≤◌, ◌++◌, [], ◌∷◌, Bool, List}
use Rattle.nr_calls.proofs.Common.{length, map, take}
use Rattle.nr_calls.proofs.Common.{arith, flat_map, sym, ap, ◌∙◌, get_or, take_all, take_more, map-append}
use Rattle.nr_calls.proofs.Common.{length-map, length-map-range_with_len, length-take-le, add-one, suc-mul, is_one}
use Rattle.std.proofs.lemmas.List.Folds.{flat_map-map}
use Rattle.std.proofs.lemmas.List.FromFn.{get_or-map-range_with_len}
use Rattle.std.proofs.lemmas.Simd.{map-map}
use Rattle.nr_crcattach.specs.{Attachment.length_poly, declared.Poly.Poly}
use Rattle.nr_segment.specs.{CodeBlock.joined_blocks, CodeBlock.share, Plan.Numbers}
use Rattle.nr_calls.specs.{Joining.Joined, Joining.blocks_in, Joining.end_poly, Joining.has_crc, Joining.joined_of}
use Rattle.nr_calls.specs.Many.{first_rows, nth_row}
use Rattle.nr_calls.proofs.{ManyFacts.row-inside, ManyFacts.row-long}

-- what is found of one row more
pub found-more : {Y : Type 0} (g : List ℕ → Y) (s n k : ℕ) (xs : List ℕ) (more : List Y) → k < n
    → more ≡ map g (take k (first_rows s n xs)) ++ g (nth_row s k xs) ∷ []
    → more ≡ map g (take (k + 1) (first_rows s n xs))
found-more g s n k xs more below is =
    let rows = first_rows s n xs in
    let long : length rows ≡ n = length-map-range_with_len (λ j. nth_row s j xs) 0 n in
    let row : get_or rows k [] ≡ nth_row s k xs =
    get_or-map-range_with_len (λ j. nth_row s j xs) 0 n k k [] below (omega arith) in
    is ∙ ap (λ r. map g (take k rows) ++ g r ∷ []) (sym row)
    ∙ sym (map-append g (take k rows) (get_or rows k [] ∷ []))
    ∙ ap (map g) (sym (take_more rows k [] (omega (arith, below, long))))

-- of all rows
pub found-all : {Y : Type 0} (g : List ℕ → Y) (s n k : ℕ) (xs : List ℕ) (more : List Y) → k ≡ n
    → more ≡ map g (take k (first_rows s n xs)) → more ≡ map g (first_rows s n xs)
found-all g s n k xs more is so =
    let long : length (first_rows s n xs) ≡ n = length-map-range_with_len (λ j. nth_row s j xs) 0 n in
    so ∙ ap (map g) (take_all k (first_rows s n xs) (omega (arith, long, is)))

-- a row's share of the transport block
pub share-long : (s n k m : ℕ) (xs : List ℕ) → k < n → length xs ≡ n * s → m ≤ s
    → length (take m (map is_one (nth_row s k xs))) ≡ m
share-long s n k m xs below long few =
    let row : length (nth_row s k xs) ≡ s = row-long s k xs (row-inside s k n (length xs) below long) in
    length-take-le m (map is_one (nth_row s k xs)) (omega (arith, few, row, length-map (nth_row s k xs) is_one))

pub times-more : (k m : ℕ) → (k + 1) * m ≡ k * m + m
times-more k m = ap (λ n. n * m) (add-one k) ∙ suc-mul k m ∙ omega arith

abbrev joined_as : List Bool → List Bool → Bool → Joined
joined_as block passed whole = record { block = block; passed = passed; block_passed = whole }

-- what all rows come to
pub all-joined : (p : Numbers) (a : ℕ) (octets : List ℕ) (poly : Poly) (bits block : List Bool)
    (passed : List Bool) (whole : Bool)
    → bits ≡ flat_map (λ row. take (share p) (map is_one row)) (first_rows p.kdash p.c octets)
    → passed ≡ map (λ row. has_crc (end_poly p a) (map is_one row)) (first_rows p.kdash p.c octets)
    → whole ≡ has_crc poly bits → poly ≡ length_poly a → block ≡ take a bits
    → joined_as block passed whole ≡ joined_of p a (blocks_in p octets)
all-joined p a octets poly bits block passed whole are passes is named front =
    let rows = first_rows p.kdash p.c octets in
    let joins : bits ≡ joined_blocks p (blocks_in p octets) = are ∙ sym (flat_map-map (take (share p)) (map is_one) rows) in
    let each : passed ≡ map (has_crc (end_poly p a)) (blocks_in p octets) =
    passes ∙ sym (map-map (has_crc (end_poly p a)) (map is_one) rows) in
    let all : whole ≡ has_crc (length_poly a) (joined_blocks p (blocks_in p octets)) =
    is ∙ ap (λ q. has_crc q bits) named ∙ ap (has_crc (length_poly a)) joins in
    λ i. record { block = (front ∙ ap (take a) joins) i; passed = each i; block_passed = all i }
