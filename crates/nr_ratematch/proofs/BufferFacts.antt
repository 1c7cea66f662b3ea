-- A circular buffer: its fillers are contiguous, and its start is one of its places.
use Rattle.nr_ratematch.proofs.Common.{◌≡◌, ℕ, zero, suc, ◌+◌, ◌-◌, ◌*◌, ◌/◌, ◌%◌, ◌<◌, ◌≤◌}
use Rattle.nr_ratematch.proofs.Common.{◌==◌, nat_le, min, Bool, true, false, cond, length, get_or, slice_index, Ok, refl, sym}
use Rattle.nr_ratematch.proofs.Common.{ap, subst, ◌∙◌, arith, mod-lt, cols_of, index_of, Circular, IsSent, place_of}
use Rattle.nr_ratematch.specs.{inside.Cycles.index_from, declared.fault.RmFault.TheVariants.NoBuffer}
use Rattle.nr_ratematch.specs.Selection.{IsCircular, reference_size, buffer_size, circular_of, start_columns, start_of, live}
use Rattle.nr_ratematch.specs.Selection.{SelectionEnds, PlacesAreSent, BuffersAreCircular}
use Rattle.nr_ratematch.proofs.RangeFacts.{Skips, rank, below_or_not, index-low, index-high}
use Rattle.nr_ratematch.proofs.CycleFacts.{length-turned, get_or-turned}
use Rattle.std.proofs.Common.{nat_lt, not, Option, Some, None, Err, lit<}
use Rattle.std.proofs.Math.Nat.{div-mul-le_self, lt_of_mul-lt-mul_left, pos_of_ne-zero, mul-lt-mul_of_pos_right}
use Rattle.std.proofs.lemmas.Bool.{and_from, and_left, and_right, lt-ltb, le-ltb, le-leb, lt-leb, eqb-false}
use Rattle.nr_graphpick.specs.declared.{Graph.Graph, Graph.TheVariants.One, Graph.TheVariants.Two}
use Rattle.nr_segment.specs.Plan.{Numbers, IsSound, PlansAreSound}
use Rattle.nr_ldpcenc.specs.Codeword.{filler}

-- the first place of a filler, and the one after the last
abbrev pub front_of : Circular → ℕ
front_of b = min (b.kdash - 2 * b.z) b.ncb

abbrev pub end_of : Circular → ℕ
end_of b = min (b.k - 2 * b.z) b.ncb

-- how many places have fillers
abbrev pub skip_of : Circular → ℕ
skip_of b = end_of b - front_of b

-- how many of the first n places have none, and how many of all
abbrev pub rank_of : Circular → ℕ → ℕ
rank_of b n = rank (front_of b) (end_of b) n

abbrev pub count_of : Circular → ℕ
count_of b = rank_of b b.ncb

-- a place has no filler
abbrev keeps : Circular → ℕ → Bool
keeps b n = not (filler b.kdash b.k (n + 2 * b.z))

pub skips-buffer : (b : Circular) → IsCircular b → Skips (keeps b) (front_of b) (end_of b) b.ncb
skips-buffer b ok =
    let low = ok.unpunctured in
    let held = ok.held in
    record {
      order = omega arith;
      before = λ i below. ap not (and_left (nat_le b.kdash (i + 2 * b.z)) (nat_lt (i + 2 * b.z) b.k)
          (lt-leb b.kdash (i + 2 * b.z) (omega arith)));
      within = λ i from below. ap not (and_from (nat_le b.kdash (i + 2 * b.z)) (nat_lt (i + 2 * b.z) b.k)
          (le-leb b.kdash (i + 2 * b.z) (omega arith)) (lt-ltb (i + 2 * b.z) b.k (omega arith)));
      after = λ i from below. ap not (and_right (nat_le b.kdash (i + 2 * b.z)) (nat_lt (i + 2 * b.z) b.k)
          (le-ltb (i + 2 * b.z) b.k (omega arith)));
    }

pub count-some : (b : Circular) → IsCircular b → 0 < count_of b
count-some b ok =
    let low = ok.unpunctured in
    let some = ok.some in
    let held = ok.held in
    omega arith

pub count-skip : (b : Circular) → IsCircular b → count_of b + skip_of b ≡ b.ncb
count-skip b ok =
    let held = ok.held in
    omega arith

-- whole columns of a part of the buffer end within it
start-below : (m n c z : ℕ) → m < c → 0 < n → m * n / (c * z) * z < n
start-below m n c z part some =
    let whole : m * n / (c * z) * (c * z) ≤ m * n = div-mul-le_self (m * n) (c * z) in
    let less : m * n < c * n = mul-lt-mul_of_pos_right {m = m} {n = c} {k = n} part some in
    lt_of_mul-lt-mul_left c (omega arith)

pub column-below : (graph : Graph) (rv : ℕ) → rv < 4 → slice_index (start_columns graph) rv < cols_of graph - 2
column-below One zero version = lit< tt
column-below One (suc zero) version = lit< tt
column-below One (suc (suc zero)) version = lit< tt
column-below One (suc (suc (suc zero))) version = lit< tt
column-below One (suc (suc (suc (suc rv)))) version = absurd (omega arith)
column-below Two zero version = lit< tt
column-below Two (suc zero) version = lit< tt
column-below Two (suc (suc zero)) version = lit< tt
column-below Two (suc (suc (suc zero))) version = lit< tt
column-below Two (suc (suc (suc (suc rv)))) version = absurd (omega arith)

-- every redundancy version starts within the buffer
pub start-inside : (b : Circular) (rv : ℕ) → IsCircular b → rv < 4 → start_of b rv < b.ncb
unfolding start_of
start-inside b rv ok version =
    start-below (slice_index (start_columns b.graph) rv) b.ncb (cols_of b.graph - 2) b.z
    (column-below b.graph rv version) ok.some

pub length-live : (b : Circular) (rv : ℕ) → IsCircular b → rv < 4 → length (live b rv) ≡ count_of b
unfolding live
length-live b rv ok version =
    let inside = start-inside b rv ok version in
    length-turned (keeps b) (front_of b) (end_of b) b.ncb (start_of b rv) (skips-buffer b ok) (omega arith)

pub get_or-live : (b : Circular) (rv k : ℕ) → IsCircular b → rv < 4 → k < count_of b
    → get_or (live b rv) k 0
    ≡ index_of (front_of b) (skip_of b) ((rank_of b (start_of b rv) + k) % count_of b)
unfolding live
get_or-live b rv k ok version below =
    let inside = start-inside b rv ok version in
    get_or-turned (keeps b) (front_of b) (end_of b) b.ncb (start_of b rv) k (skips-buffer b ok) (omega arith) below

-- the number of a place among those without a filler
abbrev pub turn_of : Circular → ℕ → ℕ → ℕ
turn_of b rv k = (rank_of b (start_of b rv) + k % count_of b) % count_of b

pub place-is : (b : Circular) (rv k : ℕ) → IsCircular b → rv < 4
    → place_of b rv k ≡ index_of (front_of b) (skip_of b) (turn_of b rv k) + 2 * b.z
unfolding place_of
place-is b rv k ok version =
    let some = count-some b ok in
    ap (λ l. get_or (live b rv) (k % l) 0 + 2 * b.z) (length-live b rv ok version)
    ∙ ap (λ n. n + 2 * b.z) (get_or-live b rv (k % count_of b) ok version (mod-lt k some))

-- the whole columns after the punctured ones
pub coded_within : (graph : Graph) (n z : ℕ) → n < (cols_of graph - 2) * z → n + 2 * z < cols_of graph * z
coded_within One n z below = omega arith
coded_within Two n z below = omega arith

coded-some : (graph : Graph) (z : ℕ) → 0 < z → 0 < (cols_of graph - 2) * z
coded-some One z some = omega arith
coded-some Two z some = omega arith

-- a place of the buffer without a filler
sent-place : (b : Circular) (n : ℕ) → IsCircular b → n < b.ncb → filler b.kdash b.k (n + 2 * b.z) ≡ false
    → IsSent b (n + 2 * b.z)
sent-place b n ok below no_filler =
    let within = ok.within in
    record {
      unpunctured = omega arith;
      buffered = omega arith;
      coded = coded_within b.graph n b.z (omega arith);
      no_filler = no_filler;
    }

-- each such place is one of a cycle
sent-index : (b : Circular) (j : ℕ) → IsCircular b → j < count_of b
    → IsSent b (index_of (front_of b) (skip_of b) j + 2 * b.z)
sent-index b j ok below =
    let low = ok.unpunctured in
    let held = ok.held in
    below_or_not j (front_of b)
    (λ before.
    let here = index-low (front_of b) (skip_of b) j before in
    subst (λ n. IsSent b (n + 2 * b.z)) (sym here)
    (sent-place b j ok (omega arith) (and_left (nat_le b.kdash (j + 2 * b.z)) (nat_lt (j + 2 * b.z) b.k)
    (lt-leb b.kdash (j + 2 * b.z) (omega arith)))))
    (λ after.
    let here = index-high (front_of b) (skip_of b) j after in
    let n = j + skip_of b in
    subst (λ n. IsSent b (n + 2 * b.z)) (sym here)
    (sent-place b n ok (omega arith) (and_right (nat_le b.kdash (n + 2 * b.z)) (nat_lt (n + 2 * b.z) b.k)
    (le-ltb (n + 2 * b.z) b.k (omega arith)))))

pub place-sent : PlacesAreSent
place-sent b rv k ok version =
    let some = count-some b ok in
    subst (IsSent b) (sym (place-is b rv k ok version))
    (sent-index b (turn_of b rv k) ok (mod-lt (rank_of b (start_of b rv) + k % count_of b) some))

pub live-some : SelectionEnds
live-some b rv ok version =
    let some = count-some b ok in
    let all = length-live b rv ok version in
    omega arith

-- the numbers of a cycle make the place
pub cycle-place : (b : Circular) (rv k : ℕ) → IsCircular b → rv < 4
    → index_from (front_of b) (skip_of b) (b.ncb - skip_of b) (rank_of b (start_of b rv)) k + 2 * b.z ≡ place_of b rv k
cycle-place b rv k ok version =
    let split = count-skip b ok in
    let count : b.ncb - skip_of b ≡ count_of b = omega arith in
    ap (λ n. index_from (front_of b) (skip_of b) n (rank_of b (start_of b rv)) k + 2 * b.z) count
    ∙ sym (place-is b rv k ok version)

-- a buffer of at least one and at most N bits
circular-plan : (graph : Graph) (n : ℕ) (p : Numbers) (lbrm : Option ℕ) → IsSound graph n p → 0 < buffer_size p lbrm
    → buffer_size p lbrm ≤ p.n → IsCircular (circular_of graph p lbrm)
circular-plan graph n p lbrm sound some within = grind arith

-- N is not zero
coded-bits : (graph : Graph) (n : ℕ) (p : Numbers) → IsSound graph n p → 0 < p.n
coded-bits graph n p sound = subst (λ m. 0 < m) (sym sound.coded) (coded-some graph p.z sound.size_some)

pub buffer-circular : PlansAreSound → BuffersAreCircular
buffer-circular sound graph n p None b planned said =
    let same : circular_of graph p None ≡ b = cc in
    let keeps_to : IsSound graph n p = sound graph n p planned in
    subst IsCircular same (circular-plan graph n p None keeps_to (coded-bits graph n p keeps_to) (omega arith))
buffer-circular sound graph n p (Some tbs) b planned said = go (reference_size p.c tbs == 0) refl said
  where
    go : (none : Bool) → (reference_size p.c tbs == 0) ≡ none
        → cond none (Err NoBuffer) (Ok (circular_of graph p (Some tbs))) ≡ Ok b → IsCircular b
    go true is said = cc
    go false is said =
        let same : circular_of graph p (Some tbs) ≡ b = cc in
        let keeps_to : IsSound graph n p = sound graph n p planned in
        let some : 0 < p.n = coded-bits graph n p keeps_to in
        let kept : 0 < reference_size p.c tbs = pos_of_ne-zero (eqb-false (reference_size p.c tbs) 0 is) in
        subst IsCircular same (circular-plan graph n p (Some tbs) keeps_to (omega arith) (omega arith))
