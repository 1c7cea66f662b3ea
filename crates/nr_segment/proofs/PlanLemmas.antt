-- What is true of the numbers of a plan.
use Rattle.std.proofs.Common.{IsSome, None, Ok, Option, Some, arith, cond, nat_lt, refl, suc, true, unwrap_or, zero, ℕ, ◌%◌}
use Rattle.std.proofs.Common.{◌*◌, ◌+◌, ◌-◌, ◌/◌, ◌<◌, ◌∙◌, ◌≡◌, ◌≤◌}
use Rattle.std.proofs.{Math.Nat.lt_of_mul-lt-mul_left, Math.Nat.mul-le-mul_right, Math.Nat.mul-sub, lemmas.Bool.Decides.nat_tests}
use Rattle.nr_graphpick.specs.{Graph.cols_of, Graph.info_cols_of, declared.Graph.Graph}
use Rattle.nr_graphpick.specs.declared.Graph.TheVariants.{One, Two}
use Rattle.nr_lifting.specs.Sizes.{is_in, least_size, set_index, sizes}
use Rattle.nr_segment.proofs.SizeSearchFacts.{least_size-half, least_size-holds, least_size-listed, least_size-some, listed-most}
use Rattle.nr_segment.specs.Plan.{IsSound, Numbers, block_count, check_bits, info_columns, kdash_of, lifting_size, numbers_of}
use Rattle.nr_segment.{proofs.SizeSearchFacts.set_index-some, specs.Plan.plan_of, specs.Plan.total_bits}

-- an option that has a value has the one that it is unwrapped to
some-unwrap_or : (o : Option ℕ) → IsSome o → o ≡ Some (unwrap_or o 0)
some-unwrap_or (Some x) some = refl
some-unwrap_or None some = cc

-- how b bits are shared out to c code blocks of kdash bits, l of them for a CRC, over kb columns out of cols
pub record IsShared (b l c kdash kb cols : ℕ) : Type 0 where
  pub some : 0 < c
  pub few : c ≤ 344
  pub several : l ≡ cond (nat_lt 1 c) 24 0
  pub checked : l < kdash
  pub total : c * kdash ≡ b + c * l
  pub least : 24 ≤ kdash
  pub spread : kdash ≤ kb * 384
  pub wide : 4 ≤ kb
  pub narrow : kb ≤ cols
  pub cols_most : cols ≤ 22

-- several code blocks: `most` is the size of the largest one, less its CRC, and l is 24
several : (most b c kdash : ℕ) → 0 < most → 0 < b → b ≤ c * most → 0 < c → c * kdash ≡ b + c * 24
    → (24 < kdash) × (kdash ≤ most + 24)
several most b c kdash most_some b_some covers some total =
    let low : 24 < kdash = lt_of_mul-lt-mul_left c (omega arith) in
    let high : kdash < most + 25 = lt_of_mul-lt-mul_left c (omega arith) in
    (low, omega arith)

-- all b bits are in one code block
one-block : (b kb cols : ℕ) → 24 ≤ b → b ≤ kb * 384 → 4 ≤ kb → kb ≤ cols → cols ≤ 22
    → IsShared b 0 1 ((b + 1 * 0) / 1) kb cols
one-block b kb cols least spread wide narrow cols_most = grind arith

-- they are shared out to c code blocks
several-blocks : (most b c kb cols : ℕ) → 0 < most → 0 < b → 1 < c → c ≤ 344 → b ≤ c * most
    → most + 24 ≤ kb * 384 → 4 ≤ kb → kb ≤ cols → cols ≤ 22 → (b + c * 24) % c ≡ 0
    → IsShared b 24 c ((b + c * 24) / c) kb cols
several-blocks most b c kb cols most_some b_some many few covers spread wide narrow cols_most even =
    let total : c * ((b + c * 24) / c) ≡ b + c * 24 = omega arith in
    let size : (24 < (b + c * 24) / c) × ((b + c * 24) / c ≤ most + 24) =
    several most b c ((b + c * 24) / c) most_some b_some covers (omega arith) total in
    let is_many : nat_lt 1 c ≡ true = grind (arith, nat_tests) in
    record {
      some = omega arith;
      few = few;
      several = rw is_many;
      checked = size.0;
      total = total;
      least = omega arith;
      spread = omega arith;
      wide = wide;
      narrow = narrow;
      cols_most = cols_most;
    }

-- with base graph 1
shared-one : (b : ℕ) → 24 ≤ b → b ≤ 1310744 → total_bits One b % block_count One b ≡ 0
    → IsShared b (check_bits One b) (block_count One b) (kdash_of One b) (info_columns One b) 22
shared-one b least most even = grind (arith, nat_tests, one-block, several-blocks)

-- the columns of base graph 2 are enough for one code block
columns-two : (b : ℕ) → b ≤ 3840 → b ≤ info_columns Two b * 384
columns-two b short = grind (arith, nat_tests)

-- there are six to ten of them
columns-two-range : (b : ℕ) → (4 ≤ info_columns Two b) × (info_columns Two b ≤ 10)
columns-two-range b = (grind (arith, nat_tests), grind (arith, nat_tests))

-- with base graph 2
shared-two : (b : ℕ) → 24 ≤ b → b ≤ 1310744 → total_bits Two b % block_count Two b ≡ 0
    → IsShared b (check_bits Two b) (block_count Two b) (kdash_of Two b) (info_columns Two b) 10
shared-two b least most even = grind (arith, nat_tests, columns-two-range, one-block, columns-two, several-blocks)

-- the bits are shared out like this with either base graph
pub shared : (graph : Graph) (b : ℕ) → 24 ≤ b → b ≤ 1310744 → total_bits graph b % block_count graph b ≡ 0
    → IsShared b (check_bits graph b) (block_count graph b) (kdash_of graph b) (info_columns graph b) (info_cols_of graph)
shared One b least most even = shared-one b least most even
shared Two b least most even = shared-two b least most even

-- the share of each code block without its CRC
share : (b c kdash l : ℕ) → l < kdash → c * kdash ≡ b + c * l → c * (kdash - l) ≡ b
share b c kdash l checked total = let less : c * kdash - c * l ≡ b = omega arith in mul-sub c kdash l ∙ less

-- Zc is the least size for K' bits in Kb columns
pub size-found : (graph : Graph) (b : ℕ) → kdash_of graph b ≤ info_columns graph b * 384
    → least_size (info_columns graph b) (kdash_of graph b) ≡ Some (lifting_size graph b)
unfolding lifting_size
size-found graph b spread = some-unwrap_or _ (least_size-some (info_columns graph b) (kdash_of graph b) spread)

-- a size that holds bits is not zero
size-positive : (kb need z : ℕ) → need ≤ kb * z → 24 ≤ need → 0 < z
size-positive kb need zero holds some = absurd (omega arith)
size-positive kb need (suc z) holds some = omega arith

-- N is at most 66 times the largest size
coded-most : (graph : Graph) (z : ℕ) → z ≤ 384 → (cols_of graph - 2) * z ≤ 25344
coded-most One z most = omega arith
coded-most Two z most = omega arith

-- the numbers are sound if the bits are shared out
sound-numbers : (graph : Graph) (b : ℕ) → 24 ≤ b → b ≤ 1310744
    → IsShared b (check_bits graph b) (block_count graph b) (kdash_of graph b) (info_columns graph b) (info_cols_of graph)
    → IsSound graph b (numbers_of graph b)
unfolding numbers_of
sound-numbers graph b least most s =
    let found : least_size (info_columns graph b) (kdash_of graph b) ≡ Some (lifting_size graph b) =
    size-found graph b s.spread in
    let listed : is_in (lifting_size graph b) sizes ≡ true = least_size-listed _ _ _ found in
    let holds : kdash_of graph b ≤ info_columns graph b * lifting_size graph b = least_size-holds _ _ _ found in
    let narrow : info_columns graph b * lifting_size graph b ≤ info_cols_of graph * lifting_size graph b =
    mul-le-mul_right (lifting_size graph b) s.narrow in
    let cols : info_cols_of graph * lifting_size graph b ≤ 22 * lifting_size graph b =
    mul-le-mul_right (lifting_size graph b) s.cols_most in
    let size_most : lifting_size graph b ≤ 384 = listed-most (lifting_size graph b) listed in
    let low : info_columns graph b < kdash_of graph b = omega arith in
    let half : 2 * lifting_size graph b < kdash_of graph b =
    least_size-half (info_columns graph b) (kdash_of graph b) (lifting_size graph b) s.wide low found in
    record {
      least = least;
      most = most;
      some = s.some;
      few = s.few;
      several = s.several;
      checked = s.checked;
      shared = share b (block_count graph b) (kdash_of graph b) (check_bits graph b) s.checked s.total;
      listed = listed;
      set_is = some-unwrap_or _ (set_index-some (lifting_size graph b) listed);
      size_some = size-positive (info_columns graph b) (kdash_of graph b) (lifting_size graph b) holds s.least;
      size_most = size_most;
      columns = refl;
      coded = refl;
      held = omega arith;
      unpunctured = half;
      k_most = omega arith;
      n_most = coded-most graph (lifting_size graph b) size_most;
    }

-- the numbers of every plan are sound
pub sound-plan : (graph : Graph) (b : ℕ) (p : Numbers) → plan_of graph b ≡ Ok p → IsSound graph b p
unfolding plan_of
sound-plan graph b p planned = grind (arith, nat_tests, sound-numbers, shared)

-- there is a plan if there is no fault
accepted : (graph : Graph) (b : ℕ) → 24 ≤ b → b ≤ 1310744 → total_bits graph b % block_count graph b ≡ 0
    → plan_of graph b ≡ Ok (numbers_of graph b)
unfolding plan_of
accepted graph b least most whole = grind (arith, nat_tests)

-- Zc is found if there is no fault
size-planned : (graph : Graph) (b l c : ℕ) → 24 ≤ b → b ≤ 1310744 → l ≡ check_bits graph b
    → c ≡ block_count graph b → (b + c * l) % c ≡ 0
    → least_size (info_columns graph b) ((b + c * l) / c) ≡ Some (lifting_size graph b)
size-planned graph b l c least most checks blocks whole = grind (arith, size-found, shared)

-- so there is a size
pub some-size : (graph : Graph) (b l c kb : ℕ) → 24 ≤ b → b ≤ 1310744 → l ≡ check_bits graph b
    → c ≡ block_count graph b → (b + c * l) % c ≡ 0 → kb ≡ info_columns graph b
    → IsSome (least_size kb ((b + c * l) / c))
some-size graph b l c kb least most checks blocks whole is_kb = grind (arith, size-planned)

-- and it has a set index
pub some-set : (kb need z : ℕ) → least_size kb need ≡ Some z → IsSome (set_index z)
some-set kb need z found = set_index-some z (least_size-listed kb need z found)

-- numbers that are computed one after the other are those of the plan
pub planned-numbers : (graph : Graph) (b l c kb z set : ℕ) → 24 ≤ b → b ≤ 1310744 → l ≡ check_bits graph b
    → c ≡ block_count graph b → (b + c * l) % c ≡ 0 → kb ≡ info_columns graph b
    → least_size kb ((b + c * l) / c) ≡ Some z → set_index z ≡ Some set
    → plan_of graph b ≡ Ok (record {
      l = l;
      c = c;
      kdash = (b + c * l) / c;
      kb = kb;
      z = z;
      set = set;
      k = info_cols_of graph * z;
      n = (cols_of graph - 2) * z;
    })
unfolding numbers_of
planned-numbers graph b l c kb z set least most checks blocks whole is_kb is_z is_set = grind (arith, size-planned, accepted)
