-- The numbers by which a transport block with its CRC is cut into code blocks (TS 38.212, 5.2.2 and 5.3.2).
use Rattle.std.specs.Prelude.{◌≡◌, ℕ, ◌+◌, ◌-◌, ◌*◌, ◌/◌, ◌%◌, ◌<◌, ◌≤◌, ◌==◌, true, not}
use Rattle.std.specs.Prelude.{nat_lt, nat_le, if◌then◌else◌, Some, unwrap_or, Result, Ok, Err}
use Rattle.std.specs.Int.{div_ceil}
use Rattle.nr_graphpick.specs.Graph.{info_cols_of, cols_of}
use Rattle.nr_graphpick.specs.declared.Graph.{Graph}
use Rattle.nr_graphpick.specs.declared.Graph.TheVariants.{One, Two}
use Rattle.nr_lifting.specs.Sizes.{sizes, is_in, least_size, set_index}
use Rattle.nr_segment.specs.declared.numbers.SegFault.{SegFault}
use Rattle.nr_segment.specs.declared.numbers.SegFault.TheVariants.{Short, Long, Uneven}

-- Kcb, how many bits the largest code block has
abbrev pub largest_block : Graph → ℕ
largest_block One = 8448
largest_block Two = 3840

-- L, how many CRC bits each code block has, for b bits in all
abbrev pub check_bits : Graph → ℕ → ℕ
check_bits graph b = if nat_le b (largest_block graph) then 0 else 24

-- C, the number of code blocks
abbrev pub block_count : Graph → ℕ → ℕ
block_count graph b = if nat_le b (largest_block graph) then 1 else div_ceil b (largest_block graph - 24)

-- B', the bits of all code blocks
abbrev pub total_bits : Graph → ℕ → ℕ
total_bits graph b = b + block_count graph b * check_bits graph b

-- K', the bits of each code block
abbrev pub kdash_of : Graph → ℕ → ℕ
kdash_of graph b = total_bits graph b / block_count graph b

-- Kb, the number of columns that K' bits are spread over
abbrev pub info_columns : Graph → ℕ → ℕ
info_columns One b = 22
info_columns Two b =
    if nat_lt 640 b then 10 else (if nat_lt 560 b then 9 else (if nat_lt 192 b then 8 else 6))

-- Zc, the least lifting size with which Kb columns hold K' bits
unfoldable pub lifting_size : Graph → ℕ → ℕ
lifting_size graph b = unwrap_or (least_size (info_columns graph b) (kdash_of graph b)) 0

-- the numbers of a plan, by their names in TS 38.212; kdash is K'
pub record Numbers : Type 0 where
  pub l : ℕ
  pub c : ℕ
  pub kdash : ℕ
  pub kb : ℕ
  pub z : ℕ
  pub set : ℕ
  pub k : ℕ
  pub n : ℕ

-- the numbers for b bits: K is 22 Zc or 10 Zc, and N is 66 Zc or 50 Zc
unfoldable pub numbers_of : Graph → ℕ → Numbers
numbers_of graph b = record {
  l = check_bits graph b;
  c = block_count graph b;
  kdash = kdash_of graph b;
  kb = info_columns graph b;
  z = lifting_size graph b;
  set = unwrap_or (set_index (lifting_size graph b)) 0;
  k = info_cols_of graph * lifting_size graph b;
  n = (cols_of graph - 2) * lifting_size graph b;
}

-- how many positions a codeword has, the punctured ones too: 2 Zc more than N (5.3.2)
abbrev pub word_size : Graph → Numbers → ℕ
word_size graph p = cols_of graph * p.z

-- the plan for b bits, or the first fault
unfoldable pub plan_of : Graph → ℕ → Result Numbers SegFault
plan_of graph b =
    if nat_lt b 24 then Err Short
    else (if nat_lt 1310744 b then Err Long
    else (if not (total_bits graph b % block_count graph b == 0) then Err Uneven
    else Ok (numbers_of graph b)))

-- what is true of the numbers of every plan for b bits
pub record IsSound (graph : Graph) (b : ℕ) (p : Numbers) : Type 0 where
  pub least : 24 ≤ b
  pub most : b ≤ 1310744
  pub some : 0 < p.c
  pub few : p.c ≤ 344
  pub several : p.l ≡ (if nat_lt 1 p.c then 24 else 0)
  pub checked : p.l < p.kdash
  pub shared : p.c * (p.kdash - p.l) ≡ b
  pub listed : is_in p.z sizes ≡ true
  pub set_is : set_index p.z ≡ Some p.set
  pub size_some : 0 < p.z
  pub size_most : p.z ≤ 384
  pub columns : p.k ≡ info_cols_of graph * p.z
  pub coded : p.n ≡ (cols_of graph - 2) * p.z
  pub held : p.kdash ≤ p.k
  pub unpunctured : 2 * p.z < p.kdash
  pub k_most : p.k ≤ 8448
  pub n_most : p.n ≤ 25344

-- the numbers of every plan are sound
abbrev pub PlansAreSound : Type 0
PlansAreSound = (graph : Graph) (b : ℕ) (p : Numbers) → plan_of graph b ≡ Ok p → IsSound graph b p
