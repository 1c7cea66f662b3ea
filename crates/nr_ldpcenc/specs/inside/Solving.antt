-- How the parity columns of a word follow one after another (TS 38.212, 5.3.2). No contract of a public function rests
-- on these computed words. The law `OneCodeword` of Codeword.antt says without them what the columns are.
use Rattle.std.specs.Prelude.{if◌then◌else◌, List, map, filter, Option, Some, None, option_map, unwrap_or, slice_index}
use Rattle.std.specs.Prelude.{◌≡◌, ℕ, ◌+◌, ◌-◌, ◌%◌, ◌<◌, ◌≤◌, ◌==◌, nat_lt, Bool}
use Rattle.nr_bitvec.specs.{Bit.◌⊕◌, Packed.place}
use Rattle.nr_graphpick.specs.Graph.{info_cols_of}
use Rattle.nr_segment.specs.declared.numbers.Plan.{Plan}
use Rattle.nr_shifttable.specs.{declared.entry.Entry.Entry, Accepted.Entries, Accepted.entries_in}
use Rattle.nr_shifttable.specs.Tails.{row_of, values_at, value_in}
use Rattle.nr_ldpcenc.specs.{Parity.parity, Rows.one_at, CoreRows.third_of}

-- a base graph's entries, the set that their values are taken from, the lifting size and the number of information columns
pub record Lifting : Type 0 where
  pub entries : List Entry
  pub set : ℕ
  pub z : ℕ
  pub info_cols : ℕ

-- the base graph of a plan, lifted by z
abbrev pub lifting_of : Entries → Plan → ℕ → Lifting
lifting_of t plan z = record {
  entries = entries_in plan.graph t;
  set = plan.set;
  z = z;
  info_cols = info_cols_of plan.graph;
}

-- the row of a block that has its one in column u, if the block is shifted by v
abbrev pub unrotate : ℕ → ℕ → ℕ → ℕ
unrotate z v u = (u + (z - v % z)) % z

-- the sum of a word over row t of a row of blocks, a list of entries, before column j
abbrev pub sum_before : ℕ → ℕ → (ℕ → Bool) → ℕ → ℕ → List Entry → Bool
sum_before set z w j t row = parity w (map (λ e. one_at z t e.col (value_in set e)) (filter (λ e. nat_lt e.col j) row))

-- the sum of a word over row t of row of blocks i, before column j
abbrev pub head_sum : Lifting → (ℕ → Bool) → ℕ → ℕ → ℕ → Bool
head_sum l w j i t = sum_before l.set l.z w j t (row_of l.entries i)

-- the sum of the four core rows over the information columns
abbrev pub core_sum : Lifting → (ℕ → Bool) → ℕ → Bool
core_sum l w t = (head_sum l w l.info_cols 0 t ⊕ head_sum l w l.info_cols 1 t)
    ⊕ (head_sum l w l.info_cols 2 t ⊕ head_sum l w l.info_cols 3 t)

-- the value at a row of the first parity column
abbrev pub first_value_at : Lifting → ℕ → Option ℕ
first_value_at l i = option_map (λ values. slice_index values l.set) (values_at l.entries i l.info_cols)

-- the first of two values that is there
abbrev pub either : Option ℕ → Option ℕ → ℕ
either None b = unwrap_or b 0
either (Some a) b = a

-- by how much the first parity column is rotated in the sum of the four core rows: the values that agree cancel
unfoldable pub core_rotation : Lifting → ℕ
core_rotation l = third_of (unwrap_or (first_value_at l 0) 0) (either (first_value_at l 1) (first_value_at l 2))
    (unwrap_or (first_value_at l 3) 0)

-- the row that has parity column i last, counted from the first one, with value 0
abbrev pub row_ending : ℕ → ℕ
row_ending i = if nat_lt i 3 then i - 1 else i

-- a block is the sum of row of blocks i over the information columns
abbrev pub IsHead : Lifting → (ℕ → Bool) → ℕ → List ℕ → Type 0
IsHead l w i sum = (t : ℕ) → t < l.z → (place sum t == 1) ≡ head_sum l w l.info_cols i t

-- The parity columns before parity column lim are solved. The first is what the core rows add up to, rotated back. Each
-- other one is the sum of its row before it.
pub record IsSolvedTo (l : Lifting) (lim : ℕ) (w : ℕ → Bool) : Type 0 where
  pub first : (t : ℕ) → t < l.z → w (one_at l.z t l.info_cols (core_rotation l)) ≡ core_sum l w t
  pub later : (i t : ℕ) → 1 ≤ i → i < lim → t < l.z
      → w (one_at l.z t (l.info_cols + i) 0) ≡ head_sum l w (l.info_cols + i) (row_ending i) t
