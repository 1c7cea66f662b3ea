-- What contracts see of a peeler, and what is true of every one.
use Rattle.std.specs.Prelude.{◌≡◌, ◌≢◌, ℕ, ◌+◌, ◌*◌, ◌≤◌, nat_lt, ◌&&◌, ◌||◌, Bool, true, false}
use Rattle.std.specs.Prelude.{not, List, length, map, filter, take, count_by, Option}
use Rattle.std.specs.List.{range_with_len}
use Rattle.nr_bitvec.specs.{Bit.bit, Marks.marked_bit, Marks.marks_with}
use Rattle.nr_graphpick.specs.{Graph.info_cols_of, declared.Graph.Graph}
use Rattle.nr_segment.specs.Plan.{Numbers}
use Rattle.nr_shifttable.specs.Accepted.{Entries, entries_in}
use Rattle.nr_ldpcenc.specs.{Rows.Checks, Rows.Meets, Rows.block_checks, Codeword.filler}
use Rattle.nr_peel.specs.{Closure.closure, Closure.stands, Touches.pairs_in, Touches.step_pairs, declared.fix.Fix.Fix}
use Rattle.nr_peel.specs.Certificates.{IsStoppingSet, all_accepted, is_fixed_by}

-- The code, the positions that were given, those that are known and their bits, and the steps that fixed positions, if
-- they are recorded.
-- Then the count of visits, and the count of operations. An operation catches up, sums or searches an entry of a row
-- block, or searches or settles a row block's counts.
pub record Peeling : Type 0 where
  pub table : Entries
  pub graph : Graph
  pub numbers : Numbers
  pub given : List Bool
  pub known : List Bool
  pub bits : List Bool
  pub order : List Fix
  pub recorded : Bool
  pub touches : ℕ
  pub operations : ℕ

-- the parity checks of a peeler's code
abbrev pub checks_for : Peeling → Checks
checks_for s = block_checks s.table s.graph s.numbers

-- How many positions come before the extension columns, the first of which is the fifth after the information columns. Each
-- extension column is in one row block alone.
abbrev pub core_size : Peeling → ℕ
core_size s = (info_cols_of s.graph + 4) * s.numbers.z

-- the bit of a position, if it is known
abbrev pub known_at : Peeling → ℕ → Option Bool
known_at s p = marked_bit (marks_with s.known s.bits) p

-- the fillers of a code block, as marks
abbrev pub fillers : Checks → Numbers → List Bool
fillers c p = map (filler p.kdash p.k) (range_with_len 0 c.size)

-- how many of the first n positions aren't known
abbrev pub left_of : ℕ → List Bool → ℕ
left_of n known = count_by (λ b. not b) (take n known)

-- the positions that aren't known, ascending
abbrev pub unknown_in : List Bool → List ℕ
unknown_in known = filter (λ p. not (bit known p)) (range_with_len 0 (length known))

-- how many positions are known that were not given
abbrev pub gained_in : List Bool → List Bool → ℕ
gained_in known given = count_by (λ p. bit known p && not (bit given p)) (range_with_len 0 (length given))

-- twice the lifting size times the entries of the base graph: twice the pairs of a row and a position of it
abbrev pub most_visits : Peeling → ℕ
most_visits s = 2 * (s.numbers.z * length (entries_in s.graph s.table))

-- a word has the bits of the positions that are known
abbrev pub HasBits : List Bool → List Bool → (ℕ → Bool) → Type 0
HasBits known bits w = (p : ℕ) → bit known p ≡ true → w p ≡ bit bits p

abbrev pub AgreesWith : Peeling → (ℕ → Bool) → Type 0
AgreesWith s w = HasBits s.known s.bits w

-- what was known stays known
abbrev pub KeepsKnown : Peeling → Peeling → Type 0
KeepsKnown old new = (p : ℕ) → bit old.known p ≡ true → bit new.known p ≡ true

-- what was known keeps its bit
abbrev pub KeepsBits : Peeling → Peeling → Type 0
KeepsBits old new = (p : ℕ) → bit old.known p ≡ true → bit new.bits p ≡ bit old.bits p

-- each word that meets every row, has the bits that were known and has this bit at this position, has the bits that
-- are known
abbrev pub KeepsWords : ℕ → Bool → Peeling → Peeling → Type 0
KeepsWords pos value old new = (w : ℕ → Bool) → Meets (checks_for old) w → AgreesWith old w → w pos ≡ value
    → AgreesWith new w

-- the positions of a set are given, beside those that were given before
abbrev pub GivesAll : (ℕ → Bool) → Peeling → Peeling → Type 0
GivesAll H old new = (p : ℕ) → bit new.given p ≡ (bit old.given p || H p)

-- the positions of a set that weren't known take the bits V
abbrev pub TakesAll : (ℕ → Bool) → (ℕ → Bool) → Peeling → Peeling → Type 0
TakesAll H V old new = (p : ℕ) → H p ≡ true → bit old.known p ≡ false → bit new.bits p ≡ V p

-- A word that meets every row may have the bits that were known, and the bits V at the positions of a set. Then it has
-- the bits that are known.
abbrev pub KeepsAllWords : (ℕ → Bool) → (ℕ → Bool) → Peeling → Peeling → Type 0
KeepsAllWords H V old new = (w : ℕ → Bool) → Meets (checks_for old) w → AgreesWith old w
    → ((p : ℕ) → H p ≡ true → w p ≡ V p) → AgreesWith new w

-- if some position below K' isn't known, the positions are a stopping set beside the given ones
abbrev pub StopsWhereLeft : Peeling → List ℕ → Type 0
StopsWhereLeft s positions = left_of s.numbers.kdash s.known ≢ 0
    → IsStoppingSet (checks_for s) s.numbers.kdash (bit s.given) positions

-- the positions have the members of each stopping set beside the given ones
abbrev pub HasEachStopping : Peeling → List ℕ → Type 0
HasEachStopping s positions = (set : List ℕ) (p : ℕ) → IsStoppingSet (checks_for s) s.numbers.kdash (bit s.given) set
    → stands p set ≡ true → stands p positions ≡ true

-- What is true of every peeler. All that it knows is in the closure of the given positions. It knows all of that before the
-- extension columns, and all of it if its steps are recorded. Then they are accepted in turn from the given positions, and with
-- these are all that is known. With n pairs of a row and a known position of it, it made at most 2 n visits. If its steps are
-- recorded it made n or more.
pub record IsPeeled (s : Peeling) : Type 0 where
  pub given_long : length s.given ≡ (checks_for s).size
  pub known_long : length s.known ≡ (checks_for s).size
  pub bits_long : length s.bits ≡ (checks_for s).size
  pub within : (p : ℕ) → bit s.known p ≡ true → closure (checks_for s) (bit s.given) p ≡ true
  pub closed : (p : ℕ) → (s.recorded || nat_lt p (core_size s)) ≡ true
      → bit s.known p ≡ closure (checks_for s) (bit s.given) p
  pub accepted : s.recorded ≡ true → all_accepted (checks_for s) (bit s.given) s.order ≡ true
  pub reached : s.recorded ≡ true → (p : ℕ) → bit s.known p ≡ (bit s.given p || is_fixed_by s.order p)
  pub at_least : s.recorded ≡ true → pairs_in (checks_for s) (bit s.known) ≤ s.touches
  pub at_most : s.touches ≤ 2 * pairs_in (checks_for s) (bit s.known)

-- What is true of its work beyond that. If steps are recorded, each pair of one and a position of its row was visited, too.
-- Operations are at most three a visit, and one a row block. An operation makes at most Zc visits.
pub record IsCounted (s : Peeling) : Type 0 where
  pub of_steps : s.recorded ≡ true → pairs_in (checks_for s) (bit s.known) + step_pairs (checks_for s) s.order ≤ s.touches
  pub operations : s.operations ≤ 3 * s.touches + (checks_for s).rows
  pub visits : s.touches ≤ s.numbers.z * s.operations

-- two peelers are of one code, and both record their steps or neither does
pub record IsSameCode (a b : Peeling) : Type 0 where
  pub table : b.table ≡ a.table
  pub graph : b.graph ≡ a.graph
  pub numbers : b.numbers ≡ a.numbers
  pub recorded : b.recorded ≡ a.recorded

-- A new peeler: the fillers are given. Each word that meets every row and is zero at the fillers has the bits that are
-- known.
pub record IsStarted (t : Entries) (g : Graph) (p : Numbers) (s : Peeling) : Type 0 where
  pub table : s.table ≡ t
  pub graph : s.graph ≡ g
  pub numbers : s.numbers ≡ p
  pub given : s.given ≡ fillers (checks_for s) p
  pub words : (w : ℕ → Bool) → Meets (checks_for s) w → ((q : ℕ) → filler p.kdash p.k q ≡ true → w q ≡ false)
      → AgreesWith s w
  pub peeled : IsPeeled s
