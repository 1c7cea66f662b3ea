-- Items in ascending order are the items of their table, and entries that a caller kept are those of their items.
use Rattle.nr_shifttable.proofs.Common.{nat_tests, ◌≡◌, ℕ, zero, suc, ◌+◌, ◌-◌, ◌*◌, ◌<◌, ◌≤◌}
use Rattle.nr_shifttable.proofs.Common.{◌==◌, nat_lt, true, false, not, ◌&&◌, List, [], ◌∷◌, ◌++◌, length, get_or}
use Rattle.nr_shifttable.proofs.Common.{take, drop, map, refl, sym, ap, subst, ◌∙◌, append_assoc, arith, Ok, All, filter}
use Rattle.nr_shifttable.proofs.Common.{fold, IsPartitionPoint, and_parts, ltb-true, lt-ltb, append-nil, get_or-map, length-map}
use Rattle.nr_shifttable.proofs.Common.{All-nil, All-cons, All-head, All-map, All-tail, All-push, All-weaker, Graph, Entry, Item}
use Rattle.nr_shifttable.proofs.Common.{Entries, with_entry, entries_for, table_of, entry_place, IsInRange, acceptance_of, IsTable}
use Rattle.nr_shifttable.proofs.Common.{Ascending, graph_eq, IsInside, One, Two, rows_of, cols_of, KeptEntry, item_key, item_kept}
use Rattle.nr_shifttable.proofs.{Common.places_from, Common.places_said, Common.key_of, ParityShapeFacts.accepted-parts}
use Rattle.nr_shifttable.specs.Listed.{is_of_graph, kept_of, names_graph, entries_said, item_in_graph, items_listed, kept_listed}
use Rattle.nr_shifttable.proofs.EntryOrderFacts.{entries_for-range, in_range-short, in_table-order, place-before}
use Rattle.nr_shifttable.proofs.{ParityFaultFacts.tables-are_accepted, SliceFacts.filter_none, SliceFacts.filter_within}
use Rattle.std.specs.List.Sorted.{IsPartitionedBy}

-- each item is within its base graph and past those before it, and the first is not below `past`
abbrev pub Ascend : ℕ → List Item → Type 0
Ascend past [] = Unit {0}
Ascend past (x ∷ xs) = (is_of_graph x ≡ true) × (past ≤ item_key x) × Ascend (item_key x + 1) xs

-- this is true if the places of the entries have no fault, and only then
pub said-ascend : (k past : ℕ) (es : List KeptEntry) → places_from k past es ≡ Ok tt → Ascend past (map item_kept es)
unfolding places_from
said-ascend k past [] said = tt
said-ascend k past (e ∷ es) said = grind (arith, nat_tests, said-ascend (k + 1) (item_key (item_kept e) + 1) es)

pub ascend-said : (k past : ℕ) (items : List Item) → Ascend past items → places_from k past (map kept_of items) ≡ Ok tt
unfolding places_from
ascend-said k past [] up = refl
ascend-said k past (x ∷ xs) up = grind (arith, nat_tests, ascend-said (k + 1) (item_key x + 1) xs up.2)

-- An item is the item of the entry that is kept of it. An entry is the one that is kept of its item, if its base graph
-- is 1 or 2.
pub items-back : (xs : List Item) → map item_kept (map kept_of xs) ≡ xs
items-back [] = refl
items-back (x ∷ xs) = grind (arith, items-back xs)

kept-back : (e : KeptEntry) → names_graph e ≡ true → kept_of (item_kept e) ≡ e
kept-back e has = grind (arith, nat_tests)

all-back : (k past : ℕ) (es : List KeptEntry) → places_from k past es ≡ Ok tt → map kept_of (map item_kept es) ≡ es
unfolding places_from
all-back k past [] said = refl
all-back k past (e ∷ es) said = grind (arith, nat_tests, all-back (k + 1) (item_key (item_kept e) + 1) es, kept-back)

-- an insertion past all entries goes after them
with_entry-last : (acc : List Entry) (e : Entry) → e.col < 68 → All (λ x. entry_place x < entry_place e) acc
    → with_entry acc e ≡ acc ++ e ∷ []
unfolding with_entry
with_entry-last [] e narrow below = refl
with_entry-last (x ∷ xs) e narrow below =
    let first = place-before x e narrow (All-head (λ y. entry_place y < entry_place e) x xs below) in
    rw first (ap (λ l. x ∷ l) (with_entry-last xs e narrow (All-tail (λ y. entry_place y < entry_place e) x xs below)))

fold-last : (low : ℕ) (acc es : List Entry) → All (λ x. entry_place x < low) acc → Ascending low es
    → fold with_entry acc es ≡ acc ++ es
fold-last low acc [] before up = sym (append-nil acc)
fold-last low acc (e ∷ es) before up =
    let least = up.0 in
    let Next : Entry → Type 0 = λ x. entry_place x < entry_place e + 1 in
    let more : All Next (acc ++ e ∷ []) =
    All-push Next acc e (All-weaker (λ x. entry_place x < low) Next (λ x lt. omega arith) acc before) (omega arith) in
    ap (λ l. fold with_entry l es)
    (with_entry-last acc e up.1
    (All-weaker (λ x. entry_place x < low) (λ x. entry_place x < entry_place e) (λ x lt. omega arith) acc before))
    ∙ fold-last (entry_place e + 1) (acc ++ e ∷ []) es more up.2 ∙ append_assoc acc (e ∷ []) es

-- so ascending entries are the list that is made of them
pub fold-same : (low : ℕ) (es : List Entry) → Ascending low es → fold with_entry [] es ≡ es
fold-same low es up = fold-last low [] es (All-nil (λ x. entry_place x < low)) up

-- the keys of base graph 1 are below those of base graph 2
low-key : (r c : ℕ) → (nat_lt r 46 && nat_lt c 68) ≡ true → 68 * r + c < 4096
low-key r c room = grind (arith, nat_tests)

-- past them no item is of base graph 1, so none follows an item of base graph 2
past-all : (past : ℕ) (items : List Item) → Ascend past items
    → All (λ x. (is_of_graph x ≡ true) × (past ≤ item_key x)) items
past-all past [] up = All-nil (λ x. (is_of_graph x ≡ true) × (past ≤ item_key x))
past-all past (x ∷ xs) up =
    let At : Item → Type 0 = λ y. (is_of_graph y ≡ true) × (past ≤ item_key y) in
    let least = up.1 in
    All-cons At x xs (up.0, up.1) (λ k d lt. let p = past-all (item_key x + 1) xs up.2 k d lt in (p.0, omega arith))

one-before : (x y : Item) → is_of_graph y ≡ true → item_key x ≤ item_key y → graph_eq y.graph One ≡ true
    → graph_eq x.graph One ≡ true
one-before x y room le is = grind (arith, nat_tests)

no-one : (x : Item) → is_of_graph x ≡ true → 4096 ≤ item_key x → graph_eq x.graph One ≡ false
no-one x room le = grind (arith, nat_tests)

no-ones : (past : ℕ) (items : List Item) → Ascend past items → 4096 ≤ past → entries_for One items ≡ []
no-ones past items up far = ap (map (λ i. i.entry))
    (filter_none (λ x. graph_eq x.graph One) items
    (λ k d lt. let p = past-all past items up k d lt in no-one (get_or items k d) p.0 (omega arith)))

ones-first : (past : ℕ) (items : List Item) → Ascend past items → IsPartitionedBy (λ x. graph_eq x.graph One) items
ones-first past [] up i j d le lt is = absurd (omega arith)
ones-first past (x ∷ xs) up zero zero d le lt is = is
ones-first past (x ∷ xs) up zero (suc j) d le lt is = let p = past-all (item_key x + 1) xs up.2 j d (omega arith) in
    one-before x (get_or xs j d) p.0 (omega arith) is
ones-first past (x ∷ xs) up (suc i) zero d le lt is = absurd (omega arith)
ones-first past (x ∷ xs) up (suc i) (suc j) d le lt is = ones-first (item_key x + 1) xs up.2 i j d (omega arith) (omega arith) is

-- entries that were kept are of base graph 1 by their number
one-is : (e : KeptEntry) → graph_eq (item_kept e).graph One ≡ (e.graph == 1)
one-is e = grind (arith, nat_tests)

pub kept-ones-first : (es : List KeptEntry) → Ascend 0 (map item_kept es) → IsPartitionedBy (λ e. e.graph == 1) es
kept-ones-first es up i j d le lt is =
    let long = length-map es item_kept in
    let here : i < length es = omega (arith, le, lt) in
    sym (one-is (get_or es i d))
    ∙ ap (λ x. graph_eq x.graph One) (sym (get_or-map item_kept es i d (item_kept d) here))
    ∙ ones-first 0 (map item_kept es) up i j (item_kept d) le (omega (arith, lt, long))
    (ap (λ x. graph_eq x.graph One) (get_or-map item_kept es j d (item_kept d) lt) ∙ one-is (get_or es j d) ∙ is)

ones-of : (es : List KeptEntry)
    → entries_for One (map item_kept es) ≡ map (λ (e : KeptEntry). e.entry) (filter (λ e. e.graph == 1) es)
ones-of [] = refl
ones-of (e ∷ es) = grind (arith, nat_tests, ones-of es)

twos-of : (es : List KeptEntry)
    → entries_for Two (map item_kept es) ≡ map (λ (e : KeptEntry). e.entry) (filter (λ e. not (e.graph == 1)) es)
twos-of [] = refl
twos-of (e ∷ es) = grind (arith, nat_tests, twos-of es)

module _ (es : List KeptEntry) (k : ℕ) (within : k ≤ length es)
    (point : IsPartitionPoint (λ e. (e.graph == 1) ≡ true) (λ e. (e.graph == 1) ≡ false) es k) where
  -- the entries of base graph 1 end at k, and those of base graph 2 follow
  pub ones-are : map (λ (e : KeptEntry). e.entry) (take k es) ≡ entries_for One (map item_kept es)
  ones-are =
      let all : k ≡ k - 0 = omega arith in
      ap (map (λ (e : KeptEntry). e.entry))
      (ap (λ n. take n es) all
      ∙ filter_within (λ e. e.graph == 1) es 0 k (omega arith) within (λ i d a b. absurd (omega arith)) point.0 point.1)
      ∙ sym (ones-of es)

  pub twos-are : map (λ (e : KeptEntry). e.entry) (take (length es - k) (drop k es)) ≡ entries_for Two (map item_kept es)
  twos-are = grind (arith, nat_tests, filter_within, twos-of)

-- the entries of both base graphs, with their base graphs, are the items
pub items-are : (past : ℕ) (items : List Item) → Ascend past items
    → map (item_in_graph One) (entries_for One items) ++ map (item_in_graph Two) (entries_for Two items) ≡ items
items-are past [] up = refl
items-are past (x ∷ xs) up = grind (arith, items-are (item_key x + 1) xs up.2, no-ones)

-- the entries that what is kept gives to a base graph are within it
module _ (g : Graph) (es : List KeptEntry) (inside : All (λ e. IsInside (item_kept e)) es) where
  pub kept-range : All (IsInRange g) (entries_for g (map item_kept es))
  kept-range = entries_for-range g (map item_kept es) (All-map IsInside item_kept es inside)

  pub kept-short : All (λ e. e.row < 46) (entries_for g (map item_kept es))
  kept-short = All-weaker (IsInRange g) (λ e. e.row < 46) (in_range-short g) _ kept-range

-- the entries that they give to each base graph ascend
pub ones-ascend : (low past : ℕ) (items : List Item) → Ascend past items → low ≤ past
    → Ascending low (entries_for One items)
ones-ascend low past [] up le = tt
ones-ascend low past (x ∷ xs) up le =
    by x.graph x.entry up (λ l h. ones-ascend l (item_key x + 1) xs up.2 h) (no-ones (item_key x + 1) xs up.2)
  where
    by : (g : Graph) (e : Entry) → Ascend past (record { graph = g; entry = e } ∷ xs)
        → ((l : ℕ) → l ≤ key_of g e.row e.col + 1 → Ascending l (entries_for One xs))
        → (4096 ≤ key_of g e.row e.col + 1 → entries_for One xs ≡ [])
        → Ascending low (entries_for One (record { graph = g; entry = e } ∷ xs))
    by One e up next none = let first = up.1 in (
      omega arith,
      ltb-true e.col 68 (and_parts (nat_lt e.row 46) (nat_lt e.col 68) up.0).1,
      next (entry_place e + 1) (omega arith),
    )
    by Two e up next none = subst (Ascending low) (sym (none (omega arith))) tt

pub twos-ascend : (low past : ℕ) (items : List Item) → Ascend past items → low ≤ past - 4096
    → Ascending low (entries_for Two items)
twos-ascend low past [] up le = tt
twos-ascend low past (x ∷ xs) up le =
    let first = up.1 in
    by x.graph x.entry up (twos-ascend low (item_key x + 1) xs up.2 (omega arith))
    (λ h. twos-ascend (entry_place x.entry + 1) (item_key x + 1) xs up.2 h)
  where
    by : (g : Graph) (e : Entry) → Ascend past (record { graph = g; entry = e } ∷ xs) → Ascending low (entries_for Two xs)
        → (entry_place e + 1 ≤ (key_of g e.row e.col + 1) - 4096 → Ascending (entry_place e + 1) (entries_for Two xs))
        → Ascending low (entries_for Two (record { graph = g; entry = e } ∷ xs))
    by One e up same next = same
    by Two e up same next =
        let first = up.1 in
        let short = ltb-true e.col 52 (and_parts (nat_lt e.row 42) (nat_lt e.col 52) up.0).1 in
        (omega arith, omega arith, next (omega arith))

-- so their table is these entries
pub parted-table : (items : List Item) (one two : List Entry) → Ascend 0 items → one ≡ entries_for One items
    → two ≡ entries_for Two items → table_of items ≡ record { one = one; two = two }
parted-table items one two up ones twos =
    cc (
      fold-same 0 (entries_for One items) (ones-ascend 0 0 items up (omega arith)),
      fold-same 0 (entries_for Two items) (twos-ascend 0 0 items up (omega arith)),
      ones,
      twos,
    )

-- a table of items that ascend lists them
ascend-listed : (items : List Item) → Ascend 0 items → items_listed (table_of items) ≡ items
ascend-listed items up = ap items_listed (parted-table items (entries_for One items) (entries_for Two items) up refl refl)
    ∙ items-are 0 items up

pub kept-listed : (es : List KeptEntry) (t : Entries) → places_said es ≡ Ok tt
    → acceptance_of (table_of (map item_kept es)) ≡ Ok t → kept_listed t ≡ es
kept-listed es t said judged = grind (arith, accepted-parts, ascend-listed, said-ascend, all-back)

-- and the reverse: the entries of a base graph in ascending order, with their base graph, ascend as items
ascend-from : (low past : ℕ) (items : List Item) → low ≤ past → Ascend past items → Ascend low items
ascend-from low past [] le up = tt
ascend-from low past (x ∷ xs) le up = let first = up.1 in (up.0, omega arith, up.2)

in-room : (g : Graph) (e : Entry) → IsInRange g e → is_of_graph (item_in_graph g e) ≡ true
in-room g e inside = rw (lt-ltb e.row (rows_of g) inside.row, lt-ltb e.col (cols_of g) inside.col) refl

twos-placed : (past low : ℕ) (es : List Entry) → past ≤ low + 4096 → Ascending low es → All (IsInRange Two) es
    → Ascend past (map (item_in_graph Two) es)
twos-placed past low [] le up inside = tt
twos-placed past low (e ∷ es) le up inside =
    let first = up.0 in (
      in-room Two e (All-head (IsInRange Two) e es inside),
      omega arith,
      twos-placed (item_key (item_in_graph Two e) + 1) (entry_place e + 1) es (omega arith) up.2
          (All-tail (IsInRange Two) e es inside),
    )

ones-placed : (past low : ℕ) (es : List Entry) (rest : List Item) → past ≤ low → low ≤ 4096 → Ascending low es
    → All (IsInRange One) es → Ascend 4096 rest → Ascend past (map (item_in_graph One) es ++ rest)
ones-placed past low [] rest le short up inside after = ascend-from past 4096 rest (omega arith) after
ones-placed past low (e ∷ es) rest le short up inside after =
    let first = up.0 in
    let room = in-room One e (All-head (IsInRange One) e es inside) in
    let below = low-key e.row e.col room in (
      room,
      omega arith,
      ones-placed (item_key (item_in_graph One e) + 1) (entry_place e + 1) es rest (omega arith) (omega arith) up.2
          (All-tail (IsInRange One) e es inside) after,
    )

listed-ascend : (t : Entries) → IsTable t → Ascend 0 (items_listed t)
listed-ascend t table = ones-placed 0 0 t.one (map (item_in_graph Two) t.two) (omega arith)
    (omega arith) (in_table-order t One table) (table.entries.in_range One)
    (twos-placed 4096 0 t.two (omega arith) (in_table-order t Two table) (table.entries.in_range Two))

ones-listed : (es fs : List Entry) → entries_for One (map (item_in_graph One) es ++ map (item_in_graph Two) fs) ≡ es
ones-listed [] [] = refl
ones-listed [] (f ∷ fs) = ones-listed [] fs
ones-listed (e ∷ es) fs = ap (λ l. e ∷ l) (ones-listed es fs)

twos-listed : (es fs : List Entry) → entries_for Two (map (item_in_graph One) es ++ map (item_in_graph Two) fs) ≡ fs
twos-listed [] [] = refl
twos-listed [] (f ∷ fs) = ap (λ l. f ∷ l) (twos-listed [] fs)
twos-listed (e ∷ es) fs = twos-listed es fs

-- so the list of a table gives that table
listed-table : (t : Entries) → IsTable t → table_of (items_listed t) ≡ t
listed-table t table = grind (arith, ones-listed, fold-same, twos-listed, in_table-order t One table, in_table-order t Two table)

pub listed-kept : (t : Entries) → IsTable t → entries_said (kept_listed t) ≡ Ok t
unfolding entries_said
listed-kept t table = rw (
  ascend-said 1 0 (items_listed t) (listed-ascend t table),
  items-back (items_listed t),
  listed-table t table,
  (tables-are_accepted t table.entries).1 table,
) refl
