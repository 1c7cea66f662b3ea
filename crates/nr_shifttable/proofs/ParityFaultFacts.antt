-- Which fault of the parity columns is named, by the tests that decide acceptance.
use Rattle.nr_shifttable.proofs.Common.{◌≡◌, ℕ, ◌+◌, ◌<◌, ◌==◌, Bool, true, false, cond, ◌&&◌, List, length}
use Rattle.nr_shifttable.proofs.Common.{refl, ap, arith, Result, Ok, Err, Option, Some, None, All, eqb-false, ne_eqb, nat_tests}
use Rattle.nr_shifttable.proofs.Common.{All-weaker, Graph, Entry, Entries, acceptance_of, entries_in, IsInRange, IsTable}
use Rattle.nr_shifttable.proofs.Common.{PlacesAscend, core_ok, extension_ok, rows_present, graph_checked, row_of, Ascending, One}
use Rattle.nr_shifttable.specs.Faults.{CoreIsWell, ExtensionIsWell, RowsAreThere, IsWell, IsReached, CoreIsNamed, ExtensionIsNamed}
use Rattle.nr_shifttable.proofs.{Common.Two, Common.rows_of, Common.◌>>=◌, Common.TableFault, RowOrderFacts.places-pairs}
use Rattle.nr_shifttable.specs.{Accepted.AreEntries, Accepted.TablesAreAccepted, Tails.HasShape, Faults.MissingRowIsNamed}
use Rattle.nr_shifttable.specs.declared.fault.TableFault.TheVariants.{Core, Extension, MissingRow, Empty}
use Rattle.nr_shifttable.proofs.ParityShapeFacts.{accepted-parts, core-from_tests, row-from_tests, row-is_there}
use Rattle.nr_shifttable.proofs.ShapeConverseFacts.{Eight, core_ok-from, extension_ok-from, row-there, rows_present-from}
use Rattle.std.proofs.{Common.◌↔◌, Math.Nat.pos_of_ne-zero}
use Rattle.nr_graphpick.specs.Graph.{info_cols_of}

-- the base graph of a fault of the parity columns
abbrev graph_named : TableFault → Option Graph
graph_named (Core g) = Some g
graph_named (Extension g) = Some g
graph_named (MissingRow g) = Some g
graph_named f = None

checked-own : (g : Graph) (es : List Entry) (f : TableFault) → graph_checked g es ≡ Err f → graph_named f ≡ Some g
unfolding graph_checked
checked-own g es f h = grind arith

-- the tests of a base graph's entries, what they mean, and the fault that is named
module _ (g : Graph) (es : List Entry) (up : PlacesAscend es) (range : All (IsInRange g) es) where
  abbrev core : Bool
  core = core_ok (info_cols_of g) es

  abbrev own : Bool
  own = extension_ok (info_cols_of g) (rows_of g) es

  abbrev there : Bool
  there = rows_present (rows_of g) es

  eight : All Eight es
  eight = All-weaker (IsInRange g) Eight (λ x r. r.eight) es range

  filled : (xs : List Entry) → ((length xs == 0) ≡ false) ↔ (0 < length xs)
  filled xs = ((λ h. pos_of_ne-zero (eqb-false (length xs) 0 h)), (λ some. ne_eqb (length xs) 0 (λ e. omega arith)))

  core-means : (core ≡ true) ↔ CoreIsWell g es
  core-means = ((λ h set small. core-from_tests es set (info_cols_of g) up small h), core_ok-from es (info_cols_of g) up eight)

  extension-means : (own ≡ true) ↔ ExtensionIsWell g es
  extension-means = grind (arith, row-from_tests, filled, extension_ok-from, eight)

  rows-mean : (there ≡ true) ↔ RowsAreThere g es
  rows-mean =
      ((λ h i late lt. (filled (row_of es i)).0 (row-is_there (rows_of g) es i h late lt)), rows_present-from es (rows_of g))

  core-named : (graph_checked g es ≡ Err (Core g)) ↔ ((0 < length es) × (CoreIsWell g es → ⊥))
  unfolding graph_checked
  core-named = grind (arith, nat_tests, filled, core-means)

  extension-named : (graph_checked g es ≡ Err (Extension g))
      ↔ ((0 < length es) × (CoreIsWell g es × (ExtensionIsWell g es → ⊥)))
  unfolding graph_checked
  extension-named = grind (arith, nat_tests, filled, core-means, extension-means)

  missing-named : (graph_checked g es ≡ Err (MissingRow g))
      ↔ ((0 < length es) × (CoreIsWell g es × ExtensionIsWell g es × (RowsAreThere g es → ⊥)))
  unfolding graph_checked
  missing-named = grind (arith, nat_tests, filled, core-means, extension-means, rows-mean)

  well-named : (graph_checked g es ≡ Ok tt) ↔ (0 < length es → IsWell g es)
  unfolding graph_checked
  well-named = grind (arith, nat_tests, filled, core-means, extension-means, rows-mean)

-- no fault is the shape, in each of the eight sets
well-shape : (g : Graph) (es : List Entry) → IsWell g es
    ↔ ((set : ℕ) → set < 8 → HasShape es set (info_cols_of g) (rows_of g))
well-shape g es = (
  (λ w set small. let s = w.core set small in record {
    first = s.first;
    middle = s.middle;
    last = s.last;
    core = s.core;
    extension = λ i late lt. w.extension set i small late lt (w.rows i late lt);
  }),
  (λ shape. record {
    core = λ set small. let s = shape set small in record { first = s.first; middle = s.middle; last = s.last; core = s.core };
    extension = λ set i small late lt some. (shape set small).extension i late lt;
    rows = λ i late lt. row-there 0 (info_cols_of g + 4) (info_cols_of g + i, 0) (row_of es i)
        ((shape 0 (omega arith)).extension i late lt);
  }),
)

-- the result for both base graphs, one after the other
abbrev Well : Type 0
Well = Result (Unit {0}) TableFault

abbrev both : Bool → Well → Well → Entries → Result Entries TableFault
both none r s t = cond none (Err Empty) (r >>= λ _. s >>= λ _. Ok t)

first-said : (none : Bool) (r s : Well) (t : Entries) (f : TableFault) → graph_named f ≡ Some One
    → ((k : TableFault) → s ≡ Err k → graph_named k ≡ Some Two)
    → both none r s t ≡ Err f → r ≡ Err f
first-said none r s t f one two h = grind arith

second-said : (none : Bool) (r s : Well) (t : Entries) (f : TableFault) → graph_named f ≡ Some Two
    → ((k : TableFault) → r ≡ Err k → graph_named k ≡ Some One)
    → both none r s t ≡ Err f → (r ≡ Ok tt) × (s ≡ Err f)
second-said true r s t f two one h = let e : Empty ≡ f = cc h in let other = ap graph_named e in cc (other, two)
second-said false (Err k) s t f two one h = let e : k ≡ f = cc h in let other = one k refl in cc (e, two, other)
second-said false (Ok x) (Err k) t f two one h = (refl, cc h)
second-said false (Ok x) (Ok y) t f two one h = cc h

-- The fault f of a base graph that has an entry is named exactly if S holds. It is named of the table if base graph 1
-- is well or f is base graph 1's.
named : (t : Entries) (w : AreEntries t) (f : TableFault) (S : Type 0) (g : Graph) → graph_named f ≡ Some g
    → (graph_checked g (entries_in g t) ≡ Err f) ↔ ((0 < length (entries_in g t)) × S)
    → (acceptance_of t ≡ Err f) ↔ (IsReached g t × S)
unfolding acceptance_of
named t w f S One one is = grind (arith, nat_tests, first-said, checked-own)
named t w f S Two two is = (
  (λ h. let p = second-said ((length t.one == 0) && (length t.two == 0)) (graph_checked One t.one)
      (graph_checked Two t.two) t f two (checked-own One t.one) h in
      let q = is.0 p.1 in ((q.0, well.0 p.0), q.1)),
  (λ p. let filled = fills (length t.one) (length t.two) p.0.0 in
      let passed = well.1 p.0.1 in
      let said = is.1 (p.0.0, p.1) in rw (filled, passed, said) refl),
)
  where
    well : (graph_checked One t.one ≡ Ok tt) ↔ (0 < length t.one → IsWell One t.one)
    well = well-named One t.one (w.order One) (w.in_range One)

    fills : (a b : ℕ) → 0 < b → ((a == 0) && (b == 0)) ≡ false
    fills a b h = grind (arith, nat_tests)

pub core-is_named : CoreIsNamed
core-is_named t g w = named t w (Core g) _ g refl (core-named g (entries_in g t) (w.order g) (w.in_range g))

pub extension-is_named : ExtensionIsNamed
extension-is_named t g w =
    let is = named t w (Extension g) _ g refl (extension-named g (entries_in g t) (w.order g) (w.in_range g)) in
    ((λ h. let p = is.0 h in (p.0, p.1.0, p.1.1)), (λ p. is.1 (p.0, (p.1, p.2))))

pub missing_row-is_named : MissingRowIsNamed
missing_row-is_named t g w =
    let is = named t w (MissingRow g) _ g refl (missing-named g (entries_in g t) (w.order g) (w.in_range g)) in
    ((λ h. let p = is.0 h in (p.0, p.1.0, p.1.1, p.1.2)), (λ p. is.1 (p.0, (p.1, p.2, p.3))))

-- a table whose graphs are both well is accepted, if it has an entry
accepted-from : (t : Entries) → ((length t.one == 0) && (length t.two == 0)) ≡ false → graph_checked One t.one ≡ Ok tt
    → graph_checked Two t.two ≡ Ok tt → acceptance_of t ≡ Ok t
unfolding acceptance_of
accepted-from t some one two = rw (some, one, two) refl

some-entry : (t : Entries) → acceptance_of t ≡ Ok t → 0 < length t.one + length t.two
unfolding acceptance_of
some-entry t ok = grind (arith, nat_tests)

-- what is true of one base graph and of the other is true of each
each : (P : Graph → Type 0) → P One → P Two → (g : Graph) → P g
each P one two One = one
each P one two Two = two

pub tables-are_accepted : TablesAreAccepted
tables-are_accepted t are = (
  (λ ok. let parts = accepted-parts t t ok in record {
    entries = are;
    some = some-entry t ok;
    shape = λ g set some. (well-shape g (entries_in g t)).0
        ((checked g).0 (each (λ g. graph_checked g (entries_in g t) ≡ Ok tt) parts.0 parts.1 g) some) set;
  }),
  (λ table. let well = λ (g : Graph).
      (checked g).1 (λ some. (well-shape g (entries_in g t)).1 (λ set. table.shape g set some)) in
      accepted-from t (not_both (length t.one) (length t.two) table.some) (well One) (well Two)),
)
  where
    checked : (g : Graph) → (graph_checked g (entries_in g t) ≡ Ok tt)
        ↔ (0 < length (entries_in g t) → IsWell g (entries_in g t))
    checked g = well-named g (entries_in g t) (are.order g) (are.in_range g)

    not_both : (a b : ℕ) → 0 < a + b → ((a == 0) && (b == 0)) ≡ false
    not_both a b some = grind (arith, nat_tests)

-- the lists that a table is made of, if they are judged well
pub judged-table : (one two : List Entry) → All (IsInRange One) one → All (IsInRange Two) two
    → Ascending 0 one → Ascending 0 two → ((length one == 0) && (length two == 0)) ≡ false
    → graph_checked One one ≡ Ok tt → graph_checked Two two ≡ Ok tt → IsTable (record { one = one; two = two })
judged-table one two ones twos up vp some well well' =
    let t : Entries = record { one = one; two = two } in
    (tables-are_accepted t (record {
      order = each (λ g. PlacesAscend (entries_in g t)) (places-pairs 0 one up) (places-pairs 0 two vp);
      in_range = each (λ g. All (IsInRange g) (entries_in g t)) ones twos;
    })).0 (accepted-from t some well well')
