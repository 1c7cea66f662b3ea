-- The order of a file's records: the items do not depend on it, except for the header.
use Rattle.nr_shifttable.proofs.Common.{nat_tests, ◌≡◌, ℕ, ◌+◌, ◌<◌, ◌≤◌, Bool, true, false, cond, List, []}
use Rattle.nr_shifttable.proofs.Common.{◌∷◌, length, map, refl, sym, ap, subst, ◌∙◌, arith, Option, Some, None, Result}
use Rattle.nr_shifttable.proofs.Common.{Ok, Err, IfSome, All, IsDistinct, fold, IsPermutation, get_or-map, length-map, All-cons}
use Rattle.nr_shifttable.proofs.Common.{All-map, All-tail, le-ltb, Graph, Entries, entries_for, with_entry, table_of, table_said}
use Rattle.nr_shifttable.proofs.Common.{Apart, items_from, same_place, Record, records_of, Item, All-permutation, IsPermutation-sym}
use Rattle.nr_shifttable.proofs.Common.{IsDistinct-IsPermutation, IsDistinct-from_apart, apart_from_distinct, One, Two, bind-ok}
use Rattle.nr_shifttable.proofs.{Common.item_written, Common.without_header, Common.TableFault, WrittenItemFacts.items-are_written}
use Rattle.nr_shifttable.specs.{Items.items_said, RecordOrder.RecordsMayMove, RecordOrder.has_header, Written.IsWritten}
use Rattle.nr_shifttable.specs.declared.fault.TableFault.TheVariants.{TooLong}
use Rattle.nr_shifttable.proofs.ItemLaws.{header-numbers, if-ok, items-inside}
use Rattle.nr_shifttable.proofs.EntryOrderFacts.{GivesEntry, entries_for-has, same_entries, same_place-flips}
use Rattle.std.{specs.Prelude.IsOk, specs.Prelude.is_ok, specs.List.sum_by, proofs.lemmas.List.Elements.recursion_from_All}
use Rattle.std.proofs.lemmas.List.{Sorted.IsPermutation-map, Sorted.sum_by-IsPermutation, Sums.sum_by-cons}
use Rattle.std.proofs.lemmas.Map.Keys.{IsDistinct-cons, IsDistinct-tail}

-- what all records write, including the header
abbrev writes : List Record → List (Option Item)
writes records = map item_written records

abbrev with_header : Bool → List (Option Item) → List (Option Item)
with_header b os = cond b (None ∷ os) os

-- all records write what those after the header write, with nothing in front for the header
writes-header : (records : List Record) → writes records ≡ with_header (has_header records) (writes (without_header records))
writes-header [] = refl
writes-header (r ∷ rs) = grind (arith, header-numbers)

writes-are : (records : List Record) (items : List Item) → IsWritten records items
    → writes records ≡ with_header (has_header records) (map Some items)
writes-are records items w = writes-header records ∙ ap (with_header (has_header records)) w.written

-- what is true of all items is true of what all records write, and the reverse
written-all : (P : Item → Type 0) (b : Bool) (items : List Item) → All P items
    → All (λ o. IfSome o P) (with_header b (map Some items))
written-all P false items all = All-map (λ o. IfSome o P) Some items all
written-all P true items all = All-cons (λ o. IfSome o P) None (map Some items) tt (All-map (λ o. IfSome o P) Some items all)

all-from_some : (P : Item → Type 0) (items : List Item) → All (λ o. IfSome o P) (map Some items) → All P items
all-from_some P items all k d lt =
    subst (λ o. IfSome o P) (get_or-map Some items k d None lt) (all k None (omega (arith, length-map items Some)))

all-from_written : (P : Item → Type 0) (b : Bool) (items : List Item) → All (λ o. IfSome o P) (with_header b (map Some items))
    → All P items
all-from_written P false items all = all-from_some P items all
all-from_written P true items all = all-from_some P items (All-tail (λ o. IfSome o P) None (map Some items) all)

-- what is true of all items of a file is true of those of a file with the same records
moved-items : (P : Item → Type 0) (records others : List Record) (items more : List Item) → IsPermutation records others
    → IsWritten records items → IsWritten others more → All P more → All P items
moved-items P records others items more moved w v all =
    all-from_written P (has_header records) items
    (subst (All (λ o. IfSome o P)) (writes-are records items w)
    (All-permutation (λ o. IfSome o P) (writes others) (writes records)
    (IsPermutation-sym (writes records) (writes others) (IsPermutation-map item_written records others moved))
    (subst (All (λ o. IfSome o P)) (sym (writes-are others more v)) (written-all P (has_header others) more all))))

-- one base graph's entries
moved-entries : (g : Graph) (records others : List Record) (items more : List Item) → IsPermutation records others
    → items_from 1 [] records ≡ Ok items → items_from 1 [] others ≡ Ok more
    → fold with_entry [] (entries_for g items) ≡ fold with_entry [] (entries_for g more)
moved-entries g records others items more moved is others_is =
    let w = (items-are_written records items).0 is in
    let v = (items-are_written others more).0 others_is in
    same_entries g items more w.apart v.apart (items-inside 1 records items is) (items-inside 1 others more others_is)
    (moved-items (GivesEntry g more) records others items more moved w v (entries_for-has g more))
    (moved-items (GivesEntry g items) others records more items (IsPermutation-sym records others moved) v w
    (entries_for-has g items))

pub moved-table : (records others : List Record) (items more : List Item) → IsPermutation records others
    → items_from 1 [] records ≡ Ok items → items_from 1 [] others ≡ Ok more → table_of items ≡ table_of more
moved-table records others items more moved is others_is = cc (
  moved-entries One records others items more moved is others_is,
  moved-entries Two records others items more moved is others_is,
)

-- two records write items at one place
abbrev both_place : Option Item → Option Item → Bool
both_place (Some x) (Some y) = same_place x y
both_place _ _ = false

both_place-flips : (a b : Option Item) → both_place a b ≡ both_place b a
both_place-flips None None = refl
both_place-flips None (Some y) = refl
both_place-flips (Some x) None = refl
both_place-flips (Some x) (Some y) = same_place-flips x y

-- one for a record that writes nothing
abbrev nothing : Option Item → ℕ
nothing None = 1
nothing (Some x) = 0

-- if each record writes an item, and if only one writes none
all-written : (os : List (Option Item)) → sum_by nothing os ≡ 0 → (more : List Item) × (os ≡ map Some more)
all-written [] h = ([], refl)
all-written (None ∷ os) h = absurd (omega (arith, h, sum_by-cons nothing None os))
all-written (Some x ∷ os) h = let more = all-written os h in (x ∷ more.0, ap (λ l. Some x ∷ l) more.1)

none-missing : (items : List Item) → sum_by nothing (map Some items) ≡ 0
none-missing [] = refl
none-missing (x ∷ items) = none-missing items

-- items at places of their own, as what records write, and the reverse
distinct-some : (items : List Item) → Apart items → IsDistinct both_place (map Some items)
distinct-some items apart = IsDistinct-from_apart both_place (map Some items) (λ i j d less lt.
    let none : Item = record { graph = One; entry = record { row = 0; col = 0; values = [] } } in
    let within : j < length items = omega (arith, length-map items Some) in
    rw (get_or-map Some items i none d (omega arith), get_or-map Some items j none d within) (apart i j none less within))

distinct-written : (b : Bool) (items : List Item) → Apart items → IsDistinct both_place (with_header b (map Some items))
distinct-written false items apart = distinct-some items apart
distinct-written true items apart = IsDistinct-cons both_place None (map Some items)
    (recursion_from_All (λ o. both_place None o ≡ false) (map Some items) (λ k d lt. refl)) (distinct-some items apart)

some-distinct : (items : List Item) → IsDistinct both_place (map Some items) → Apart items
some-distinct items far i j d less lt =
    rw (get_or-map Some items i d None (omega arith), get_or-map Some items j d None lt)
    at (apart_from_distinct both_place (map Some items) i j None far less (omega (arith, length-map items Some)))

written-distinct : (b : Bool) (items : List Item) → IsDistinct both_place (with_header b (map Some items)) → Apart items
written-distinct false items far = some-distinct items far
written-distinct true items far = some-distinct items (IsDistinct-tail both_place None (map Some items) far)

count-with : (b : Bool) (os : List (Option Item)) → sum_by nothing (with_header b os) ≡ cond b 1 0 + sum_by nothing os
count-with true os = sum_by-cons nothing None os
count-with false os = omega arith

-- how many records write nothing, if the others write these items
count-missing : (records : List Record) (items : List Item) → IsWritten records items
    → sum_by nothing (writes records) ≡ cond (has_header records) 1 0
count-missing records items w =
    let all = ap (sum_by nothing) (writes-are records items w) in
    omega (arith, all, count-with (has_header records) (map Some items), none-missing items)

-- records in another order write items too, if the header is in front of both or of neither
moved-written : (records others : List Record) (items : List Item) → IsPermutation records others
    → has_header records ≡ has_header others → IsWritten records items
    → (more : List Item) × IsWritten others more
moved-written records others items moved same w =
    let moves : IsPermutation (writes records) (writes others) = IsPermutation-map item_written records others moved in
    let kept = sum_by-IsPermutation nothing (writes records) (writes others) moves ∙ count-missing records items w
    ∙ ap (λ b. cond b 1 0) same in
    let split = ap (sum_by nothing) (writes-header others) ∙ count-with (has_header others) (writes (without_header others)) in
    let more = all-written (writes (without_header others)) (omega (arith, kept, split)) in
    let far = IsDistinct-IsPermutation both_place both_place-flips (writes records) (writes others) moves
    (subst (IsDistinct both_place) (sym (writes-are records items w)) (distinct-written (has_header records) items w.apart)) in (
      more.0,
      record {
        eleven = All-permutation (λ r. length r ≡ 11) records others moved w.eleven;
        written = more.1;
        apart = written-distinct (has_header others) more.0
            (subst (IsDistinct both_place) (writes-header others ∙ ap (with_header (has_header others)) more.1) far);
      },
    )

-- the header is in front of both or of neither, if both write items
moved-header : (records others : List Record) (items more : List Item) → IsPermutation records others → IsWritten records items
    → IsWritten others more → has_header records ≡ has_header others
moved-header records others items more moved w v =
    same (has_header records) (has_header others)
    (sym (count-missing records items w)
    ∙ sym (sum_by-IsPermutation nothing (writes records) (writes others) (IsPermutation-map item_written records others moved))
    ∙ count-missing others more v)
  where
    same : (b c : Bool) → ◌≡◌ {A = ℕ} (cond b 1 0) (cond c 1 0) → b ≡ c
    same b c e = grind arith

-- for two texts
ok-is : (r : Result (List Item) TableFault) → IsOk r → (items : List Item) × (r ≡ Ok items)
ok-is (Ok items) h = (items, refl)
ok-is (Err e) h = cc h

said-ok : (text : List ℕ) (t : Entries) → table_said text ≡ Ok t → IsOk (items_said text)
unfolding table_said
said-ok text t said = ap is_ok (bind-ok (items_said text) _ t (if-ok _ TooLong _ t said).1).1

module _ (text other : List ℕ) (moved : IsPermutation (records_of text) (records_of other))
    (same : has_header (records_of text) ≡ has_header (records_of other)) where
  moved-said : (items : List Item) → items_said text ≡ Ok items
      → (more : List Item) × (items_said other ≡ Ok more) × (table_of items ≡ table_of more)
  moved-said items is =
      let w = (items-are_written (records_of text) items).0 is in
      let more = moved-written (records_of text) (records_of other) items moved same w in
      let others_is = (items-are_written (records_of other) more.0).1 more.1 in
      (more.0, others_is, moved-table (records_of text) (records_of other) items more.0 moved is others_is)

  records-moved : IsOk (items_said text) → IsOk (items_said other)
  records-moved ok = let items = ok-is (items_said text) ok in ap is_ok (moved-said items.0 items.1).1

  whole-moved : length text ≤ 4194304 → length other ≤ 4194304 → IsOk (items_said text)
      → table_said text ≡ table_said other
  unfolding table_said
  whole-moved short other_short ok = grind (arith, nat_tests, ok-is, moved-said, le-ltb)

  accepted-moved : length text ≤ 4194304 → length other ≤ 4194304 → (t : Entries) → table_said text ≡ Ok t
      → table_said other ≡ Ok t
  accepted-moved short other_short t said = sym (whole-moved short other_short (said-ok text t said)) ∙ said

pub records-may_move : RecordsMayMove
records-may_move text other short other_short moved = record {
  alike = λ same. record {
    records = (records-moved text other moved same, records-moved other text (IsPermutation-sym _ _ moved) (sym same));
    whole = whole-moved text other moved same short other_short;
    accepted = λ t. (
      accepted-moved text other moved same short other_short t,
      accepted-moved other text (IsPermutation-sym _ _ moved) (sym same) other_short short t,
    );
  };
  header = λ ok other_ok. let items = ok-is (items_said text) ok in let more = ok-is (items_said other) other_ok in
      moved-header (records_of text) (records_of other) items.0 more.0 moved
      ((items-are_written (records_of text) items.0).0 items.1) ((items-are_written (records_of other) more.0).0 more.1);
}
