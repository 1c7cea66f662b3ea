-- What is true of the items of every file: each is within its base graph, and no two are at one place.
use Rattle.nr_shifttable.proofs.Common.{common_steps, nat_tests, ◌≡◌, ℕ, ◌+◌, List, [], ◌∷◌, ◌++◌, length}
use Rattle.nr_shifttable.proofs.Common.{Bool, true, false, ◌&&◌, ◌==◌, cond, refl, ap, subst, sym, ◌∙◌, arith, Option}
use Rattle.nr_shifttable.proofs.Common.{Some, None, All, IfOk, Result, Ok, Err, codes, option_and_then, option_map, both_ways}
use Rattle.nr_shifttable.proofs.Common.{false_from_ne_true, All-nil, All-push, Graph, Apart, IsInside, has_place, is_header}
use Rattle.nr_shifttable.proofs.Common.{item_of, items_from, short_numbers, same_place, with_item, Record, Item, same_Some}
use Rattle.nr_shifttable.proofs.Common.{short_number, text_of_field, item_written, Gives, ok-same, bind-ok, TableFault}
use Rattle.nr_shifttable.specs.Items.{item_in, item_of_numbers}
use Rattle.std.{proofs.Common.Vec, proofs.Common.Global, specs.List.list_any, proofs.lemmas.Option.option_and_then_some}
use Rattle.std.proofs.lemmas.{Slice.Eq.bytes_eq-Decides, List.Folds.list_any_at, List.Quantifiers.all_pairs_push}
use Rattle.nr_streams.specs.Fields.{numeral}
use Rattle.nr_shifttable.specs.declared.fault.TableFault.TheVariants as fault

pub if-ok : {Y : Type 0} (b : Bool) (d : TableFault) (r : Result Y TableFault) (y : Y) → cond b (Err d) r ≡ Ok y
    → (b ≡ false) × (r ≡ Ok y)
if-ok true d r y e = cc e
if-ok false d r y e = (refl, e)

-- the tests of an item in range hold
inside-in : (graph : Graph) (row col : ℕ) (values : List ℕ) (x : Item) → length values ≡ 8
    → item_in graph row col values ≡ Some x → IsInside x
inside-in graph row col values x eight e = grind (arith, common_steps, nat_tests)

inside-of : (numbers : List ℕ) (x : Item) → length numbers ≡ 11 → item_of_numbers numbers ≡ Some x → IsInside x
inside-of [] x long e = cc e
inside-of (g ∷ []) x long e = cc e
inside-of (g ∷ row ∷ []) x long e = cc e
inside-of (g ∷ row ∷ col ∷ values) x long e = grind (arith, common_steps, nat_tests, option_and_then_some, inside-in)

-- a number for each field
numbers-long : (r : Record) (numbers : List ℕ) → short_numbers r ≡ Some numbers → length numbers ≡ length r
numbers-long [] numbers e = sym (ap length (same_Some [] numbers e))
numbers-long (f ∷ fs) numbers e = grind (arith, numbers-long fs)

-- A record without a fault says nothing if it is a header. Otherwise it says the item that it writes, which is not at
-- the place of an earlier one.
abbrev pub Says : ℕ → List Item → Record → Option Item → Type 0
Says k earlier r None = ((k == 1) && is_header r) ≡ true
Says k earlier r (Some x) = (((k == 1) && is_header r) ≡ false) × (item_written r ≡ Some x) × (has_place earlier x ≡ false)

pub item-said : (k : ℕ) (earlier : List Item) (r : Record) (found : Option Item) → item_of k earlier r ≡ Ok found
    → (length r ≡ 11) × Says k earlier r found
unfolding item_of
item-said k earlier r found e = grind (arith, nat_tests)

-- and back
pub said-item : (k : ℕ) (earlier : List Item) (r : Record) (found : Option Item) → length r ≡ 11 → Says k earlier r found
    → item_of k earlier r ≡ Ok found
unfolding item_of
said-item k earlier r None long header = rw (long, header) refl
said-item k earlier r (Some x) long said = grind arith

-- the item that a record of eleven fields writes is within its base graph
inside-written : (r : Record) (x : Item) → length r ≡ 11 → item_written r ≡ Some x → IsInside x
inside-written r x long is = option_and_then_some item_of_numbers (short_numbers r) x is
    (λ numbers are one. inside-of numbers x (numbers-long r numbers are ∙ long) one)

-- what is true of each new item is true of all
items-kept : (P : List Item → Type 0)
    → ((items : List Item) (x : Item) → P items → has_place items x ≡ false → IsInside x → P (items ++ x ∷ []))
    → (k : ℕ) (items : List Item) (rs : List Record) (out : List Item) → items_from k items rs ≡ Ok out
    → P items → P out
unfolding items_from
items-kept P more k items [] out e p = subst P (ok-same e) p
items-kept P more k items (r ∷ rs) out e p =
    let first = bind-ok (item_of k items r) (λ found. items_from (k + 1) (with_item items found) rs) out e in
    items-kept P more (k + 1) (with_item items first.0) rs out first.2 (kept first.0 (item-said k items r first.0 first.1))
  where
    kept : (found : Option Item) → (length r ≡ 11) × Says k items r found → P (with_item items found)
    kept None said = p
    kept (Some x) said = more items x p said.1.2 (inside-written r x said.0 said.1.1)

-- if none passes a test, each fails it
none-passes : {X : Type 0} (p : X → Bool) (xs : List X) → list_any p xs ≡ false → All (λ x. p x ≡ false) xs
none-passes p xs h i d lt = false_from_ne_true _ (λ passes. both_ways (list_any p xs) h (list_any_at p xs i d lt passes))

-- No two items are at one place.
pub items-apart : (k : ℕ) (rs : List Record) (out : List Item) → items_from k [] rs ≡ Ok out → Apart out
items-apart k rs out e = items-kept Apart
    (λ items x p new _. all_pairs_push (λ y z. same_place y z ≡ false) items x p (none-passes (λ y. same_place y x) items new))
    k [] rs out e (λ i j d less within. absurd (omega arith))

-- Each item is within its base graph.
pub items-inside : (k : ℕ) (rs : List Record) (out : List Item) → items_from k [] rs ≡ Ok out → All IsInside out
items-inside k rs out e =
    items-kept (All IsInside) (λ items x p _ inside. All-push IsInside items x p inside) k [] rs out e (All-nil IsInside)

-- what is true of the specification's result is true of the result that gives it
pub gives-law : (P : List Item → Type 0) (r : Result (Vec Item Global) TableFault) (said : Result (List Item) TableFault)
    → Gives fault.Memory (λ v. v.items) r said → ((out : List Item) → said ≡ Ok out → P out) → IfOk r (λ v. P v.items)
gives-law P (Ok v) said g law = law v.items g
gives-law P (Err e) said g law = tt

-- the word of a header is no number
header-number : (text : List ℕ) → text ≡ codes "graph" → short_number text ≡ None
unfolding numeral
header-number text is = ap short_number is

-- a header writes no item
pub header-numbers : (r : Record) → is_header r ≡ true → short_numbers r ≡ None
header-numbers [] e = cc e
header-numbers (f ∷ fs) e = ap (option_and_then (λ n. option_map (λ ns. n ∷ ns) (short_numbers fs)))
    (header-number (text_of_field f) ((bytes_eq-Decides (text_of_field f) (codes "graph")).0 e))
