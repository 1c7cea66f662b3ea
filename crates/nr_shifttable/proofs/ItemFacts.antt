-- How the items of a table file are read, record by record and field by field.
use Rattle.nr_shifttable.proofs.Common.{◌≡◌, ℕ, zero, suc, ◌+◌, ◌<◌, ◌≤◌, List, [], ◌∷◌, ◌++◌}
use Rattle.nr_shifttable.proofs.Common.{length, take, drop, get_or, set, Bool, true, false, nat_lt, ◌&&◌, cond, refl, ap, sym}
use Rattle.nr_shifttable.proofs.Common.{◌∙◌, arith, append_assoc, Option, Some, None, option_map, codes, option_and_then}
use Rattle.nr_shifttable.proofs.Common.{Result, Ok, Err, list_all, lt-ltb, append-nil, get_or-drop, length-drop, take_more_set}
use Rattle.nr_shifttable.proofs.Common.{is_header, item_of, items_from, short_numbers, with_item, Record, Item, same_Some}
use Rattle.nr_shifttable.proofs.Common.{short_number, text_of_field, TableFault}
use Rattle.std.{specs.Prelude.bytes_eq, specs.Result.OkIff, specs.Result.result_ok, proofs.lemmas.Result.OkIff-at_ok}
use Rattle.std.proofs.lemmas.List.{drop_all, drop_more, take_all, take_more}
use Rattle.csv.{specs.Records.field_at, proofs.RecordFacts.field-there}

-- the first field, or its absence, decides whether a record is a header
pub header-some : (r : Record) (f : List ℕ) → Some f ≡ field_at r 0
    → bytes_eq (text_of_field f) (codes "graph") ≡ is_header r
unfolding field_at
header-some [] f e = cc e
header-some (g ∷ gs) f e = ap (λ x. bytes_eq (text_of_field x) (codes "graph")) (same_Some f g e)

pub header-none : (r : Record) → ◌≡◌ {A = Option (List ℕ)} None (field_at r 0) → false ≡ is_header r
unfolding field_at
header-none [] e = refl
header-none (g ∷ gs) e = cc e

-- the numbers of the fields from field i on, by that of field i
pub numbers-from : (r : Record) (i : ℕ) (f : List ℕ) → Some f ≡ field_at r i
    → short_numbers (drop i r) ≡ option_and_then (λ n. option_map (λ ns. n ∷ ns) (short_numbers (drop (i + 1) r)))
    (short_number (text_of_field f))
unfolding field_at
numbers-from [] i f e = cc e
numbers-from (g ∷ gs) zero f e = rw (same_Some f g e) refl
numbers-from (g ∷ gs) (suc i) f e = let next : suc i + 1 ≡ suc (i + 1) = omega arith in rw next (numbers-from gs i f e)

-- the numbers so far, and those of the fields left
abbrev ReadSoFar : Record → ℕ → List ℕ → Type 0
ReadSoFar r i ns = short_numbers r ≡ option_map (λ rest. take i ns ++ rest) (short_numbers (drop i r))

-- one more number is read
pub numbers-more : (r : Record) (i n : ℕ) (f : List ℕ) (ns : List ℕ) → Some f ≡ field_at r i
    → Some n ≡ short_number (text_of_field f) → i < length ns
    → ReadSoFar r i ns → ReadSoFar r (i + 1) (set ns i n)
numbers-more r i n f ns e m lt h =
    h ∙ ap (option_map (λ rest. take i ns ++ rest)) (numbers-from r i f e
    ∙ ap (option_and_then (λ n. option_map (λ ns. n ∷ ns) (short_numbers (drop (i + 1) r)))) (sym m))
    ∙ both (short_numbers (drop (i + 1) r))
  where
    joined : (rest : List ℕ) → take i ns ++ n ∷ rest ≡ take (i + 1) (set ns i n) ++ rest
    joined rest = sym (ap (λ l. l ++ rest) (take_more_set ns i n lt) ∙ append_assoc (take i ns) (n ∷ []) rest)

    both : (o : Option (List ℕ))
        → option_map (λ rest. take i ns ++ rest) (option_map (λ ns. n ∷ ns) o)
        ≡ option_map (λ rest. take (i + 1) (set ns i n) ++ rest) o
    both None = refl
    both (Some rest) = ap Some (joined rest)

-- if a field is no number, there are no numbers
pub numbers-none : (r : Record) (i : ℕ) (f : List ℕ) (ns : List ℕ) → Some f ≡ field_at r i
    → ◌≡◌ {A = Option ℕ} None (short_number (text_of_field f))
    → ReadSoFar r i ns → ◌≡◌ {A = Option (List ℕ)} None (short_numbers r)
numbers-none r i f ns e m h =
    sym (h ∙ ap (option_map (λ rest. take i ns ++ rest)) (numbers-from r i f e
    ∙ ap (option_and_then (λ n. option_map (λ ns. n ∷ ns) (short_numbers (drop (i + 1) r)))) (sym m)))

-- after the last field all are read
pub numbers-all : (r : Record) (i : ℕ) (ns : List ℕ) → length r ≤ i → length ns ≤ i → ReadSoFar r i ns
    → Some ns ≡ short_numbers r
numbers-all r i ns h k said = sym (said ∙ ap (λ l. option_map (λ rest. take i ns ++ rest) (short_numbers l)) (drop_all i r h)
    ∙ ap Some (append-nil (take i ns) ∙ take_all i ns k))

-- no field before the last is missing
pub no-field : (r : Record) (i : ℕ) → i < length r → ◌≡◌ {A = Option (List ℕ)} None (field_at r i) → ⊥
no-field r i lt e = field-there r i lt (sym e)

-- what a conversion to 16 bits says if it returns a number
pub converted : {E : Type 0} (r : Result ℕ E) (x v : ℕ) → OkIff r (x < 65536) x → Some v ≡ result_ok r
    → (x < 65536) × (v ≡ x)
converted {E} (Ok y) x v h e = let k = OkIff-at_ok {E = E} (Ok y) (x < 65536) x y h refl in (k.0, same_Some v y e ∙ k.1)
converted (Err e) x v h q = cc q

abbrev short : ℕ → Bool
short v = nat_lt v 65536

-- one more value that fits 16 bits
pub values-more : (numbers values : List ℕ) (i v x : ℕ) → 3 + i < length numbers → i < length values
    → x ≡ get_or numbers (3 + i) 0 → x < 65536 → v ≡ x
    → list_all short (drop 3 numbers) ≡ list_all short (drop (3 + i) numbers) → take i values ≡ take i (drop 3 numbers)
    → (list_all short (drop 3 numbers) ≡ list_all short (drop (3 + (i + 1)) numbers))
    × (take (i + 1) (set values i v) ≡ take (i + 1) (drop 3 numbers))
values-more numbers values i v x inside room at fits e all front =
    let next : 3 + i + 1 ≡ 3 + (i + 1) = omega arith in
    let value : get_or (drop 3 numbers) i 0 ≡ v = get_or-drop 3 numbers i 0 ∙ sym at ∙ sym e in
    let left : i < length (drop 3 numbers) = omega (arith, length-drop 3 numbers) in
    let test : short (get_or numbers (3 + i) 0) ≡ true = ap short (sym at) ∙ lt-ltb x 65536 fits in (
      all ∙ ap (list_all short) (drop_more numbers (3 + i) 0 inside)
          ∙ ap (λ b. b && list_all short (drop (3 + i + 1) numbers)) test ∙ ap (λ n. list_all short (drop n numbers)) next,
      take_more_set values i v room ∙ ap (λ l. l ++ v ∷ []) front
          ∙ ap (λ y. take i (drop 3 numbers) ++ y ∷ []) (sym value) ∙ sym (take_more (drop 3 numbers) i 0 left),
    )

-- all values fit
pub values-all : (numbers values : List ℕ) (i : ℕ) → length numbers ≤ 3 + i → length values ≤ i
    → list_all short (drop 3 numbers) ≡ list_all short (drop (3 + i) numbers) → take i values ≡ take i (drop 3 numbers)
    → Some values ≡ cond (list_all short (drop 3 numbers)) (Some (drop 3 numbers)) None
values-all numbers values i h k all front =
    let every : list_all short (drop 3 numbers) ≡ true = all ∙ ap (list_all short) (drop_all (3 + i) numbers h) in
    let same : values ≡ drop 3 numbers =
    sym (take_all i values k) ∙ front ∙ take_all i (drop 3 numbers) (omega (arith, length-drop 3 numbers)) in
    ap Some same ∙ ap (λ b. cond b (Some (drop 3 numbers)) None) (sym every)

-- what a record adds to the items of the records before it, or its fault
pub items-more : (k : ℕ) (items more : List Item) (before rest : List Record) (r : Record) (found : Option Item)
    (all : Result (List Item) TableFault)
    → before ≡ r ∷ rest → item_of k items r ≡ Ok found → more ≡ with_item items found
    → items_from k items before ≡ all → items_from (k + 1) more rest ≡ all
unfolding items_from
items-more k items more before rest r found all b e m h = grind arith

pub items-fault : (k : ℕ) (items : List Item) (before rest : List Record) (r : Record) (e : TableFault)
    (all : Result (List Item) TableFault)
    → before ≡ r ∷ rest → item_of k items r ≡ Err e → items_from k items before ≡ all → all ≡ Err e
unfolding items_from
items-fault k items before rest r e all b f h = grind arith

-- after the last record the items are all
pub items-end : (k : ℕ) (items : List Item) (before : List Record) (all : Result (List Item) TableFault) → before ≡ []
    → items_from k items before ≡ all → all ≡ Ok items
unfolding items_from
items-end k items before all b h = sym h ∙ ap (items_from k items) b
