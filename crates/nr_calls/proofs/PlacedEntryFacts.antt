-- The entries of a caller and the items that they are: which entries are placed, and which table they are.
use Rattle.nr_calls.proofs.Common.{nat_tests, ◌≡◌, ◌⊎◌, inl, inr, refl, sym, ap, ◌∙◌, ℕ, ◌+◌, ◌≤◌}
use Rattle.nr_calls.proofs.Common.{set, below_more, get_or-set_other, get_or-set_same, Bool, true, false, not, if◌then◌else◌}
use Rattle.nr_calls.proofs.Common.{Some, None, Result, Ok, Err, List, [], ◌∷◌, length, map, length-append, get_or, ◌<◌}
use Rattle.nr_calls.proofs.Common.{arith, IfErr, length-map, get_or-map, Graph, One, Two, with_fault, Entries, items_listed}
use Rattle.nr_calls.proofs.Common.{kept_of, Fault}
use Rattle.nr_calls.specs.Entries.{are_placed, fault_of, table_by}
use Rattle.std.{proofs.Common.is_ok, specs.Prelude.IsErrOf, specs.Prelude.slice_get, proofs.lemmas.List.Elements.All-weaker}
use Rattle.std.proofs.lemmas.Option.{slice_get-get_or}
use Rattle.nr_shifttable.specs.declared.{entry.Item.Item, fault.EntriesFault.EntriesFault, entry.KeptEntry.KeptEntry}
use Rattle.nr_shifttable.specs.Accepted.{IsInRange, IsTable, entries_in}
use Rattle.nr_shifttable.proofs.EntryOrderFacts.{entries-few, in_range-short, in_table-order}
use Rattle.nr_shifttable.specs.Listed.{entries_said, item_key, item_kept, places_from, places_said}
use Rattle.nr_shifttable.specs.declared.fault.EntriesFault.TheVariants as kept
use Rattle.nr_calls.specs.declared.fault.Fault.TheVariants as fault

-- an entry of no table, for places past a list's end
abbrev pub no_entry : KeptEntry
no_entry = record { graph = 0; entry = record { row = 0; col = 0; values = [] } }

-- an item's fault is one of entries, if that of the items after it is
step-fault : (room low : Bool) (n : ℕ) (rest : Result (Unit {0}) EntriesFault) (e : EntriesFault)
    → (rest ≡ Err e → fault_of e ≡ fault.Entries)
    → (if not room then Err (kept.Range n) else (if low then Err (kept.Order n) else rest)) ≡ Err e
    → fault_of e ≡ fault.Entries
step-fault false low n rest e behind is = let range : kept.Range n ≡ e = cc in sym (ap fault_of range)
step-fault true true n rest e behind is = let order : kept.Order n ≡ e = cc in sym (ap fault_of order)
step-fault true false n rest e behind is = behind is

-- a fault of places is one of entries
places-fault : (n past : ℕ) (es : List KeptEntry) (f : EntriesFault) → places_from n past es ≡ Err f
    → fault_of f ≡ fault.Entries
unfolding places_from
places-fault n past [] f is = cc
places-fault n past (e ∷ es) f is = grind (arith, nat_tests, step-fault, places-fault (n + 1) (item_key (item_kept e) + 1) es f)

-- how many items a table lists
pub listed-length : (t : Entries) → length (items_listed t) ≡ length t.one + length t.two
listed-length t = grind (arith, length-append, length-map)

-- an item of a list, and its entry
pub entry-at : (xs : List Item) (n : ℕ) (x : Item) (d : KeptEntry) → n < length xs → slice_get xs n ≡ Some x
    → get_or (map kept_of xs) n d ≡ kept_of x
entry-at xs n x d within is =
    let found : slice_get xs n ≡ Some (get_or xs n x) = slice_get-get_or xs n x within in
    let same : get_or xs n x ≡ x = cc in
    get_or-map kept_of xs n x d within ∙ ap kept_of same

-- there is an item at each place of a list
pub some-within : (xs : List Item) (n : ℕ) → n < length xs → slice_get xs n ≡ None → ⊥
some-within xs n within is =
    let x : Item = record { graph = One; entry = record { row = 0; col = 0; values = [] } } in
    let found : slice_get xs n ≡ Some (get_or xs n x) = slice_get-get_or xs n x within in
    cc

-- one more entry is written
pub written-more : (xs : List Item) (old new : List KeptEntry) (n : ℕ) (x : Item) (e : KeptEntry) → n < length old
    → length old ≡ length xs
    → slice_get xs n ≡ Some x → e ≡ kept_of x → new ≡ set old n e
    → ((k : ℕ) → k < n → get_or old k no_entry ≡ get_or (map kept_of xs) k no_entry)
    → (k : ℕ) → k < n + 1 → get_or new k no_entry ≡ get_or (map kept_of xs) k no_entry
written-more xs old new n x e within long is made put so_far = grind
    (arith, below_more, get_or-set_other, get_or-set_same, entry-at)

-- the result for entries, as the fault of a call
pub answered : (es : List KeptEntry) (said : Result Entries EntriesFault) → entries_said es ≡ said
    → table_by es ≡ with_fault fault_of said
unfolding table_by
answered es said is = ap (with_fault fault_of) is

-- a fault of entries, unless memory ran out, as the fault of a call
pub refused : (es : List KeptEntry) (e : EntriesFault) (f : Fault) → ((e ≡ kept.Memory) ⊎ (entries_said es ≡ Err e))
    → f ≡ fault_of e → (f ≡ fault.Memory) ⊎ (table_by es ≡ Err f)
refused es e f (inl memory) is = inl (is ∙ ap fault_of memory)
refused es e f (inr said) is = inr (answered es (Err e) said ∙ ap (λ g. Err g) (sym is))

-- a fault of the places is returned, whatever memory there is
told : (T : Type 0) (p : Result (Unit {0}) EntriesFault) (e : EntriesFault)
    → ((x : EntriesFault) → p ≡ Err x → fault_of x ≡ fault.Entries)
    → is_ok p ≡ false → IfErr p (λ x. IsErrOf {T = T} (Err e) x) → fault_of e ≡ fault.Entries
told T (Ok u) e faults wrong is = cc
told T (Err x) e faults wrong is = let same : e ≡ x = cc in ap fault_of same ∙ faults x refl

pub misplaced : (T : Type 0) (es : List KeptEntry) (e : EntriesFault) → are_placed es ≡ false
    → IfErr (places_said es) (λ x. IsErrOf {T = T} (Err e) x) → fault_of e ≡ fault.Entries
misplaced T es e wrong is = told T (places_said es) e (places-fault 1 0 es) wrong is

-- a table lists few items
pub listed-few : (t : Entries) → IsTable t → length (items_listed t) ≤ 6256
listed-few t table =
    let ones : length t.one ≤ 3128 = few One in
    let twos : length t.two ≤ 3128 = few Two in
    omega (arith, listed-length t)
  where
    few : (g : Graph) → length (entries_in g t) ≤ 3128
    few g = entries-few (entries_in g t) (in_table-order t g table)
        (All-weaker (IsInRange g) (λ e. e.row < 46) (in_range-short g) (entries_in g t) (table.entries.in_range g))
