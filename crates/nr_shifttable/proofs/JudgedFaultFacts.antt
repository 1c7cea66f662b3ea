-- The faults that judging a text's records and their table returns: neither a failed read nor a text that is too long.
use Rattle.nr_shifttable.proofs.Common.{nat_tests, arith, ◌≡◌, ℕ, ◌+◌, Bool, true, false, ◌<◌, ◌⊎◌, inl, inr}
use Rattle.nr_shifttable.proofs.Common.{List, [], ◌∷◌, length, refl, sym, subst, Option, Some, None, Result, Ok, Err, IfSome}
use Rattle.nr_shifttable.proofs.Common.{lt-ltb, Graph, Entry, Item, Record, item_of, with_item, items_from, Entries, acceptance_of}
use Rattle.nr_shifttable.proofs.Common.{table_said, graph_checked, TableFault, ◌>>=◌, Gives}
use Rattle.std.specs.Prelude.{IsErrOf}
use Rattle.nr_shifttable.specs.declared.fault.TableFault.TheVariants as fault

-- a fault of reading the octets
abbrev pub is_of_octets : TableFault → Bool
is_of_octets fault.Read = true
is_of_octets fault.TooLong = true
is_of_octets _ = false

-- a result that is not such a fault
abbrev pub IsJudged : {X : Type 0} → Result X TableFault → Type 0
IsJudged (Ok x) = Unit {0}
IsJudged (Err e) = is_of_octets e ≡ false

judged-bind : {X Y : Type 0} (r : Result Y TableFault) (next : Y → Result X TableFault) → IsJudged r
    → ((y : Y) → IsJudged (next y)) → IsJudged (r >>= next)
judged-bind (Ok y) next p q = q y
judged-bind (Err e) next p q = p

item-judged : (k : ℕ) (earlier : List Item) (r : Record) → IsJudged (item_of k earlier r)
unfolding item_of
item-judged k earlier r = grind (arith, nat_tests)

pub items-judged : (k : ℕ) (items : List Item) (rs : List Record) → IsJudged (items_from k items rs)
unfolding items_from
items-judged k items [] = tt
items-judged k items (r ∷ rs) =
    judged-bind (item_of k items r) _ (item-judged k items r) (λ found. items-judged (k + 1) (with_item items found) rs)

graph-judged : (g : Graph) (es : List Entry) → IsJudged (graph_checked g es)
unfolding graph_checked
graph-judged g es = grind (arith, nat_tests)

pub accepted-judged : (t : Entries) → IsJudged (acceptance_of t)
unfolding acceptance_of
accepted-judged t = grind (arith, graph-judged)

-- nor does a call return such a fault, if it gives a result without one
pub fault-judged : {Y : Type 0} (e : TableFault) (said : Result Y TableFault) → (e ≡ fault.Memory) ⊎ (said ≡ Err e)
    → IsJudged said → is_of_octets e ≡ false
fault-judged e said (inl m) judged = subst (λ f. is_of_octets f ≡ false) (sym m) refl
fault-judged e said (inr s) judged = subst IsJudged s judged

pub gives-judged : {X Y : Type 0} (view : X → Y) (r : Result X TableFault) (said : Result Y TableFault)
    → Gives fault.Memory view r said → IsJudged said → IsJudged r
gives-judged view (Ok x) said gives judged = tt
gives-judged view (Err e) said gives judged = fault-judged e said gives judged

pub judged-not : {X : Type 0} (r : Result X TableFault) (f : TableFault) → IsJudged r → is_of_octets f ≡ true
    → IsErrOf r f → ⊥
judged-not r f judged outer is = grind arith

-- a text over the limit is refused as too long
pub too_long-said : {X : Type 0} (o : Option (List ℕ)) (view : X → Entries) → IfSome o (λ all. 4194304 < length all)
    → IfSome o (λ text. ◌≡◌ {A = Result X TableFault} (Err fault.TooLong) (Err fault.Read)
    ⊎ Gives fault.Memory view (Err fault.TooLong) (table_said text))
unfolding table_said
too_long-said None view long = tt
too_long-said (Some text) view long = inr (inr (rw (lt-ltb 4194304 (length text) long) refl))
