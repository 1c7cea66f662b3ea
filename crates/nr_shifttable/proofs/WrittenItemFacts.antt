-- The items of a table file, from one record after another to all of them at once, and the reverse.
use Rattle.nr_shifttable.proofs.Common.{◌≡◌, ℕ, ◌+◌, ◌<◌, ◌==◌, Bool, true, false, ◌&&◌, cond, List, []}
use Rattle.nr_shifttable.proofs.Common.{◌∷◌, ◌++◌, length, map, refl, sym, ap, ◌∙◌, arith, Option, Some, None, All}
use Rattle.nr_shifttable.proofs.Common.{Ok, ne_eqb, append_assoc, append-nil, get_or_append_left, length-append, All-cons, All-head}
use Rattle.nr_shifttable.proofs.Common.{All-nil, All-tail, Apart, has_place, is_header, item_of, items_from, same_place, with_item}
use Rattle.nr_shifttable.proofs.Common.{Record, Item, ok-same, bind-ok, item_written, without_header}
use Rattle.nr_shifttable.specs.Written.{ItemsAreWritten}
use Rattle.nr_shifttable.proofs.ItemLaws.{Says, item-said, items-apart, said-item}
use Rattle.std.proofs.{Math.Seq.get_or-append_seam, lemmas.List.Folds.list_any_none}

-- a record has all its fields
abbrev Eleven : Record → Type 0
Eleven r = length r ≡ 11

-- the records from record k on that write an item: only the first record of all may be a header
abbrev behind : ℕ → List Record → List Record
behind k [] = []
behind k (r ∷ rs) = cond ((k == 1) && is_header r) rs (r ∷ rs)

behind-first : (rs : List Record) → without_header rs ≡ behind 1 rs
behind-first [] = refl
behind-first (r ∷ rs) = refl

behind-next : (k : ℕ) (rs : List Record) → 0 < k → behind (k + 1) rs ≡ rs
behind-next k [] some = refl
behind-next k (r ∷ rs) some = rw (ne_eqb (k + 1) 1 (λ e. omega arith)) refl

-- what the records from record k on write, after the items of those before them
record WritesOn (k : ℕ) (items : List Item) (rs : List Record) (out : List Item) : Type 0 where
  more : List Item
  all : out ≡ items ++ more
  written : map item_written (behind k rs) ≡ map Some more
  eleven : All Eleven rs

from-forth : (k : ℕ) (items : List Item) (rs : List Record) (out : List Item) → 0 < k → items_from k items rs ≡ Ok out
    → WritesOn k items rs out
unfolding items_from
from-forth k items [] out some e =
    record { more = []; all = sym (ok-same e) ∙ sym (append-nil items); written = refl; eleven = All-nil Eleven }
from-forth k items (r ∷ rs) out some e =
    let first = bind-ok (item_of k items r) (λ found. items_from (k + 1) (with_item items found) rs) out e in
    let said = item-said k items r first.0 first.1 in
    by first.0 said.0 said.1 (from-forth (k + 1) (with_item items first.0) rs out (omega arith) first.2)
  where
    by : (found : Option Item) → Eleven r → Says k items r found → WritesOn (k + 1) (with_item items found) rs out
        → WritesOn k items (r ∷ rs) out
    by None long header w = record {
      more = w.more;
      all = w.all;
      written = rw header (rw (behind-next k rs some) at w.written);
      eleven = All-cons Eleven r rs long w.eleven;
    }
    by (Some x) long said w = record {
      more = x ∷ w.more;
      all = w.all ∙ append_assoc items (x ∷ []) w.more;
      written = let rest = rw (behind-next k rs some) at w.written in rw (said.0, said.1) (ap (λ os. Some x ∷ os) rest);
      eleven = All-cons Eleven r rs long w.eleven;
    }

-- an item that is apart from those before it is at the place of none of them
none-before : (items : List Item) (x : Item) (more : List Item) → Apart (items ++ x ∷ more) → has_place items x ≡ false
none-before items x more apart = list_any_none (λ y. same_place y x) items (λ k d lt.
    rw (get_or_append_left items (x ∷ more) d k lt, get_or-append_seam items x more d)
    at (apart k (length items) d lt (omega (arith, length-append items (x ∷ more)))))

from-back : (k : ℕ) (items : List Item) (rs : List Record) (more : List Item) → 0 < k → All Eleven rs
    → map item_written (behind k rs) ≡ map Some more → Apart (items ++ more)
    → items_from k items rs ≡ Ok (items ++ more)
unfolding items_from
from-back k items [] [] some all is apart = ap Ok (sym (append-nil items))
from-back k items [] (x ∷ more) some all is apart = cc is
from-back k items (r ∷ rs) more some all is apart =
    by ((k == 1) && is_header r) more refl is apart
    (λ front rest w far. from-back (k + 1) front rs rest (omega arith) (All-tail Eleven r rs all)
    (ap (map item_written) (behind-next k rs some) ∙ w) far)
  where
    long : Eleven r
    long = All-head Eleven r rs all

    by : (b : Bool) (more : List Item) → ((k == 1) && is_header r) ≡ b
        → map item_written (cond b rs (r ∷ rs)) ≡ map Some more → Apart (items ++ more)
        → ((front rest : List Item) → map item_written rs ≡ map Some rest → Apart (front ++ rest)
        → items_from (k + 1) front rs ≡ Ok (front ++ rest))
        → items_from k items (r ∷ rs) ≡ Ok (items ++ more)
    by true more header w apart next = rw (said-item k items r None long header) (next items more w apart)
    by false [] plain w apart next = cc w
    by false (x ∷ more) plain w apart next =
        let joined = append_assoc items (x ∷ []) more in
        rw (said-item k items r (Some x) long (plain, (cc w), none-before items x more apart))
        (next (items ++ x ∷ []) more (cc w) (rw joined apart) ∙ ap Ok joined)

pub items-are_written : ItemsAreWritten
items-are_written records items = (
  (λ e. let w = from-forth 1 [] records items (omega arith) e in record {
    eleven = w.eleven;
    written = ap (map item_written) (behind-first records) ∙ w.written ∙ ap (λ (l : List Item). map Some l) (sym w.all);
    apart = items-apart 1 records items e;
  }),
  (λ w. from-back 1 [] records items (omega arith) w.eleven (ap (map item_written) (sym (behind-first records))
      ∙ w.written) w.apart),
)
