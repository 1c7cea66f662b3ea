-- An item whose key is past those of others is at the place of none of them.
use Rattle.nr_shifttable.proofs.Common.{◌≡◌, ℕ, ◌+◌, ◌*◌, ◌<◌, ◌≤◌, ◌==◌, ◌&&◌, ◌||◌, false}
use Rattle.nr_shifttable.proofs.Common.{List, [], ◌∷◌, refl, ap, ◌∙◌, arith, nat_tests, All-head, All-tail, Graph, Item}
use Rattle.nr_shifttable.proofs.Common.{graph_eq, has_place, AreBefore, One, Two, item_key, key_of}

-- in one base graph
rows-apart : (n r s c d : ℕ) → n + 68 * r + c < n + 68 * s + d → ((r == s) && (c == d)) ≡ false
rows-apart n r s c d lt = grind (arith, nat_tests)

-- items at one place have one key
keys-apart : (g h : Graph) (r s c d : ℕ) → key_of g r c < key_of h s d → (graph_eq g h && (r == s) && (c == d)) ≡ false
keys-apart One One r s c d lt = rows-apart 0 r s c d lt
keys-apart One Two r s c d lt = refl
keys-apart Two One r s c d lt = refl
keys-apart Two Two r s c d lt = rows-apart 4096 r s c d lt

pub past-no_place : (items : List Item) (past : ℕ) (item : Item) → AreBefore past items → past ≤ item_key item
    → has_place items item ≡ false
past-no_place [] past item before le = refl
past-no_place (x ∷ xs) past item before le =
    let first : item_key x < past = All-head (λ y. item_key y < past) x xs before in
    let lt : item_key x < item_key item = omega arith in
    ap (λ b. b || has_place xs item) (keys-apart x.graph item.graph x.entry.row item.entry.row x.entry.col item.entry.col lt)
    ∙ past-no_place xs past item (All-tail (λ y. item_key y < past) x xs before) le
