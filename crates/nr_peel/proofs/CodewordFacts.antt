-- Words on closures, stopping sets, and what a peeler that has nothing more to fix knows.
use Rattle.nr_peel.proofs.Common.{◌≤◌, ◌&&◌, eq-eqb, true_from_ne_false, ◌≡◌, ℕ, ◌==◌, ◌||◌, Bool, true}
use Rattle.nr_peel.proofs.Common.{false, not, List, [], ◌∷◌, refl, sym, ◌∙◌, arith, list_all, and_parts, and_from}
use Rattle.nr_peel.proofs.Common.{true≢false, ◌⊕◌, parity, Checks, Meets, AgreeOn, IsDistinctRow, AreSound, IsStopping}
use Rattle.nr_peel.proofs.Common.{Meets-each, Within, closure, fixes, stands, times_in, IsClosed, IsOnlyMissing, LacksNoneOrSeveral}
use Rattle.std.specs.Bool.{beq}
use Rattle.nr_peel.proofs.RowPositionFacts.{all_more, count_alike, count_by-cons, fixed_counted, only_from_count, some_counted}
use Rattle.nr_peel.proofs.ClosureFacts.{closure_closed, closure_keeps, closure_least}

-- two words agree at each position but p
abbrev agree_but : (ℕ → Bool) → (ℕ → Bool) → ℕ → List ℕ → Bool
agree_but v w p row = list_all (λ q. (q == p) || beq (v q) (w q)) row

-- if two words agree at every other position, their sums differ as the words do at one that is there at most once
sums_differ : (v w : ℕ → Bool) (p : ℕ) (row : List ℕ) → times_in p row ≤ 1 → agree_but v w p row ≡ true
    → (parity v row ⊕ parity w row) ≡ ((times_in p row == 1) && (v p ⊕ w p))
sums_differ v w p [] once h = refl
sums_differ v w p (x ∷ row) once h =
    let parts = and_parts ((x == p) || beq (v x) (w x)) (agree_but v w p row) h in
    let rest = sums_differ v w p row (omega (arith, count_by-cons (λ q. q == p) x row)) parts.1 in
    grind (arith, count_by-cons (λ q. q == p) x row)

-- a position occurs once in a sound row
pub stands_once : (p : ℕ) (row : List ℕ) → IsDistinctRow row → stands p row ≡ true → times_in p row ≡ 1
stands_once p row distinct h = omega (arith, some_counted (λ q. q == p) row p h (eq-eqb p p refl))

pub words_agree : (c : Checks) (S v w : ℕ → Bool) → AreSound c → Meets c v → Meets c w → AgreeOn S v w
    → AgreeOn (closure c S) v w
words_agree c S v w sound mv mw agree p h =
    let closed : IsClosed c (λ q. beq (v q) (w q)) = λ i t q li lt f. (
    let row = c.row i t in
    let parts = and_parts (stands q row) (agree_but v w q row) f in
    let distinct = sound.distinct i t li lt in
    grind (
      arith,
      Meets-each c v mv i t li lt,
      Meets-each c w mw i t li lt,
      sums_differ v w q row (distinct q) parts.1,
      stands_once q row distinct parts.0,
    )) in
    grind (arith, closure_least c S (λ q. beq (v q) (w q)) (λ q s. grind arith) closed p h)

-- the value that a row forces at its only unknown position: the sum of the known bits, which are zero at unknown
-- positions
pub forced_bit : (w k : ℕ → Bool) (S : ℕ → Bool) (p : ℕ) (row : List ℕ) → IsDistinctRow row → parity w row ≡ false
    → IsOnlyMissing S row p → k p ≡ false
    → ((q : ℕ) → S q ≡ true → w q ≡ k q) → w p ≡ parity k row
forced_bit w k S p row distinct sum only zero agree =
    let others = all_more (λ q. (q == p) || S q) (λ q. (q == p) || beq (w q) (k q)) row (λ q _ h. grind arith) only.others in
    grind (arith, sums_differ w k p row (distinct p) others, stands_once p row distinct only.stands_there)

-- a set to which no row adds anything is closed
lacking_closed : (c : Checks) (K : ℕ → Bool) → AreSound c → LacksNoneOrSeveral c K → IsClosed c K
lacking_closed c K sound lacks i t q li lt f = true_from_ne_false (K q) (λ e.
    lacks i t li lt (fixed_counted K q (c.row i t) e f
    ∙ stands_once q (c.row i t) (sound.distinct i t li lt) (and_parts (stands q (c.row i t)) _ f).0))

-- no member of a stopping set is in the closure
pub stopping_stays_out : (c : Checks) (S U : ℕ → Bool) (p : ℕ) → AreSound c → IsStopping c S U → U p ≡ true
    → closure c S p ≡ false
stopping_stays_out c S U p sound stop member =
    let lacks : LacksNoneOrSeveral c (λ q. not (U q)) =
    λ i t li lt one. stop.never_one i t li lt (sym (count_alike (λ r. not (not (U r))) U (λ r. grind arith) (c.row i t))
    ∙ one) in
    let least = closure_least c S (λ q. not (U q)) (λ q s. grind arith) (lacking_closed c (λ q. not (U q)) sound lacks) p in
    grind arith

-- the only position of a row outside a set is fixed
pub only_fixes : (S : ℕ → Bool) (row : List ℕ) (p : ℕ) → IsOnlyMissing S row p → fixes S row p ≡ true
only_fixes S row p only = and_from (stands p row) (list_all (λ q. (q == p) || S q) row) only.stands_there only.others

pub left_over_stops : (c : Checks) (S : ℕ → Bool) → AreSound c → IsStopping c S (λ p. not (closure c S p))
left_over_stops c S sound = record {
  beside = λ p h. grind (arith, closure_keeps c S p);
  never_one = λ i t li lt h. (
      let r = only_from_count (closure c S) (c.row i t) h in
      true≢false (sym (closure_closed c S sound i t r.pos li lt (only_fixes (closure c S) (c.row i t) r.pos r.only))
      ∙ r.only.missing));
}

-- known positions are the closure, if no row adds to them and they are in the closure
pub done_is_closure : (c : Checks) (S K : ℕ → Bool) → AreSound c → Within S K → Within K (closure c S)
    → LacksNoneOrSeveral c K → (p : ℕ) → K p ≡ closure c S p
done_is_closure c S K sound up inside lacks p = grind (arith, inside p, closure_least c S K up (lacking_closed c K sound lacks) p)
