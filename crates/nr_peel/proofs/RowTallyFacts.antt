-- What a tally of a row counts, and that a row is within the word.
use Rattle.nr_peel.proofs.Common.{◌≡◌, ℕ, ◌+◌, ◌*◌, ◌<◌, ◌≤◌, ◌||◌, ◌&&◌, nat_lt, Bool, false}
use Rattle.nr_peel.proofs.Common.{List, length, get_or, take, refl, arith, zero, suc, All, count_by, and_parts, and_from, eqb-true}
use Rattle.std.proofs.lemmas.List.Elements.{All-get_or}
use Rattle.nr_peel.proofs.Common.{eq-eqb, get_or-map, length-map, numbers, Entry, IsTable, entries_in, row_of, IsDistinctRow}
use Rattle.nr_peel.proofs.Common.{any_below, fixes, stands, lacks_one, lifted_checks, Lifted, nat_tests}
use Rattle.nr_peel.proofs.{ClosureFacts.same_truth, TieFacts.row_columns, CodewordFacts.only_fixes, CodewordFacts.stands_once}
use Rattle.nr_peel.proofs.RowPositionFacts.{count_more, fixed_counted, only_here}

-- two tests of the numbers below n that agree
pub any_below-same : (f g : ℕ → Bool) (n : ℕ) → ((k : ℕ) → k < n → f k ≡ g k) → any_below f n ≡ any_below g n
any_below-same f g zero h = refl
any_below-same f g (suc n) h = grind (arith, any_below-same f g n (λ k lt. h k (omega arith)), h n (omega arith))

-- one more position: whether any is counted, and whether several are
pub tally_ones : (U : ℕ → Bool) (ps : List ℕ) (n p : ℕ) (a b : Bool) → n < length ps → get_or ps n 0 ≡ p
    → a ≡ nat_lt 0 (count_by U (take n ps)) → b ≡ (a || U p) → b ≡ nat_lt 0 (count_by U (take (n + 1) ps))
tally_ones U ps n p a b lt is so now = grind (arith, nat_tests, count_more U ps n 0 lt)

pub tally_more : (U : ℕ → Bool) (ps : List ℕ) (n p : ℕ) (a d b : Bool) → n < length ps → get_or ps n 0 ≡ p
    → a ≡ nat_lt 0 (count_by U (take n ps)) → d ≡ nat_lt 1 (count_by U (take n ps)) → b ≡ (d || (a && U p))
    → b ≡ nat_lt 1 (count_by U (take (n + 1) ps))
tally_more U ps n p a d b lt is one so now = grind (arith, nat_tests, count_more U ps n 0 lt)

-- the first position: a tally that begins with it
pub first_ones : (U : ℕ → Bool) (ps : List ℕ) (p : ℕ) (b : Bool) → 0 < length ps → get_or ps 0 0 ≡ p → b ≡ U p
    → b ≡ nat_lt 0 (count_by U (take 1 ps))
first_ones U ps p b lt is now = tally_ones U ps 0 p false b lt is refl now

pub first_more : (U : ℕ → Bool) (ps : List ℕ) (b : Bool) → 0 < length ps → b ≡ false
    → b ≡ nat_lt 1 (count_by U (take 1 ps))
first_more U ps b lt now = tally_more U ps 0 (get_or ps 0 0) false false b lt refl refl refl now

-- an entry of a row of blocks is within the word
pub column_fits : (es : List Entry) (none : Entry) (i col z n : ℕ) → All (λ e. (e.col + 1) * z ≤ n) es → i < length es
    → col ≡ (get_or es i none).col → col * z + z ≤ n
column_fits es none i col z n all inside is =
    rw is (omega (arith, All-get_or (λ (e : Entry). (e.col + 1) * z ≤ n) es i none inside all))

-- what closes the loop over the entries of a row of blocks
pub ruleset tally_rules = (first_ones, first_more, tally_ones, tally_more, get_or-map, length-map, column_fits)

-- each entry of a row of blocks is within the word
pub row_fits : (l : Lifted) (es : List Entry) (i n : ℕ) → IsTable l.table.now
    → es ≡ row_of (entries_in l.plan.graph l.table.now) i → n ≡ (lifted_checks l).size
    → All (λ e. (e.col + 1) * l.plan.z ≤ n) es
row_fits l es i n table is long =
    rw (is, long) (row_columns l.table.now l.plan.graph (numbers l.plan) table l.plan.sound.size_some i)

-- a row with one position outside a set fixes it
pub one_is_fixed : (S : ℕ → Bool) (row : List ℕ) (p : ℕ) → IsDistinctRow row → S p ≡ false
    → (lacks_one S row && stands p row) ≡ fixes S row p
one_is_fixed S row p distinct out =
    grind (arith, nat_tests, same_truth, and_parts, only_fixes, only_here, eqb-true, and_from, eq-eqb, fixed_counted, stands_once)
