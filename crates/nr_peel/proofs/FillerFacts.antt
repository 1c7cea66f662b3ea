-- Lists of marks: the fillers of a plan.
use Rattle.nr_peel.proofs.Common.{get_or-replicate_same, ◌≡◌, ℕ, ◌+◌, ◌*◌, ◌<◌, ◌≤◌, ◌==◌, ◌||◌}
use Rattle.nr_peel.proofs.Common.{Bool, true, List, length, map, arith, range_with_len, mul-le-mul_right, cases_lt, lt-ltb}
use Rattle.nr_peel.proofs.Common.{and_from, get_or_past, length-replicate, length-set, get_or_default, bit, cols_of, Numbers}
use Rattle.nr_peel.proofs.Common.{filler, Checks, Within, fillers, Lifted, nat_tests}
use Rattle.nr_peel.proofs.TieFacts.{bit-mark}
use Rattle.std.proofs.lemmas.{Bool.le-leb, List.same_lists}
use Rattle.std.proofs.lemmas.List.FromFn.{get_or-map-range_with_len, length-map-range_with_len}

-- the fillers are positions
pub fillers_fit : (l : Lifted) → l.plan.k ≤ cols_of l.plan.graph * l.plan.z
fillers_fit l = grind (arith, mul-le-mul_right)

-- one more filler
pub filler_more : (kdash n q : ℕ) → kdash ≤ n → (filler kdash n q || (n == q)) ≡ filler kdash (n + 1) q
filler_more kdash n q le = grind (arith, nat_tests)

pub fillers_are : (kdash k last size : ℕ) (xs : List Bool) → last ≡ k → length xs ≡ size
    → ((q : ℕ) → bit xs q ≡ filler kdash last q) → xs ≡ map (filler kdash k) (range_with_len 0 size)
fillers_are kdash k last size xs end long each =
    grind (arith, same_lists, length-map-range_with_len, get_or_default, get_or-map-range_with_len)

pub fillers_long : (c : Checks) (p : Numbers) → length (fillers c p) ≡ c.size
fillers_long c p = length-map-range_with_len (filler p.kdash p.k) 0 c.size

-- only fillers have marks
pub fillers_within : (c : Checks) (p : Numbers) → Within (bit (fillers c p)) (filler p.kdash p.k)
fillers_within c p q h = grind (arith, nat_tests, cases_lt, get_or-map-range_with_len, get_or_past, fillers_long)

-- each filler is marked
pub fillers_there : (c : Checks) (p : Numbers) (q : ℕ) → p.kdash ≤ q → q < p.k → p.k ≤ c.size
    → bit (fillers c p) q ≡ true
fillers_there c p q low below fits = grind (arith, nat_tests, get_or-map-range_with_len, and_from, le-leb, lt-ltb)

-- what a loop over the fillers cites
pub ruleset filler_facts = (nat_tests, fillers_fit, get_or-replicate_same, filler_more, length-replicate, length-set, bit-mark)
