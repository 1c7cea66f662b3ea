-- Which bit comes to a place when a block is rotated.
use Rattle.nr_lifting.proofs.Names.{GainsDoubled, IsDoubledLane, cases_lt, mod-eq_of_lt, nat_tests, ◌∙◌, ◌≡◌, ◌≤◌}
use Rattle.nr_lifting.proofs.Names.{IsClear, List, arith, max, mod_once, place, ℕ, ◌%◌, ◌*◌, ◌+◌, ◌-◌, ◌<◌}

-- the places of a lane and those moved up by its size make up the doubled lane
pub twice : (ws : List ℕ) (z t first wrapped : ℕ) → t < 2 * z → IsClear ws z
    → first ≡ place ws t → (t < z → wrapped ≡ 0) → (z ≤ t → wrapped ≡ place ws (t - z))
    → max first wrapped ≡ place ws (t % z)
twice ws z t first wrapped below clear straight low high = grind (arith, nat_tests, cases_lt, mod-eq_of_lt, mod_once)

-- The word from the place on and the word of the wrapped places make up the rotated word. If one has a bit, the other
-- has a zero.
pub rotated : (ws : List ℕ) (z t p first wrapped : ℕ) → t < z → p < z → IsClear ws z
    → first ≡ place ws (t + p) → (t < z - p → wrapped ≡ 0) → (z - p ≤ t → wrapped ≡ place ws (t - (z - p)))
    → max first wrapped ≡ place ws ((t + p) % z)
rotated ws z t p first wrapped below rotation clear straight low high = grind (arith, twice)

-- a doubled lane has each rotated lane in one piece
pub doubled-rotated : (doubled : List ℕ) (z t p : ℕ) → t < z → p < z → IsDoubledLane z doubled
    → place doubled (t + p) ≡ place doubled ((t + p) % z)
doubled-rotated doubled z t p below rotation twice = grind (arith, nat_tests, cases_lt, mod-eq_of_lt, twice, mod_once)

-- a doubled lane that gains a lane in both copies is still doubled
pub doubled-gains : (z : ℕ) (new old words : List ℕ) → IsDoubledLane z old
    → GainsDoubled z new old words → IsDoubledLane z new
doubled-gains z new old words twice gains t below =
    let wraps : (z + t) % z ≡ t = mod_once (z + t) z (omega arith) (omega (arith, below)) ∙ omega arith in
    grind (arith, gains (z + t) (omega (arith, below)), gains t (omega (arith, below)), twice t below, wraps, mod-eq_of_lt below)
