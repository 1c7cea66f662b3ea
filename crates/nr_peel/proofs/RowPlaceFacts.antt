-- Where a position's rows are: a row by its number, and its lane by a rotation.
use Rattle.nr_peel.proofs.Common.{nat_tests, ◌≡◌, ℕ, ◌+◌, ◌-◌, ◌*◌, ◌/◌, ◌%◌, ◌<◌, ◌≤◌}
use Rattle.nr_peel.proofs.Common.{◌==◌, ◌&&◌, arith, List, [], length, get_or, cases_lt, mod_below, div-add-mod'}
use Rattle.nr_peel.proofs.Common.{div-mul-add, mod-mul-add, mod-eq_of_lt, Entry, one_at, unrotate, get_or-map, length-map, numbers}
use Rattle.nr_peel.proofs.Common.{IsTable, entries_in, row_of, value_in, lifted_checks, Lifted}
use Rattle.nr_peel.proofs.TieFacts.{row_columns}
use Rattle.std.proofs.Math.Nat.{add-mod_left}

pub mod_high : (s z : ℕ) → z ≤ s → s < 2 * z → s % z ≡ s - z
mod_high s z le lt = grind (arith, nat_tests, add-mod_left, mod-eq_of_lt)

-- a lane that comes to another, and back
pub rotate-eqb : (z v t u : ℕ) → t < z → u < z → (((t + v % z) % z) == u) ≡ (unrotate z v u == t)
rotate-eqb z v t u tl ul = grind (arith, nat_tests, mod_below, cases_lt, mod-eq_of_lt, mod_high)

place_parts : (z a l p : ℕ) → l < z → (a * z + l == p) ≡ ((a == p / z) && (l == p % z))
place_parts z a l p small = grind (arith, nat_tests, div-mul-add, mod-mul-add, div-add-mod')

-- an entry's place is a position if its column and its lane are the position's
pub place-eqb : (z t col v p : ℕ) → t < z → (one_at z t col v == p) ≡ ((col == p / z) && (unrotate z v (p % z) == t))
place-eqb z t col v p tl = grind (arith, place_parts z col ((t + v % z) % z) p, rotate-eqb z v t (p % z), mod_below)

pub place_fits : (z t : ℕ) (e : Entry) (v size : ℕ) → t < z → (e.col + 1) * z ≤ size → one_at z t e.col v < size
place_fits z t e v size lt le = grind (arith, mod_below)

-- ---- an entry of a row, and the position that it has at a lane

pub record IsEntryAt (l : Lifted) (row lane i p : ℕ) : Type 0 where
  pub below : i < length ((lifted_checks l).row row lane)
  pub is : get_or ((lifted_checks l).row row lane) i 0 ≡ p
  pub inside : p < (lifted_checks l).size

pub entry_at : (l : Lifted) (row lane from i p : ℕ) (es : List Entry) → IsTable l.table.now
    → es ≡ row_of (entries_in l.plan.graph l.table.now) row → from ≡ lane → lane < l.plan.z → i < length es
    → p ≡ one_at l.plan.z from (get_or es i (record { row = 0; col = 0; values = [] })).col
    (value_in l.plan.set (get_or es i (record { row = 0; col = 0; values = [] }))) → IsEntryAt l row lane i p
entry_at l row lane from i p es table es_is from_is lt below p_is =
    let none : Entry = record { row = 0; col = 0; values = [] } in
    let f = λ (e : Entry). one_at l.plan.z lane e.col (value_in l.plan.set e) in
    let own = row_of (entries_in l.plan.graph l.table.now) row in
    grind (
      arith,
      length-map own f,
      get_or-map f own i none 0,
      place_fits,
      row_columns l.table.now l.plan.graph (numbers l.plan) table l.plan.sound.size_some row i none,
    )
