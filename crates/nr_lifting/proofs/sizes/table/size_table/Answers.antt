-- The sizes of the eight sets are brought into ascending order by swaps, the last of the list first.
use Rattle.nr_lifting.proofs.Names.{List, [], refl, rules, ℕ, ◌∷◌}
use Rattle.nr_lifting.specs.Sizes.{climbs}
use Rattle.nr_lifting.proofs.sizes.table.size_table.Goals as goal

moves : List (ℕ × ℕ)
moves =
    (49, 50) ∷ (48, 50) ∷ (47, 48) ∷ (46, 48) ∷ (45, 50) ∷ (44, 45) ∷ (43, 45) ∷ (42, 43) ∷ (41, 43)
    ∷ (40, 47) ∷
    (39, 43) ∷ (38, 43) ∷ (37, 49) ∷ (36, 43) ∷ (35, 44) ∷ (34, 46) ∷ (33, 38) ∷ (32, 37) ∷ (31, 32)
    ∷ (30, 31) ∷
    (29, 48) ∷ (28, 42) ∷ (27, 43) ∷ (26, 42) ∷ (25, 37) ∷ (24, 42) ∷ (23, 31) ∷ (22, 35) ∷ (21, 47)
    ∷ (20, 25) ∷
    (19, 42) ∷ (18, 41) ∷ (17, 36) ∷ (16, 18) ∷ (15, 30) ∷ (14, 16) ∷ (13, 46) ∷ (12, 24) ∷ (11, 41) ∷ (9, 35) ∷
    (8, 17) ∷ (7, 29) ∷ (6, 8) ∷ (5, 23) ∷ (4, 9) ∷ (3, 16) ∷ (2, 8) ∷ (1, 8) ∷ []

pub returns-clause-sound : goal.returns-clause-sound
unfolding moves climbs
returns-clause-sound c = record {
  same = record { moves = moves; below = search rules; is = refl };
  steps = refl;
}
