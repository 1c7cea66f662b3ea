-- Columns that are put in a word, as the code puts them.
use Rattle.nr_ldpcenc.proofs.Common.{◌≡◌, ℕ, ◌+◌, ◌-◌, ◌*◌, ◌%◌, ◌<◌, ◌≤◌, Bool, sym, ap, subst}
use Rattle.nr_ldpcenc.proofs.Common.{◌∙◌, mod_below, Lifting, head_sum, core_sum, core_rotation, row_ending, IsSolvedTo}
use Rattle.nr_ldpcenc.{proofs.Common.AgreeBelow, specs.inside.Solving.unrotate}
use Rattle.nr_ldpcenc.proofs.SolvedColumnFacts.{solved_first, solved_more}
use Rattle.std.proofs.Math.Nat.{add-mod-mod}

module _ (l : Lifting) (pos : 0 < l.z) (old new sums : ℕ → Bool) (at : ℕ) where
  -- the first parity column
  pub first_put : (rot p : ℕ) → at ≡ l.info_cols * l.z → rot ≡ core_rotation l → p ≡ (l.z - rot % l.z) % l.z
      → AgreeBelow at old new
      → ((u : ℕ) → u < l.z → new (at + u) ≡ sums ((u + p) % l.z))
      → ((t : ℕ) → t < l.z → sums t ≡ core_sum l old t) → IsSolvedTo l 1 new
  first_put rot p is_at is_rot is_rotation before put sum =
      solved_first l pos old new (subst (λ m. AgreeBelow m old new) is_at before) here
    where
      rotation : (u : ℕ) → (u + p) % l.z ≡ unrotate l.z (core_rotation l) u
      rotation u =
          ap (λ q. (u + q) % l.z) is_rotation ∙ add-mod-mod u (l.z - rot % l.z) l.z
          ∙ ap (λ r. (u + (l.z - r % l.z)) % l.z) is_rot

      here : (u : ℕ) → u < l.z → new (l.info_cols * l.z + u) ≡ core_sum l old (unrotate l.z (core_rotation l) u)
      here u lt =
          ap (λ m. new (m + u)) (sym is_at) ∙ put u lt ∙ ap sums (rotation u)
          ∙ sum (unrotate l.z (core_rotation l) u) (mod_below (u + (l.z - core_rotation l % l.z)) l.z pos)

  -- a later parity column
  pub next_put : (i : ℕ) → at ≡ (l.info_cols + i) * l.z → 1 ≤ i → IsSolvedTo l i old → AgreeBelow at old new
      → ((t : ℕ) → t < l.z → new (at + t) ≡ sums t)
      → ((t : ℕ) → t < l.z → sums t ≡ head_sum l old (l.info_cols + i) (row_ending i) t) → IsSolvedTo l (i + 1) new
  next_put i is_at some solved before put sum =
      solved_more l pos i old new some solved (subst (λ m. AgreeBelow m old new) is_at before)
      (λ t lt. ap (λ m. new (m + t)) (sym is_at) ∙ put t lt ∙ sum t lt)
