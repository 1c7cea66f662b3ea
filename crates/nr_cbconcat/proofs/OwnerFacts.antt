-- Places of joined lists, and their owners.
use Rattle.std.proofs.Common.{◌≡◌, ℕ, suc, zero, ◌+◌, ◌-◌, ◌<◌, ◌≤◌, ◌⊎◌, inl, inr, true, false}
use Rattle.std.proofs.Common.{nat_lt, List, [], ◌∷◌, sum, take, refl, sym, zero-add, ◌∙◌, ap, subst, arith}
use Rattle.std.proofs.lemmas.Bool.Decides.{nat_tests}
use Rattle.std.proofs.lemmas.Bool.{cases_lt}
use Rattle.std.proofs.lemmas.List.Sums.{sum_by-cons}
use Rattle.nr_cbconcat.specs.Concatenation.{IsOwner, owner_of, HasOneOwner}

sum-cons : (e : ℕ) (lengths : List ℕ) → sum (e ∷ lengths) ≡ e + sum lengths
sum-cons = sum_by-cons (λ (x : ℕ). x)

-- the owner of a place within the first code block, and of one after it
owner-first : (e : ℕ) (lengths : List ℕ) (m : ℕ) → m < e → (0, m) ≡ owner_of (e ∷ lengths) m
owner-first e lengths m below = let is : nat_lt m e ≡ true = grind (arith, nat_tests) in rw is refl

owner-later : (e : ℕ) (lengths : List ℕ) (m : ℕ) → e ≤ m
    → (1 + (owner_of lengths (m - e)).0, (owner_of lengths (m - e)).1) ≡ owner_of (e ∷ lengths) m
owner-later e lengths m behind = let is : nat_lt m e ≡ false = grind (arith, nat_tests) in rw is refl

pub owner-only : (lengths : List ℕ) (m r p : ℕ) → IsOwner lengths m r p → (r, p) ≡ owner_of lengths m
owner-only [] m r p owner = let block : r < 0 = owner.block in let none : ⊥ = omega arith in absurd none
owner-only (e ∷ lengths) m zero p owner = grind (arith, owner-first)
owner-only (e ∷ lengths) m (suc r) p owner =
    let front = sum-cons e (take r lengths) in
    let joined = owner.joined in
    let block = owner.block in
    let rest : (r, p) ≡ owner_of lengths (m - e) =
    owner-only lengths (m - e) r p
    (record { block = omega arith; inside = owner.inside; joined = omega arith }) in
    let next : suc r ≡ 1 + r = omega arith in
    ap (λ n. (n, p)) next ∙ ap (λ (q : ℕ × ℕ). (1 + q.0, q.1)) rest ∙ owner-later e lengths m (omega arith)

-- one more code block is before the owner
owner-behind : (e : ℕ) (lengths : List ℕ) (m r p : ℕ) → e ≤ m → IsOwner lengths (m - e) r p
    → IsOwner (e ∷ lengths) m (1 + r) p
owner-behind e lengths m r p behind rest = grind (arith, sum-cons)

pub owner-is : (lengths : List ℕ) (m : ℕ) → m < sum lengths
    → IsOwner lengths m (owner_of lengths m).0 (owner_of lengths m).1
owner-is [] m inside = let below : m < 0 = inside in let none : ⊥ = omega arith in absurd none
owner-is (e ∷ lengths) m inside = go (λ less. owner-is lengths (m - e) less) (cases_lt m e)
  where
    goal : ℕ × ℕ → Type 0
    goal q = IsOwner (e ∷ lengths) m q.0 q.1

    go : (m - e < sum lengths → IsOwner lengths (m - e) (owner_of lengths (m - e)).0 (owner_of lengths (m - e)).1)
        → (m < e) ⊎ (e ≤ m) → goal (owner_of (e ∷ lengths) m)
    go later (inl below) =
        let all = sum-cons e lengths in
        subst goal (owner-first e lengths m below)
        (record { block = omega arith; inside = below; joined = sym (zero-add m) })
    go later (inr behind) =
        let all = sum-cons e lengths in
        subst goal (owner-later e lengths m behind)
        (owner-behind e lengths m (owner_of lengths (m - e)).0 (owner_of lengths (m - e)).1 behind
        (later (omega arith)))

pub one-owner : (lengths : List ℕ) (m : ℕ) → m < sum lengths → HasOneOwner lengths m
one-owner lengths m inside = record { owner = owner-is lengths m inside; only = owner-only lengths m }
