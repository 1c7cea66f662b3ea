-- The set that a lifting size is in, by its set index.
use Rattle.nr_lifting.proofs.Names.{Bool, List, [], ap, false, get_or, get_or_past, refl, rules, subst, sym, true, ℕ, ◌==◌}
use Rattle.nr_lifting.proofs.Names.{◌∙◌, ◌≡◌, ◌≤◌, eqb-true}
use Rattle.nr_lifting.specs.{Blocks.IsSize, Sizes.sizes, Sizes.is_in, Sizes.set_index, Sizes.size_sets}
use Rattle.std.proofs.{Common.Option, Common.Some, Common.None, Common.IsSome, lemmas.Bool.true≢false}
use Rattle.std.{specs.List.list_all, proofs.lemmas.List.Folds.Any-from_list_any, proofs.lemmas.List.Sums.AllPass-from_list_all}

-- what is true of each number of a list is true of a number in it
pub all_listed : (test : ℕ → Bool) (xs : List ℕ) (z : ℕ) → list_all test xs ≡ true → is_in z xs ≡ true
    → test z ≡ true
all_listed test xs z all listed =
    let at = Any-from_list_any (λ x. x == z) xs listed in
    subst (λ n. test n ≡ true) (at.3 ∙ eqb-true at.1 z at.4) (AllPass-from_list_all test xs all at.0 at.1 at.2)

-- whether a number is in the set of this index
abbrev is_member : ℕ → Option ℕ → Bool
is_member z (Some k) = is_in z (get_or size_sets k [])
is_member z None = false

-- each of the 51 sizes is in the set of its index
member : (z : ℕ) → IsSize z → is_member z (set_index z) ≡ true
unfolding set_index
member z size = all_listed (λ n. is_member n (set_index n)) sizes z refl size

pub member_at : (z k : ℕ) → IsSize z → set_index z ≡ Some k → is_in z (get_or size_sets k []) ≡ true
member_at z k size e = sym (ap (is_member z) e) ∙ member z size

-- no index is above 7
pub member_past : (z k : ℕ) → IsSize z → set_index z ≡ Some k → 8 ≤ k → ⊥
member_past z k size e h =
    true≢false (sym (member_at z k size e) ∙ ap (is_in z) (get_or_past size_sets k [] h))

-- and each size has one
pub member_some : (z : ℕ) (o : Option ℕ) → IsSize z → o ≡ set_index z → IsSome o
member_some z (Some k) size e = search rules
member_some z None size e = absurd (true≢false (sym (member z size) ∙ ap (is_member z) (sym e)))
