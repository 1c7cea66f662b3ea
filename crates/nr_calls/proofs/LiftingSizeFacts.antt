-- Which lifting sizes the code blocks of a base graph have.
use Rattle.nr_calls.proofs.Common.{Result, Ok, Err, refl, sym, ◌∙◌, list_all, Graph, One, Two, set_index, Numbers, can_lift}
use Rattle.nr_calls.proofs.Common.{inl, inr, arith, ◌≡◌, ℕ, ◌*◌, ◌==◌, ◌||◌, not, nat_le, Bool, true, false}
use Rattle.nr_calls.specs.inside.Words.{held_columns}
use Rattle.std.proofs.lemmas.Bool.{cases_Bool, true≢false}
use Rattle.nr_lifting.{specs.Sizes.least_size, specs.Sizes.sizes, proofs.SetIndexFacts.all_listed}
use Rattle.nr_segment.specs.Plan.{info_columns, lifting_size, numbers_of, plan_of}
use Rattle.nr_segment.specs.declared.numbers.SegFault.{SegFault}

-- a plan has this lifting size
abbrev pub has_size : ℕ → Result Numbers SegFault → Bool
has_size z (Ok p) = p.z == z
has_size z (Err e) = false

-- the bits that its columns hold have a plan with it, if they are enough for a code block
abbrev lifts : Graph → ℕ → Bool
lifts g z = not (nat_le 24 (info_columns g 24 * z)) || has_size z (plan_of g (held_columns g z * z))

all_lift : (g : Graph) → list_all (lifts g) sizes ≡ true
unfolding plan_of numbers_of lifting_size least_size set_index
all_lift One = refl
all_lift Two = refl

-- a size that code blocks have is that of the plan
lifted : (g : Graph) (z : ℕ) → can_lift g z ≡ true → has_size z (plan_of g (held_columns g z * z)) ≡ true
lifted g z can = grind (arith, all_listed (lifts g) sizes z (all_lift g))

-- if the plan has another size, or there is none, code blocks do not have the size
pub not_lifted : (g : Graph) (z b : ℕ) → b ≡ held_columns g z * z → has_size z (plan_of g b) ≡ false
    → can_lift g z ≡ false
not_lifted g z b is other = elim (cases_Bool (can_lift g z)) [
  | inl can ↦ absurd (true≢false (sym (lifted g z can) ∙ rw is at other))
  | inr cannot ↦ cannot
]
