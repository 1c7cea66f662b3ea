-- Steps one after another, row of blocks by row of blocks.
use Rattle.nr_peel.proofs.Common.{false, ◌≡◌, ℕ, ◌≤◌, ◌==◌, ◌||◌, Bool, true, not, List, [], ◌++◌, refl}
use Rattle.nr_peel.proofs.Common.{sym, ap, ◌∙◌, arith, append_assoc, count_by, or_left, false≢true, append-nil}
use Rattle.nr_peel.proofs.Common.{list_any-append, bit, Checks, Within, is_fixed_by, after_steps, AreLanes, Fixes, Fix, Lanes}
use Rattle.nr_peel.proofs.{Common.Order, Common.length, Common.told, Common.steps_below, RowPositionFacts.count_within}
use Rattle.nr_peel.{specs.inside.Certificates.AddsSteps, proofs.FixOrderFacts.accepted_after, proofs.FixOrderFacts.after_accepted}
use Rattle.nr_peel.proofs.StepFacts.{steps_none}
use Rattle.std.proofs.Math.Bool.{or-false}

-- fewer positions of a list are outside a larger set
pub count_fewer : (S T : ℕ → Bool) → Within S T → (xs : List ℕ)
    → count_by (λ p. not (T p)) xs ≤ count_by (λ p. not (S p)) xs
count_fewer S T within = count_within (λ p. not (T p)) (λ p. not (S p)) (λ p. grind (arith, within p))

-- ---- steps one after another

pub fixed_append : (xs ys : List Fix) (p : ℕ) → is_fixed_by (xs ++ ys) p ≡ (is_fixed_by xs p || is_fixed_by ys p)
fixed_append xs ys p = list_any-append (λ s. s.pos == p) xs ys

pub fixed_twice : (xs ys : List Fix) (x y w : Bool) (p : ℕ) → y ≡ (x || is_fixed_by xs p) → w ≡ (y || is_fixed_by ys p)
    → w ≡ (x || is_fixed_by (xs ++ ys) p)
fixed_twice xs ys x y w p one two = grind (arith, fixed_append xs ys p)

-- what either fixes was not known before
pub missed : (xs ys : List Fix) (x y : Bool) (p : ℕ) → y ≡ (x || is_fixed_by xs p)
    → (is_fixed_by xs p ≡ true → x ≡ false) → (is_fixed_by ys p ≡ true → y ≡ false)
    → is_fixed_by (xs ++ ys) p ≡ true → x ≡ false
missed xs ys x y p known one two h = grind (arith, fixed_append xs ys p)

-- what is kept of steps
told_none : (kept : Bool) → told kept [] ≡ []
told_none true = refl
told_none false = refl

told_then : (kept : Bool) (xs ys : List Fix) → told kept (xs ++ ys) ≡ told kept xs ++ told kept ys
told_then true xs ys = refl
told_then false xs ys = refl

pub told_few : (kept : Bool) (xs : List Fix) → length (told kept xs) ≤ length xs
told_few true xs = omega arith
told_few false xs = omega arith

pub told_all : (kept : Bool) (xs : List Fix) → kept ≡ true → told kept xs ≡ xs
told_all kept xs is = rw is refl

pub adds_none : (x : Order) → AddsSteps [] x x
adds_none x = record {
  order = sym (ap (λ v. x.list.items ++ v) (told_none x.kept) ∙ append-nil x.list.items);
  capacity = refl;
  same = refl;
}

-- no step without a mark
pub adds_nothing : (step : ℕ → Fix) (u : ℕ → Bool) (n : ℕ) (x : Order) → ((t : ℕ) → u t ≡ false)
    → AddsSteps (steps_below step u n) x x
adds_nothing step u n x none = rw (steps_none step u 0 n (omega arith) (λ t _ _. none t)) (adds_none x)

pub adds_then : {x y w : Order} (xs ys : List Fix) → AddsSteps xs x y → AddsSteps ys y w → AddsSteps (xs ++ ys) x w
adds_then {x} {y} {w} xs ys f g = record {
  order = g.order ∙ ap (λ k. y.list.items ++ told k ys) f.same ∙ ap (λ v. v ++ told x.kept ys) f.order
      ∙ append_assoc x.list.items (told x.kept xs) (told x.kept ys)
      ∙ ap (λ v. x.list.items ++ v) (sym (told_then x.kept xs ys));
  capacity = g.capacity ∙ f.capacity;
  same = g.same ∙ f.same;
}

abbrev pub fixes_none : {W D : ℕ} → (c : Checks) (K : ℕ → Bool) (a : Lanes W D) (x : Order) → AreLanes c a
    → Fixes c K a a x x
fixes_none c K a x lanes = record {
  steps = [];
  known = λ p. sym (or-false (bit a.known.items p));
  adds = adds_none x;
  missing = λ p h. absurd (false≢true h);
  accepted = λ S m. refl;
  kept = λ p h. refl;
  words = λ w m h. h;
  lanes = lanes;
}

-- steps that are accepted from a set, followed by others that are accepted from a larger one
abbrev pub fixes_then : {W D : ℕ} → {c : Checks} {K M : ℕ → Bool} {a b d : Lanes W D} {x y w : Order} → Within M K
    → Fixes c K a b x y → Fixes c M b d y w → Fixes c K a d x w
fixes_then {c} {K} {M} {a} {b} {d} {x} more f g = record {
  steps = f.steps ++ g.steps;
  known =
      λ p. fixed_twice f.steps g.steps (bit a.known.items p) (bit b.known.items p) (bit d.known.items p) p (f.known p) (g.known p);
  adds = adds_then f.steps g.steps f.adds g.adds;
  missing = λ p. missed f.steps g.steps (bit a.known.items p) (bit b.known.items p) p (f.known p) (f.missing p) (g.missing p);
  accepted = λ S m. accepted_after c S f.steps g.steps (f.accepted S m)
      (g.accepted (after_steps c S f.steps)
      (λ p k. after_accepted c S f.steps p (f.accepted S m) ∙ or_left (S p) (is_fixed_by f.steps p) (m p (more p k))));
  kept = λ p k. g.kept p (f.known p ∙ or_left (bit a.known.items p) (is_fixed_by f.steps p) k) ∙ f.kept p k;
  words = λ w m h. g.words w m (f.words w m h);
  lanes = g.lanes;
}

-- nothing known is lost
pub known_more : {W D : ℕ} → (c : Checks) (K : ℕ → Bool) (a d : Lanes W D) {x y : Order} → Fixes c K a d x y
    → Within (bit a.known.items) (bit d.known.items)
known_more c K a d f p k = f.known p ∙ or_left (bit a.known.items p) (is_fixed_by f.steps p) k
