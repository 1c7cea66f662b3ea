-- Steps that are accepted in turn: the set after them, the same from a larger set, and one more step.
use Rattle.nr_peel.proofs.Common.{IsClosed, rules, ◌==◌, ◌||◌, ◌++◌, and_parts, and_from, ltb-true, eqb-true, take_more}
use Rattle.nr_peel.proofs.Common.{◌≡◌, Bool, ◌∷◌, ◌∙◌, append-nil, ◌≢◌, nat_tests, after_steps, is_fixed_by}
use Rattle.nr_peel.proofs.Common.{◌<◌, length, ◌+◌, get_or, lt-ltb, Checks, AreSound, Within, closure, accepts, list_all}
use Rattle.nr_peel.proofs.Common.{[], append_assoc, false_from_ne_true, all_accepted, with_position, list_any-append, list_any_more}
use Rattle.nr_peel.proofs.Common.{arith, false, ℕ, true, List, take, refl, sym, ap, set, fixes, stands, Fix, zero, suc, bit}
use Rattle.nr_peel.{specs.inside.Certificates.Extends, proofs.ClosureFacts.closure_closed, proofs.ClosureFacts.closure_keeps}
use Rattle.nr_peel.proofs.{RowPositionFacts.fixes_more, TieFacts.bit-mark}
use Rattle.std.proofs.lemmas.{Bool.and_left, Bool.and_right, List.Folds.list_all_more, List.Folds.list_all_at}
use Rattle.std.proofs.Math.Seq.{take-append_seam}

-- what an accepted step says
pub record IsAcceptedStep (c : Checks) (S : ℕ → Bool) (s : Fix) : Type 0 where
  pub row : s.row < c.rows
  pub lane : s.lane < c.lanes
  pub pos : s.pos < c.size
  pub fixed : fixes S (c.row s.row s.lane) s.pos ≡ true

pub accepted_says : (c : Checks) (S : ℕ → Bool) (s : Fix) → accepts c S s ≡ true → IsAcceptedStep c S s
accepted_says c S s h = grind (arith, nat_tests, and_parts, ltb-true)

pub step_accepted : (c : Checks) (S : ℕ → Bool) (s : Fix) → s.row < c.rows → s.lane < c.lanes → s.pos < c.size
    → fixes S (c.row s.row s.lane) s.pos ≡ true → accepts c S s ≡ true
step_accepted c S s r l p f = grind (arith, nat_tests, and_from, lt-ltb)

-- a larger set accepts the same steps
pub accepts_more : (c : Checks) (S T : ℕ → Bool) (s : Fix) → Within S T → accepts c S s ≡ true → accepts c T s ≡ true
accepts_more c S T s within h = grind (arith, accepted_says, step_accepted, fixes_more)

pub all_accepted_within : (c : Checks) (S T : ℕ → Bool) (ss : List Fix) → Within S T → all_accepted c S ss ≡ true
    → all_accepted c T ss ≡ true
all_accepted_within c S T [] within h = refl
all_accepted_within c S T (s ∷ ss) within h =
    grind (
      arith,
      accepts_more c S T s within,
      all_accepted_within c (with_position S s.pos) (with_position T s.pos) ss (λ q g. grind arith),
    )

-- accepted steps stay in each closed set that contains the set
steps_within : (c : Checks) (S T : ℕ → Bool) (ss : List Fix) → IsClosed c T → Within S T → Within (after_steps c S ss) T
steps_within c S T [] closed within p h = within p h
steps_within c S T (s ∷ ss) closed within p h =
    let fixed = λ (e : accepts c S s ≡ true). let a = accepted_says c S s e in
    closed s.row s.lane s.pos a.row a.lane (fixes_more S T (c.row s.row s.lane) s.pos within a.fixed) in
    let more =
    λ (e : accepts c S s ≡ true). steps_within c (with_position S s.pos) T ss closed (λ q g. grind (arith, fixed e)) p in
    grind (arith, more)

pub steps_stay : (c : Checks) (S : ℕ → Bool) (ss : List Fix) → AreSound c → Within (after_steps c S ss) (closure c S)
steps_stay c S ss sound = steps_within c S (closure c S) ss (closure_closed c S sound) (closure_keeps c S)

-- after steps that were all accepted, their positions are added
pub after_accepted : (c : Checks) (S : ℕ → Bool) (ss : List Fix) (p : ℕ) → all_accepted c S ss ≡ true
    → after_steps c S ss p ≡ (S p || is_fixed_by ss p)
after_accepted c S [] p h = grind arith
after_accepted c S (s ∷ ss) p h = grind (arith, after_accepted c (with_position S s.pos) ss p)

-- steps after steps, and one more step
pub accepted_after : (c : Checks) (S : ℕ → Bool) (ss ts : List Fix) → all_accepted c S ss ≡ true
    → all_accepted c (after_steps c S ss) ts ≡ true → all_accepted c S (ss ++ ts) ≡ true
accepted_after c S [] ts h k = k
accepted_after c S (x ∷ ss) ts h k = grind (arith, accepted_after c (with_position S x.pos) ss ts)

pub all_accepted-push : (c : Checks) (S : ℕ → Bool) (ss : List Fix) (s : Fix) → all_accepted c S ss ≡ true
    → accepts c (after_steps c S ss) s ≡ true → all_accepted c S (ss ++ s ∷ []) ≡ true
all_accepted-push c S ss s h k = accepted_after c S ss (s ∷ []) h (and_from (accepts c (after_steps c S ss) s) true k refl)

pub is_fixed_by-push : (ss : List Fix) (s : Fix) (p : ℕ) → is_fixed_by (ss ++ s ∷ []) p ≡ (is_fixed_by ss p || (s.pos == p))
is_fixed_by-push ss s p = search (rules, list_any-append)

-- ---- steps that go on

pub goes_none : (ss : List Fix) → Extends ss ss
goes_none ss = record { more = []; is = sym (append-nil ss) }

pub goes_then : (a b d : List Fix) → Extends a b → Extends b d → Extends a d
goes_then a b d one two =
    record { more = one.more ++ two.more; is = two.is ∙ ap (λ v. v ++ two.more) one.is ∙ append_assoc a one.more two.more }

pub goes_taken : (a b : List Fix) → Extends a b → take (length a) b ≡ a
goes_taken a b on = ap (take (length a)) on.is ∙ take-append_seam a on.more

-- ---- the check of a fix order, step by step

-- a step is not accepted if its row doesn't fix its position
pub accepts_without : (c : Checks) (S : ℕ → Bool) (s : Fix) → fixes S (c.row s.row s.lane) s.pos ≡ false
    → accepts c S s ≡ false
accepts_without c S s h = grind (arith, nat_tests, and_right)

-- what the positions of a row so far show about a step
pub record IsWeighed (K : ℕ → Bool) (ps : List ℕ) (pos : ℕ) (there : Bool) (n : ℕ) : Type 0 where
  pub met : there ≡ stands pos (take n ps)
  pub others : list_all (λ q. (q == pos) || K q) (take n ps) ≡ true

module _ (K : ℕ → Bool) (ps : List ℕ) (pos : ℕ) (there : Bool) (n : ℕ) (w : IsWeighed K ps pos there n)
    (lt : n < length ps) where
  pub weighed_pos : get_or ps n 0 ≡ pos → IsWeighed K ps pos true (n + 1)
  weighed_pos e =
      grind (arith, list_any_more (λ q. q == pos) ps n 0 lt, list_all_more (λ q. (q == pos) || K q) ps n 0 lt, w.others)

  pub weighed_known : get_or ps n 0 ≢ pos → K (get_or ps n 0) ≡ true → IsWeighed K ps pos there (n + 1)
  weighed_known ne known =
      grind (arith, list_any_more (λ q. q == pos) ps n 0 lt, list_all_more (λ q. (q == pos) || K q) ps n 0 lt)

-- an unknown position that is not the step's own
pub weighed_out : (K : ℕ → Bool) (ps : List ℕ) (pos n : ℕ) → n < length ps → get_or ps n 0 ≢ pos
    → K (get_or ps n 0) ≡ false → fixes K ps pos ≡ false
weighed_out K ps pos n lt ne out = grind (arith, nat_tests, and_right, list_all_at, false_from_ne_true, eqb-true)

-- the steps so far
pub record IsJudged (c : Checks) (S : ℕ → Bool) (steps : List Fix) (known : List Bool) (n : ℕ) : Type 0 where
  pub accepted : all_accepted c S (take n steps) ≡ true
  pub after : (p : ℕ) → bit known p ≡ after_steps c S (take n steps) p

-- accepting asks only which positions are in the set
pub accepts_alike : (c : Checks) (S T : ℕ → Bool) (s : Fix) → ((p : ℕ) → S p ≡ T p) → accepts c S s ≡ accepts c T s
accepts_alike c S T s same = grind (arith, nat_tests)

pub judged_more : (c : Checks) (S : ℕ → Bool) (steps : List Fix) (known : List Bool) (n : ℕ) (s : Fix)
    → IsJudged c S steps known n → n < length steps → s ≡ get_or steps n s
    → s.pos < length known → accepts c (bit known) s ≡ true → IsJudged c S steps (set known s.pos true) (n + 1)
judged_more c S steps known n s j lt is inside ok =
    let first = take n steps in
    let grown : take (n + 1) steps ≡ first ++ s ∷ [] = take_more steps n s lt ∙ ap (λ x. first ++ x ∷ []) (sym is) in
    let all : all_accepted c S (first ++ s ∷ []) ≡ true =
    all_accepted-push c S first s j.accepted (sym (accepts_alike c (bit known) (after_steps c S first) s j.after) ∙ ok) in
    record {
      accepted = rw grown all;
      after = λ p. rw grown (grind (
        arith,
        bit-mark known s.pos inside p,
        after_accepted c S first p j.accepted,
        is_fixed_by-push first s p,
        after_accepted c S (first ++ s ∷ []) p all,
      ));
    }

-- if a step is not accepted, the order is not, and the set is unchanged
pub refused_here : (c : Checks) (S : ℕ → Bool) (steps : List Fix) (n : ℕ) (s : Fix)
    → all_accepted c S (take n steps) ≡ true → n < length steps → s ≡ get_or steps n s
    → accepts c (after_steps c S (take n steps)) s ≡ false
    → all_accepted c S steps ≡ false × ((p : ℕ) → after_steps c S steps p ≡ after_steps c S (take n steps) p)
refused_here c S [] n s all lt is bad = absurd (omega arith)
refused_here c S (x ∷ steps) zero s all lt is bad = grind (arith, and_left)
refused_here c S (x ∷ steps) (suc n) s all lt is bad =
    let parts = and_parts (accepts c S x) (all_accepted c (with_position S x.pos) (take n steps)) all in
    let r = refused_here c (with_position S x.pos) steps n s parts.1 (omega arith) is (grind arith) in
    (and_right (accepts c S x) _ r.0, λ p. grind (arith, r.1 p))
