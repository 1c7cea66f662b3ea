use Rattle.nr_lifting.proofs.Names.{List, [], arith, nat_tests, place, refl, ℕ}
use Rattle.nr_lifting.proofs.LaneViewFacts.{place-lt}
use Rattle.nr_lifting.proofs.PlaneCountFacts.{planes_all, planes_more, planes_rest}
use Rattle.nr_lifting.proofs.lanes.planes.lower_words.Goals as goal

-- the next plane falls
pub loop-b-preserved : goal.loop-b-preserved
loop-b-preserved g c =
    planes_more (List ℕ) place [] place-lt c.args.size c.loop-b.b _ _ _ _ c.loop-b.invariant _ _ _ (omega arith)
    (place-lt c.loop-b.left) refl
    (λ t below. c.fall-left.ensures.falls t (omega (arith, below)))
    (λ t below. c.fall-left.ensures.borrows t (omega (arith, below)))

-- no borrow is left, and the planes from plane b on are unchanged
pub returns-then-is_blank : goal.returns-then-is_blank
returns-then-is_blank g c =
    let rest = planes_rest (List ℕ) place [] place-lt c.args.size c.loop-b.b _ _ _ _ c.loop-b.invariant g.row.P
    (λ t _. grind (arith, nat_tests, c.is_blank.ensures.0 c.if-is_blank.true t, place-lt)) (omega arith) in
    planes_all (List ℕ) place [] place-lt c.args.size g.row.P _ _ _ _ rest (omega arith)
    (place-lt c.loop-b.left) c.requires.enough

pub returns-after-loop-b : goal.returns-after-loop-b
returns-after-loop-b g c =
    planes_all (List ℕ) place [] place-lt c.args.size c.loop-b.b _ _ _ _ c.loop-b.invariant (omega arith)
    (place-lt c.loop-b.left) c.requires.enough
