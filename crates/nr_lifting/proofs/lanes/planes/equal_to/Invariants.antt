use Rattle.nr_lifting.proofs.Names.{IsClear, digits_below, is_set, ℕ, ◌%◌, ◌&&◌, ◌==◌, ◌^◌, ◌≡◌}
use Rattle.nr_lifting.proofs.PlaneLaneFacts.{plane_digit}
use Rattle.nr_lifting.proofs.lanes.planes.equal_to.Given as goal

-- of the lane's places, those are marked whose lower digits, before digit b, are the number's
abbrev pub invariant-loop-b : goal.invariant-loop-b
invariant-loop-b g l = record {
  bits : (t : ℕ) → is_set l.same t ≡ (is_set l.lane t && (digits_below l.b (plane_digit l.planes t) == l.n % 2 ^ l.b));
  clear : (m : ℕ) → IsClear l.lane m → IsClear l.same m;
}
