use Rattle.nr_lifting.proofs.Names.{digits_below, length, ℕ, ◌%◌, ◌*◌, ◌<◌, ◌^◌, ◌≡◌}
use Rattle.nr_lifting.proofs.PlaneLaneFacts.{plane_digit}
use Rattle.nr_lifting.proofs.lanes.planes.planes_of.Given as goal

-- the planes before plane b write the lower digits
abbrev pub invariant-loop-b : goal.invariant-loop-b
invariant-loop-b g l = record {
  numbers : (t : ℕ) → t < 64 * g.row.W → digits_below l.b (plane_digit l.planes t) ≡ l.n % 2 ^ l.b;
  long : length l.planes ≡ g.row.P;
}
