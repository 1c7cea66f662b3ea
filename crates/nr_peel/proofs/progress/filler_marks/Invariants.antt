use Rattle.nr_peel.proofs.Common.{◌≡◌, ℕ, length, bit, filler, lifted_checks}
use Rattle.nr_peel.proofs.progress.filler_marks.Given as goal

-- the fillers so far are marked
abbrev pub invariant-loop-pos : goal.invariant-loop-pos
invariant-loop-pos l = record {
  marked : (q : ℕ) → bit l.marks.items q ≡ filler l.lifted.plan.kdash l.pos q;
  long : length l.marks.items ≡ (lifted_checks l.lifted).size;
}
